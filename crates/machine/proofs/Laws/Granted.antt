-- The laws put together: what a granted variable holds at the start comes to the guest. Assumes nothing.
use mathlib.Core.Path.{◌≡◌, refl, ap, ◌∙◌, subst}
use mathlib.Core.List.{List, [], ◌∷◌, ◌++◌, Memᴰ}
use Prim.Native.Nat.{ℕ, ◌<◌}
use native.Mathlib.Omega.{arith}
use Rattle.program.specs.Statement as say
use Rattle.program.specs.Program.{Program, Guest}
use Rattle.machine.specs.State.{Value, primitive, object, Object, State, object_in, object_at, labels_among, labels_held}
use Rattle.machine.specs.Step.{Move, step, run}
use Rattle.machine.specs.Start.{top_frame, start}
use Rattle.machine.specs.Seen.{Bag, Holds, in-bag, in-global, in_frame, reads_held, Writable, to-bag}
use Rattle.machine.specs.Begun.{LastOf}
use Rattle.machine.proofs.Laws.Grown.{step-grown}
use Rattle.machine.proofs.Laws.Said.{records-say}
use Rattle.machine.proofs.Laws.Moving.{grant-copies-to-guest}
use Rattle.machine.proofs.Laws.Beginning.{start-top}
use Rattle.machine.proofs.Laws.Filling.{start-held}

-- what a bag holds was put there
in-the-bag : {p : Program} {s : State} {f v : ℕ} {x : Value} → Bag p v → Holds p s f v x → Memᴰ x (s.bags v)
in-the-bag b (in-bag _ m) = m
in-the-bag b (in-global n h e) = absurd (h.no-bag b.guest b.among b.its-bag)
in-the-bag b (in_frame k g h q e) = absurd (h.no-bag b.guest b.among b.its-bag)

label-among : {i : ℕ} (os : List Object) (xs : List Value) → Memᴰ (object i) xs → Memᴰ (object_in os i).label (labels_among os xs)
label-among os [] m = elim m [ ]
label-among os (primitive ∷ xs) (Memᴰ.head e) = let z : ◌≡◌ {A = ℕ} 0 1 = cc in absurd (omega arith)
label-among {i} os (object k ∷ xs) (Memᴰ.head e) = let z : i ≡ k = cc in Memᴰ.head (ap (λ (j : ℕ). (object_in os j).label) z)
label-among os (primitive ∷ xs) (Memᴰ.tail m) = label-among os xs m
label-among os (object k ∷ xs) (Memᴰ.tail m) = Memᴰ.tail (label-among os xs m)

-- a record of kind 8 puts label l in v, a record of kind 6 grants v: some run from the start gives the guest an object of label l
pub granted-is-held : (p : Program) (g : Guest) (at at' v l : ℕ) (before after : List (ℕ × say.Statement)) → Memᴰ g p.guests → 0 < g.bag
    → p.host ≡ before ++ ((at, say.held v l) ∷ after) → LastOf p v after → Writable p (start p) top_frame v
    → Memᴰ (at', say.grant v g.bag) p.host → (moves : List Move) × Memᴰ l (labels_held (run p moves (start p)) g.bag)
granted-is-held p g at at' v l before after among bag is last w m =
    let b : Bag p g.bag = record { not_none = bag; guest = g; among = among; its-bag = refl } in
    let h = start-held p at v l before after is last w in
    let can = grant-copies-to-guest p (start p) top_frame v g.bag (object h.0) (start-top p).0 (records-say p at' (say.grant v g.bag) m) (reads_held (object h.0) h.2) (to-bag b) in
    let s = step p can.move (start p) in
    let e : (object_at s h.0).label ≡ l = ((step-grown p (start p) can.move).same-objects h.0 h.1.is-there).same-label ∙ h.1.label_is in
    (can.move ∷ [], subst (λ (z : ℕ). Memᴰ z (labels_held s g.bag)) e (label-among s.objects (s.bags g.bag) (in-the-bag b can.brings.holds-it)))
