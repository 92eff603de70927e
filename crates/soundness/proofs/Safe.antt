-- Demand 3's claim about runs: a table that the rules leave as it is, and whose row of the bag has nothing forbidden, confines the guest. One
-- statement over every finite list of moves. Assumes nothing.
use mathlib.Core.Path.{refl}
use mathlib.Core.Logic.{inl, inr}
use mathlib.Core.List.Memᴰ
use mathlib.Core.List.{List, [], ◌∷◌, Memᴰ}
use Prim.Native.Nat.{ℕ, ◌≤◌}
use Rattle.rules.specs.Table.{Table, Has}
use Rattle.rules.specs.Told.{Closed}
use Rattle.format.specs.Reading.{Readable}
use Rattle.program.specs.Program.{Program, program_in}
use Rattle.analysis.specs.Rules.{rules}
use Rattle.machine.specs.State.{Value, primitive, object, Object, labels_among, labels_held}
use Rattle.machine.specs.Step.{Move, run}
use Rattle.machine.specs.Start.{start}
use Rattle.soundness.specs.Confined.{Confined, NoneForbidden}
use Rattle.soundness.specs.Described.{Allowed}
use Rattle.soundness.proofs.Values.{holds-label}
use Rattle.soundness.proofs.Setting.{Setting}
use Rattle.soundness.proofs.Steps.{run-described}
use Rattle.soundness.proofs.Start.{start-described}
use Rattle.soundness.proofs.Readable.{readable-setting}

-- the labels among allowed values are in the row
labels-within : {t : Table} {r : ℕ} (os : List Object) (xs : List Value) → ((x : Value) → Memᴰ x xs → Allowed t os r x) → (l : ℕ)
    → Memᴰ l (labels_among os xs) → Has t r l
labels-within os [] h l m = absurd (Memᴰ.not-nil m)
labels-within os (primitive ∷ xs) h l m = labels-within os xs (λ x q. h x (Memᴰ.tail q)) l m
labels-within {t} {r} os (object i ∷ xs) h l m =
    elim (Memᴰ.cases_cons m) [
      | inl e ↦ rw e (holds-label (h (object i) (Memᴰ.head refl)))
      | inr q ↦ labels-within os xs (λ x q. h x (Memᴰ.tail q)) l q
    ]

-- whatever is ever put in a bag has its label in the bag's row
pub held-in-row : {L : ℕ} {t : Table} {p : Program} → Setting L t p → (moves : List Move) (b l : ℕ)
    → Memᴰ l (labels_held (run p moves (start p)) b) → Has t b l
held-in-row {p = p} w moves b l m =
    let d = run-described w moves (start p) (start-described w) in
    labels-within (run p moves (start p)).objects ((run p moves (start p)).bags b) (d.bags-allowed b) l m

module _ (L : ℕ) (xs : List ℕ) (five : 5 ≤ L) (readable : Readable L xs) (t : Table) (closed : Closed L t (rules L (program_in L xs))) where
  -- every object that the guest holds after a run has its label in row bag of the table
  pub held-within : (moves : List Move) (b l : ℕ)
      → Memᴰ l (labels_held (run (program_in L xs) moves (start (program_in L xs))) b) → Has t b l
  held-within = held-in-row (readable-setting L xs five readable t closed)

  -- so no guest ever holds an object of a label that is forbidden to it
  pub safe : NoneForbidden (program_in L xs) t → Confined (program_in L xs)
  safe none moves g i l m f = none g i l (held-within moves g.bag l m) f
