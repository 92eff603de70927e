-- The law of new: for every program, state, frame and choice, what a step can bring about. Assumes nothing.
use mathlib.Core.Path.{◌≡◌, refl, sym, ap, ◌∙◌, subst}
use mathlib.Core.List.Memᴰ
use mathlib.Core.List.{List, ◌∷◌}
use mathlib.Core.Bool.{Bool, true}
use mathlib.Core.Option.{Option, some}
use Prim.Native.Nat.{ℕ, ◌<◌}
use native.Mathlib.Omega.{arith}
use lib.ListN.{length}
use Rattle.format.specs.Sheet.{type_of}
use Rattle.program.specs.Program.{Program}
use Rattle.machine.specs.State.{Value, object, State, object_at, with_object}
use Rattle.machine.specs.Variable.{global_object, write}
use Rattle.machine.specs.Property.{fresh, next}
use Rattle.machine.specs.Call.{call_of, prototype_found}
use Rattle.machine.specs.Grown.{Grown}
use Rattle.machine.specs.Seen.{reads_nothing, variable-none, Gets}
use Rattle.machine.specs.Laws.{News}
use Rattle.machine.specs.Effect.{Spares, Takes, takes-found, finds-primitive, finds-nothing, entering, Called, Built}
use Rattle.machine.proofs.Laws.Grown.{grown-refl, grown-trans, grown-object, grown-write, grown-enter}
use Rattle.machine.proofs.Laws.Outward.{begins-there, value_found}
use Rattle.machine.proofs.Laws.Writing.{writable-stays, written, write-spares}
use Rattle.machine.proofs.Laws.Sparing.{spares-both, spares-object, spares-write}
use Rattle.machine.proofs.Laws.Making.{made-last, made-stays}
use Rattle.machine.proofs.Laws.Acting.{pair, acts, can-read-call}
use Rattle.machine.proofs.Laws.Calling.{entered, entered-spares}

takes : {r : Option Value} {q : ℕ} → Takes r q → prototype_found r ≡ object q
takes (takes-found q) = refl
takes finds-primitive = refl
takes finds-nothing = refl

-- a call of object i from a state that came of s makes a frame that s had not
called-since : {p : Program} {s s₁ s' : State} {i f y : ℕ} {by_new : Bool} {x : Value} {xs : List Value} → Grown s s₁ → i < length s.objects
    → Called p s₁ s' i f y by_new x xs → Called p s s' i f y by_new x xs
called-since {p} {s} {s₁} {s'} {i} {x = x} {xs = xs} w l h =
    let same = w.same-objects i l in
    record {
      frame = h.frame;
      was-not-there = omega (arith, w.more-frames, h.was-not-there);
      is-there = h.is-there;
      scope-is = h.scope-is ∙ same.same-label;
      outward-is = h.outward-is ∙ ap some same.same_kept;
      caller-is = h.caller-is;
      passed = λ v u g a. h.passed v u (subst (λ (z : ℕ). Gets p v u (entering p z) (x ∷ xs)) (sym same.same-label) g) a;
    }

-- with an object more, which t and y got, the function is called
built : (p : Program) (s : State) (f y t l q i : ℕ) (xs : List Value) → global_object < length s.objects → i < length s.objects
    → type_of p.sheet (object_at s i).label ≡ 2
    → Built p s (call_of p (write p (write p (with_object s (fresh l (object q) f)) f t (next s)) f y (next s)) f y true (object i) (next s) xs) i f y t l q xs
built p s f y t l q i xs global there e =
    let new = fresh l (object q) f in
    let s₁ = with_object s new in
    let s₂ = write p s₁ f t (next s) in
    let s₃ = write p s₂ f y (next s) in
    let o = object_at s₃ i in
    let grown = grown-trans (grown-write p s₁ f t (next s)) (grown-write p s₂ f y (next s)) in
    let spares = spares-both (grown-write p s₁ f t (next s)) (spares-write p s₁ f t (next s)) (spares-write p s₂ f y (next s)) in
    let since = grown-trans (grown-object s new) grown in
    let same = since.same-objects i there in
    let is-function : type_of p.sheet o.label ≡ 2 = ap (type_of p.sheet) same.same-label ∙ e in
    let entered-sparing = spares-for same.same-label (entered-spares p s₃ i f y true (next s) xs) in
    rw is-function
    (record {
      new-object = length s.objects;
      made =
          made-stays (grown-refl s) (grown-trans grown (grown-enter p s₃ f y true o (next s) xs)) (spares-both grown spares entered-sparing) global
          (made-last s new refl refl (λ n j h. refl));
      in-t = λ a w.
          entered-sparing.variables-stay f t (next s) (λ u m. a u (Memᴰ.tail m))
          (write-spares p s₂ f y (next s) (a y (Memᴰ.head refl)) (written (next s) (writable-stays (grown-object s new) w)));
      in-y = λ a w.
          entered-sparing.variables-stay f y (next s) a
          (written (next s) (writable-stays (grown-trans (grown-object s new) (grown-write p s₁ f t (next s))) w));
      called = called-since since there (entered p s₃ i f y true (next s) xs);
      spares = spares-both since (spares-both (grown-object s new) (spares-object s new) spares) entered-sparing;
    })
  where
    spares-for : {s s' : State} {a b : ℕ} → a ≡ b → Spares p s s' (entering p a) → Spares p s s' (entering p b)
    spares-for {s} {s'} = subst (λ (z : ℕ). Spares p s s' (entering p z))

pub new-builds : (p : Program) (s : State) (f k : ℕ) → News p s f k
new-builds p s f k here global y g t l i j q r args xs says h e d a hs =
    let c = can-read-call h (reads_nothing variable-none) hs in
    acts says here refl (pair c.0 0 j 0) (λ _. rw (c.1, c.3, e, value_found d, takes a) (built p s f y t l q i xs global (begins-there d) e))
