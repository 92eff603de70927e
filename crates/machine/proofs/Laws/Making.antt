-- Laws of make and make function: for every program, state, frame and choice, what a step can bring about. Assumes nothing.
use mathlib.Core.Path.{◌≡◌, refl, ◌∙◌}
use mathlib.Core.List.{List, [], ◌∷◌, Memᴰ}
use mathlib.Core.Bool.{Bool, true, false, ◌||◌}
use mathlib.Core.Option.{Option, none}
use Prim.Native.Nat.{ℕ, suc, ◌<◌}
use native.Mathlib.Omega.{arith}
use native.Mathlib.Decide.{ℕ_discrete}
use borrow.Author.Tests.{eq-eqb, ne_eqb}
use lib.ListN.{length, length-append}
use lib.Seq.{get_or-append_seam}
use lib.Dec.{eqb}
use Rattle.program.specs.Program.{Program, Guest}
use Rattle.machine.specs.State.{Value, object, Object, State, no_object, with_object, with_value, stored}
use Rattle.machine.specs.Variable.{global_object}
use Rattle.machine.specs.Property.{prototype_of_type, is_guest, prototype_for, fresh, next}
use Rattle.machine.specs.Grown.{Grown}
use Rattle.machine.specs.Laws.{Makes, MakesFunction}
use Rattle.machine.specs.Effect.{Spares, TypePrototype, plain, function, array, Prototype, of-host, of-guest, Made}
use Rattle.machine.proofs.Laws.Grown.{grown-refl, grown-trans, grown-object, grown-write}
use Rattle.machine.proofs.Laws.Writing.{writable-stays}
use Rattle.machine.proofs.Laws.Sparing.{spares-both, spares-object, puts, put-since}
use Rattle.machine.proofs.Laws.Acting.{prototypes, acts}

-- ---- prototypes

pub by-type : {t q : ℕ} → TypePrototype t q → prototype_of_type t ≡ object q
by-type plain = refl
by-type function = refl
by-type array = refl

by-choice : {t q : ℕ} → TypePrototype t q → (c : ℕ) × (prototype_of_type (suc c) ≡ object q)
by-choice plain = (0, refl)
by-choice function = (1, refl)
by-choice array = (2, refl)

is-guest : (gs : List Guest) (l : ℕ) {g : Guest} → Memᴰ g gs → g.label ≡ l → is_guest gs l ≡ true
is-guest [] l m q = elim m [ ]
is-guest (h ∷ gs) l (Memᴰ.head e) q = rw (eq-eqb h.label l (rw e at q))
is-guest (h ∷ gs) l (Memᴰ.tail m) q = go (eqb h.label l) (is-guest gs l m q)
  where
    go : (b : Bool) → is_guest gs l ≡ true → (b || is_guest gs l) ≡ true
    go true e = refl
    go false e = e

is-no-guest : (gs : List Guest) (l : ℕ) → ((g : Guest) → Memᴰ g gs → g.label ≡ l → ⊥) → is_guest gs l ≡ false
is-no-guest [] l n = refl
is-no-guest (h ∷ gs) l n = rw (ne_eqb h.label l (n h (Memᴰ.head refl))) (is-no-guest gs l (λ g m. n g (Memᴰ.tail m)))

-- "its objects take prototype 1, 2 or 4, and those of the host the one of their type"
pub can-take : {p : Program} {l q : ℕ} → Prototype p l q → (c : ℕ) × (prototype_for p l c ≡ object q)
can-take {p} {l} (of-host n t) = (0, rw (is-no-guest p.guests l n) (by-type t))
can-take {p} {l} (of-guest g m e _ t) = let r = by-choice t in (r.0, rw (is-guest p.guests l m e) r.1)

-- ---- what is made

pub made-last : (s : State) (o : Object) {q : ℕ} {r : Option Value} → o.prototype ≡ object q → o.values 3 0 ≡ r
    → ((n j : ℕ) → (n ≡ 3 → j ≡ 0 → ⊥) → o.values n j ≡ none) → Made s (with_object s o) (length s.objects) o.kept o.label q r
made-last s o e e' e'' =
    let seam = get_or-append_seam s.objects o [] no_object in
    record {
      was-not-there = omega arith;
      is-there = omega (arith, length-append s.objects (o ∷ []));
      label_is = rw seam;
      prototype-is = rw seam e;
      made_in = rw seam;
      has = rw seam e';
      has-no-other = λ n j h. rw seam (e'' n j h);
    }

-- it is new, and the same, also where a step does more before and after
pub made-stays : {p : Program} {s₀ s s' s₁ : State} {vs : List ℕ} {i f l q : ℕ} {r : Option Value} → Grown s₀ s → Grown s' s₁ → Spares p s' s₁ vs
    → global_object < length s₀.objects → Made s s' i f l q r → Made s₀ s₁ i f l q r
made-stays {i = i} b a c g h =
    let o = a.same-objects i h.is-there in
    let new : i ≡ global_object → ⊥ = λ (e : i ≡ global_object). omega (arith, b.more-objects, h.was-not-there) in
    let same : (n j : ℕ) → _ = λ n j. c.pairs-stay i n j h.is-there (λ v m w e z. new e) in
    record {
      was-not-there = omega (arith, b.more-objects, h.was-not-there);
      is-there = omega (arith, a.more-objects, h.is-there);
      label_is = o.same-label ∙ h.label_is;
      prototype-is = o.same-prototype ∙ h.prototype-is;
      made_in = o.same_kept ∙ h.made_in;
      has = same 3 0 ∙ h.has;
      has-no-other = λ n j k. same n j ∙ h.has-no-other n j k;
    }

-- a function has nothing but what is under (3, 0)
nothing-else : (x : Value) (n j : ℕ) → (n ≡ 3 → j ≡ 0 → ⊥) → stored (λ n j. none) 3 0 x n j ≡ none
nothing-else x n j h = go (ℕ_discrete n 3) (ℕ_discrete j 0)
  where
    go : Dec (n ≡ 3) → Dec (j ≡ 0) → stored (λ n j. none) 3 0 x n j ≡ none
    go (no e) d = rw (ne_eqb n 3 e)
    go (yes e) (no e') = rw (eq-eqb n 3 e, ne_eqb j 0 e')
    go (yes e) (yes e') = absurd (h e e')

pub make-makes : (p : Program) (s : State) (f k : ℕ) → Makes p s f k
make-makes p s f k here global y l q says t w =
    let c = can-take t in
    let o = fresh l (prototype_for p l c.0) f in
    let s' = with_object s o in
    let put = puts (next s) (writable-stays (grown-object s o) w) in
    acts says here refl (prototypes c.0 0)
    (λ _. (
      length s.objects,
      made-stays (grown-refl s) (grown-write p s' f y (next s)) put.spares global (made-last s o c.1 refl (λ n j h. refl)),
      put-since (grown-object s o) (spares-object s o) put,
    ))

pub make-function-makes : (p : Program) (s : State) (f k : ℕ) → MakesFunction p s f k
make-function-makes p s f k here global y l q a b says t t' w =
    let c = can-take t in
    let c' = can-take t' in
    let o' = fresh q (prototype_for p q c'.0) f in
    let o = with_value (fresh l (prototype_for p l c.0) f) 3 0 (next s) in
    let s' = with_object s o' in
    let s'' = with_object s' o in
    let both = grown-trans (grown-object s o') (grown-object s' o) in
    let put = puts (next s') (writable-stays both w) in
    let last = grown-write p s'' f y (next s') in
    acts says here refl (prototypes c.0 c'.0)
    (λ _. (
      length s'.objects,
      length s.objects,
      made-stays (grown-object s o') last put.spares global (made-last s' o c.1 refl (nothing-else (next s))),
      made-stays (grown-refl s) (grown-trans (grown-object s' o) last) (spares-both (grown-object s' o) (spares-object s' o) put.spares) global
          (made-last s o' c'.1 refl (λ n j h. refl)),
      put-since both (spares-both (grown-object s o') (spares-object s o') (spares-object s' o)) put,
    ))
