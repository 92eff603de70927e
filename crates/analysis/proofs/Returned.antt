-- The variables that a scope's returns hand back: each stands in a return of the program, the guest's or a record's. Assumes nothing.
use mathlib.Core.Path.{◌≡◌, refl, sym, ap, ap₂, subst, ◌∙◌}
use mathlib.Core.Logic.{◌⊎◌, inl, inr}
use mathlib.Core.List.{List, [], ◌∷◌, ◌++◌, Memᴰ}
use mathlib.Core.Bool.{Bool, true, false, cond}
use Prim.Native.Nat.{ℕ, ◌<◌}
use native.Mathlib.Omega.{arith}
use lib.ListN.{length}
use lib.Dec.{eqb}
use borrow.Author.Tests.{eqb-true, eq-eqb}
use Rattle.layout.specs.Layout.{fields_of}
use Rattle.format.specs.Sheet.{Sheet}
use Rattle.format.specs.Fields.{Fits}
use Rattle.format.specs.Records.{Record, field}
use Rattle.format.specs.Reading.{Reading}
use Rattle.format.proofs.Fields.{fits-length}
use Rattle.format.proofs.Ready.{Among, AllFit, Made}
use Rattle.program.specs.Statement as say
use Rattle.program.specs.Statement.{statements_of}
use Rattle.program.specs.Program.{Program, no_record_position, placed, function_made, guest_statements, guests_statements, host_statements, guest_three, guests_of, program_of, statements, returned_by, returns_in, returns_of}
use Rattle.program.proofs.Held.{made-either}
use Rattle.analysis.proofs.Stated.{Stated, AllStated, by_kind}
use Rattle.analysis.proofs.Proper.{Proper}

-- only a return in the scope hands anything back
returned-only : (f : ℕ) (a : say.Statement) (v : ℕ) → Memᴰ v (returned_by f a) → a ≡ say.return f v
returned-only f (say.named x n) v i = absurd (mathlib.Core.List.Memᴰ.not-nil i)
returned-only f (say.grant x b) v i = absurd (mathlib.Core.List.Memᴰ.not-nil i)
returned-only f (say.property l n m) v i = absurd (mathlib.Core.List.Memᴰ.not-nil i)
returned-only f (say.held x l) v i = absurd (mathlib.Core.List.Memᴰ.not-nil i)
returned-only f (say.copy k y x) v i = absurd (mathlib.Core.List.Memᴰ.not-nil i)
returned-only f (say.load k y x key w) v i = absurd (mathlib.Core.List.Memᴰ.not-nil i)
returned-only f (say.store k x key a) v i = absurd (mathlib.Core.List.Memᴰ.not-nil i)
returned-only f (say.make k y l) v i = absurd (mathlib.Core.List.Memᴰ.not-nil i)
returned-only f (say.make_function k y l q) v i = absurd (mathlib.Core.List.Memᴰ.not-nil i)
returned-only f (say.call k y c t args) v i = absurd (mathlib.Core.List.Memᴰ.not-nil i)
returned-only f (say.new k y c t l args) v i = absurd (mathlib.Core.List.Memᴰ.not-nil i)
returned-only f (say.return k x) v i = go (eqb k f) refl i
  where
    go : (b : Bool) → eqb k f ≡ b → Memᴰ v (cond b (x ∷ []) []) → say.return k x ≡ say.return f v
    go true e j = let p = eqb-true k f e in let q = mathlib.Core.List.Memᴰ.eq_of_singleton j in cc
    go false e j = absurd (mathlib.Core.List.Memᴰ.not-nil j)
returned-only f (say.throw k x) v i = absurd (mathlib.Core.List.Memᴰ.not-nil i)
returned-only f (say.catch k y) v i = absurd (mathlib.Core.List.Memᴰ.not-nil i)
returned-only f (say.prim k x) v i = absurd (mathlib.Core.List.Memᴰ.not-nil i)

returned-itself : (f v : ℕ) → Memᴰ v (returned_by f (say.return f v))
returned-itself f v = rw (eq-eqb f f refl) (mathlib.Core.List.Memᴰ.head refl)

-- v is handed back in scope f exactly where such a return stands in the list
pub returns-in : (f : ℕ) (ss : List (ℕ × say.Statement)) (v : ℕ) → Memᴰ v (returns_in f ss) → (at : ℕ) × Memᴰ (at, say.return f v) ss
unfolding returns_in
returns-in f [] v i = absurd (mathlib.Core.List.Memᴰ.not-nil i)
returns-in f (a ∷ ss) v i = go (mathlib.Core.List.Memᴰ.append_cases (returned_by f a.1) i) (returns-in f ss v)
  where
    go : Memᴰ v (returned_by f a.1) ⊎ Memᴰ v (returns_in f ss) → (Memᴰ v (returns_in f ss) → (at : ℕ) × Memᴰ (at, say.return f v) ss)
        → (at : ℕ) × Memᴰ (at, say.return f v) (a ∷ ss)
    go (inl j) rest = (a.0, mathlib.Core.List.Memᴰ.head (ap (λ (x : say.Statement). (a.0, x)) (sym (returned-only f a.1 v j))))
    go (inr j) rest = let r = rest j in (r.0, mathlib.Core.List.Memᴰ.tail r.1)

pub in-returns : (f : ℕ) (ss : List (ℕ × say.Statement)) (v at : ℕ) → Memᴰ (at, say.return f v) ss → Memᴰ v (returns_in f ss)
unfolding returns_in
in-returns f [] v at i = absurd (mathlib.Core.List.Memᴰ.not-nil i)
in-returns f (a ∷ ss) v at i = go (mathlib.Core.List.Memᴰ.cases_cons i) (in-returns f ss v at)
  where
    go : ((at, say.return f v) ≡ a) ⊎ Memᴰ {A = ℕ × say.Statement} (at, say.return f v) ss
        → (Memᴰ {A = ℕ × say.Statement} (at, say.return f v) ss → Memᴰ v (returns_in f ss))
        → Memᴰ v (returned_by f a.1 ++ returns_in f ss)
    go (inl e) rest =
        mathlib.Core.List.Memᴰ.append_left (returns_in f ss)
        (subst (λ (x : ℕ × say.Statement). Memᴰ v (returned_by f x.1)) e (returned-itself f v))
    go (inr j) rest = mathlib.Core.List.Memᴰ.append_right (returned_by f a.1) (rest j)

-- the variables handed back are variables
stated-at : (s : Sheet) (ss : List (ℕ × say.Statement)) → AllStated s ss → (at : ℕ) (a : say.Statement) → Memᴰ (at, a) ss → Stated s a
stated-at s [] h at a i = absurd (mathlib.Core.List.Memᴰ.not-nil i)
stated-at s (b ∷ ss) h at a i =
    elim (mathlib.Core.List.Memᴰ.cases_cons i) [
      | inl e ↦ subst (λ (x : ℕ × say.Statement). Stated s x.1) (sym e) h.0
      | inr j ↦ stated-at s ss h.1 at a j
    ]

pub returns-below : (L : ℕ) (p : Program) → Proper L p → (f v : ℕ) → Memᴰ v (returns_of p f) → v < 256
unfolding returns_of
returns-below L p o f v i = let r = returns-in f (statements p) v i in (stated-at p.sheet (statements p) o.all-stated r.0 (say.return f v) r.1).1

-- ---- returns and their records

two_bytes : (b : List ℕ) → length b ≡ 2 → b ≡ field b 0 ∷ field b 1 ∷ []
two_bytes [] e = absurd (omega arith)
two_bytes (x ∷ []) e = absurd (omega arith)
two_bytes (x ∷ y ∷ []) e = refl
two_bytes (x ∷ y ∷ z ∷ b) e = absurd (omega arith)

-- what a record's statements hand back: only kind 23 hands anything back
record-returns : (at f v : ℕ) (r : Record) → Memᴰ v (returns_in f (placed at (statements_of r)))
    → (r.kind ≡ 23) × (field r.body 0 ≡ f) × (field r.body 1 ≡ v)
unfolding statements_of returns_in
record-returns at f v r =
    by_kind P k 5 _ _ (λ e. named (eqb (field b 2) 255))
    (by_kind P k 6 _ _ nothing
    (by_kind P k 7 _ _ nothing
    (by_kind P k 8 _ _ nothing
    (by_kind P k 16 _ _ nothing
    (by_kind P k 17 _ _ nothing
    (by_kind P k 18 _ _ nothing
    (by_kind P k 19 _ _ nothing
    (by_kind P k 20 _ _ nothing
    (by_kind P k 21 _ _ nothing
    (by_kind P k 22 _ _ nothing
    (by_kind P k 23 _ _ (λ e i. handed e (eqb (field b 0) f) refl i)
    (by_kind P k 24 _ _ nothing
    (by_kind P k 25 _ _ nothing
    (by_kind P k 26 _ _ nothing
    (λ i. absurd (mathlib.Core.List.Memᴰ.not-nil i))))))))))))))))
  where
    k : ℕ
    k = r.kind

    b : List ℕ
    b = r.body

    Back : Type 0
    Back = (k ≡ 23) × (field b 0 ≡ f) × (field b 1 ≡ v)

    P : List say.Statement → Type 0
    P A = Memᴰ v (returns_in f (placed at A)) → Back

    nothing : {j : ℕ} → k ≡ j → Memᴰ v [] → Back
    nothing e i = absurd (mathlib.Core.List.Memᴰ.not-nil i)

    named : (c : Bool) → Memᴰ v (returns_in f (placed at (cond c [] (say.named (field b 0) (field b 2) ∷ [])))) → Back
    named true i = absurd (mathlib.Core.List.Memᴰ.not-nil i)
    named false i = absurd (mathlib.Core.List.Memᴰ.not-nil i)

    handed : k ≡ 23 → (c : Bool) → eqb (field b 0) f ≡ c → Memᴰ v (cond c (field b 1 ∷ []) [] ++ []) → Back
    handed e true q (i) = (e, eqb-true _ _ q, sym (mathlib.Core.List.Memᴰ.eq_of_singleton i))
    handed e false q i = absurd (mathlib.Core.List.Memᴰ.not-nil i)

host-returns : (L : ℕ) (s : Sheet) (f v : ℕ) (qs : List (ℕ × Record)) → AllFit L s qs → (at : ℕ)
    → Memᴰ (at, say.return f v) (host_statements qs) → Among 23 (f ∷ v ∷ []) qs
unfolding host_statements
host-returns L s f v [] fit at i = absurd (mathlib.Core.List.Memᴰ.not-nil i)
host-returns L s f v (q ∷ qs) fit at i =
    go (mathlib.Core.List.Memᴰ.append_cases (placed q.0 (statements_of q.1)) i) (host-returns L s f v qs (λ a r j. fit a r (mathlib.Core.List.Memᴰ.tail j)) at)
  where
    go : Memᴰ {A = ℕ × say.Statement} (at, say.return f v) (placed q.0 (statements_of q.1))
        ⊎ Memᴰ {A = ℕ × say.Statement} (at, say.return f v) (host_statements qs)
        → (Memᴰ {A = ℕ × say.Statement} (at, say.return f v) (host_statements qs) → Among 23 (f ∷ v ∷ []) qs) → Among 23 (f ∷ v ∷ []) (q ∷ qs)
    go (inl j) rest =
        let h = record-returns q.0 f v q.1 (in-returns f _ v at j) in
        let n = fits-length L s _ _ (subst (λ (k : ℕ). Fits L s (fields_of k) q.1.body) h.0 (fit q.0 q.1 (mathlib.Core.List.Memᴰ.head refl)).1) in
        let e = two_bytes q.1.body n in
        let w : q.1 ≡ record { kind = 23; body = f ∷ v ∷ [] } = ap₂ (λ (k : ℕ) (c : List ℕ). record { kind = k; body = c }) h.0
        (e ∙ ap₂ (λ (x y : ℕ). x ∷ y ∷ []) h.1 h.2) in
        record { position = q.0; member = mathlib.Core.List.Memᴰ.head (ap (λ (r : Record). (q.0, r)) (sym w)) }
    go (inr j) rest = let a = rest j in record { position = a.position; member = mathlib.Core.List.Memᴰ.tail a.member }

returns-host : (f v : ℕ) (qs : List (ℕ × Record)) (at : ℕ) → Memᴰ (at, record { kind = 23; body = f ∷ v ∷ [] }) qs
    → Memᴰ (at, say.return f v) (host_statements qs)
unfolding host_statements statements_of
returns-host f v [] at i = absurd (mathlib.Core.List.Memᴰ.not-nil i)
returns-host f v (q ∷ qs) at i = go (mathlib.Core.List.Memᴰ.cases_cons i) (returns-host f v qs at)
  where
    Return : ℕ × Record
    Return = (at, record { kind = 23; body = f ∷ v ∷ [] })

    go : (Return ≡ q) ⊎ Memᴰ Return qs → (Memᴰ Return qs → Memᴰ {A = ℕ × say.Statement} (at, say.return f v) (host_statements qs))
        → Memᴰ {A = ℕ × say.Statement} (at, say.return f v) (placed q.0 (statements_of q.1) ++ host_statements qs)
    go (inl e) rest =
        mathlib.Core.List.Memᴰ.append_left (host_statements qs)
        (subst (λ (x : ℕ × Record). Memᴰ {A = ℕ × say.Statement} (at, say.return f v) (placed x.0 (statements_of x.1))) e (mathlib.Core.List.Memᴰ.head refl))
    go (inr j) rest = mathlib.Core.List.Memᴰ.append_right (placed q.0 (statements_of q.1)) (rest j)

-- ---- the guest's return, and the records'

-- a return in scope k hands back v: the guest's bag in scope 3, else by a record
abbrev pub HandsBack : List (ℕ × Record) → ℕ → ℕ → Type 0
HandsBack ps k v = ((k ≡ 3) × (v ≡ 1)) ⊎ Among 23 (k ∷ v ∷ []) ps

module _ (L : ℕ) (d : Reading) (m : Made L d.sheet d.records) where
  pub returns-handed : (f v : ℕ) → Memᴰ v (returns_of (program_of d) f) → HandsBack d.records f v
  unfolding returns_of statements program_of guests_statements guest_statements returns_in
  returns-handed f v i = let r = returns-in f (statements (program_of d)) v i in
      go r.0 (mathlib.Core.List.Memᴰ.append_cases (guests_statements (guests_of d.sheet)) r.1)
    where
      guest : (c : Bool) → eqb 3 f ≡ c → Memᴰ v (cond c (1 ∷ []) [] ++ []) → HandsBack d.records f v
      guest true e j = inl (sym (eqb-true 3 f e), mathlib.Core.List.Memᴰ.eq_of_singleton j)
      guest false e j = absurd (mathlib.Core.List.Memᴰ.not-nil j)

      -- to make a function hands nothing back, in either way
      made : returned_by f (function_made (guest_three d.sheet)) ≡ []
      made = made-either (λ a. returned_by f a ≡ []) (guest_three d.sheet) refl refl

      shown : Memᴰ v (returns_in f (guests_statements (guests_of d.sheet))) → HandsBack d.records f v
      shown j = guest (eqb 3 f) refl (rw made at j)

      go : (at : ℕ) → Memᴰ {A = ℕ × say.Statement} (at, say.return f v) (guests_statements (guests_of d.sheet))
          ⊎ Memᴰ {A = ℕ × say.Statement} (at, say.return f v) (host_statements d.records) → HandsBack d.records f v
      go at (inl j) = shown (in-returns f (guests_statements (guests_of d.sheet)) v at j)
      go at (inr j) = inr (host-returns L d.sheet f v d.records m.all_fit at j)

  pub handed-returns : (f v : ℕ) → HandsBack d.records f v → Memᴰ v (returns_of (program_of d) f)
  unfolding returns_of statements program_of guests_statements guest_statements
  handed-returns f v (inl e) =
      let guests : Memᴰ {A = ℕ × say.Statement} (no_record_position, say.return 3 1) (guests_statements (guests_of d.sheet)) =
      mathlib.Core.List.Memᴰ.tail (mathlib.Core.List.Memᴰ.tail (mathlib.Core.List.Memᴰ.tail (mathlib.Core.List.Memᴰ.tail (mathlib.Core.List.Memᴰ.tail (mathlib.Core.List.Memᴰ.head refl))))) in
      subst (λ (k : ℕ). Memᴰ v (returns_of (program_of d) k)) (sym e.0)
      (subst (λ (x : ℕ). Memᴰ x (returns_of (program_of d) 3)) (sym e.1)
      (in-returns 3 (statements (program_of d)) 1 no_record_position
      (mathlib.Core.List.Memᴰ.append_left (host_statements d.records) guests)))
  handed-returns f v (inr a) =
      in-returns f (statements (program_of d)) v a.position
      (mathlib.Core.List.Memᴰ.append_right (guests_statements (guests_of d.sheet)) (returns-host f v d.records a.position a.member))
