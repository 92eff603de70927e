-- Premises: a listed set is held by the table, and the rule tells the fact; and each fact that is told has a set listed.
-- Assumes nothing.
use mathlib.Core.Path.{◌≡◌, refl, ap, sym, subst}
use mathlib.Core.Logic.{◌⊎◌, inl, inr}
use mathlib.Core.List.Memᴰ
use mathlib.Core.List.{List, [], ◌∷◌, ◌++◌, Memᴰ}
use mathlib.Core.Bool.{Bool, true, false, ◌&&◌}
use Prim.Native.Nat.{ℕ}
use lib.Dec.{eqb, eqb→eq, eqb_refl, ltb, ltb→lt, lt→ltb, T}
use lib.ListN.{get_or}
use Rattle.words.specs.Words.{bit}
use Rattle.rows.specs.Row.{number}
use Rattle.rules.specs.Table.{Table, Has, Small}
use Rattle.rules.specs.Rule.{Rule, none, give, include, each, over, both}
use Rattle.rules.specs.Told.{Told}
use Rattle.rules.specs.Round.{labels}
use Rattle.rules.specs.Premises.{PremiseSet, AllHeld, only_if, after, gather, premises}
use Rattle.rules.proofs.Labels.{label-on, on-label}
use Rattle.rules.proofs.Table.{has-label}

-- ---- the lists

gathered : (f : ℕ → List PremiseSet) (xs : List ℕ) (s : PremiseSet) → Memᴰ s (gather f xs) → (x : ℕ) × Memᴰ x xs × Memᴰ s (f x)
gathered f [] s m = absurd (Memᴰ.not-nil m)
gathered f (x ∷ xs) s m =
    elim (Memᴰ.append_cases (f x) m) [
      | inl q ↦ (x, Memᴰ.head refl, q)
      | inr q ↦ (let r = gathered f xs s q in (r.0, Memᴰ.tail r.1, r.2))
    ]

in-gather : (f : ℕ → List PremiseSet) (xs : List ℕ) (s : PremiseSet) (x : ℕ) → Memᴰ x xs → Memᴰ s (f x) → Memᴰ s (gather f xs)
in-gather f [] s x m i = absurd (Memᴰ.not-nil m)
in-gather f (y ∷ xs) s x m i = go (Memᴰ.cases_cons m) (λ q. in-gather f xs s x q i)
  where
    go : (x ≡ y) ⊎ Memᴰ x xs → (Memᴰ x xs → Memᴰ s (gather f xs)) → Memᴰ s (f y ++ gather f xs)
    go (inl e) rest = Memᴰ.append_left (gather f xs) (subst (λ (z : ℕ). Memᴰ s (f z)) e i)
    go (inr q) rest = Memᴰ.append_right (f y) (rest q)

put_first : (f : ℕ × ℕ) (xs : List PremiseSet) (s : PremiseSet) → Memᴰ s (after f xs) → (x : PremiseSet) × (s ≡ f ∷ x) × Memᴰ x xs
put_first f [] s m = absurd (Memᴰ.not-nil m)
put_first f (x ∷ xs) s m =
    elim (Memᴰ.cases_cons m) [
      | inl e ↦ (x, e, Memᴰ.head refl)
      | inr q ↦ (let r = put_first f xs s q in (r.0, r.1, Memᴰ.tail r.2))
    ]

in_after : (f : ℕ × ℕ) (xs : List PremiseSet) (s : PremiseSet) → Memᴰ s xs → Memᴰ (f ∷ s) (after f xs)
in_after f [] s m = absurd (Memᴰ.not-nil m)
in_after f (x ∷ xs) s m =
    elim (Memᴰ.cases_cons m) [
      | inl e ↦ Memᴰ.head (ap (λ (z : PremiseSet). f ∷ z) e)
      | inr q ↦ Memᴰ.tail (in_after f xs s q)
    ]

tested : (a b c : Bool) (x s : PremiseSet) → Memᴰ s (only_if (a && (b && c)) (x ∷ [])) → T a × T b × T c × (s ≡ x)
tested true true true x s m = (tt, tt, tt, Memᴰ.eq_of_singleton m)
tested true true false x s m = absurd (Memᴰ.not-nil m)
tested true false c x s m = absurd (Memᴰ.not-nil m)
tested false b c x s m = absurd (Memᴰ.not-nil m)

passes : (a b c : Bool) (x : PremiseSet) → T a → T b → T c → Memᴰ x (only_if (a && (b && c)) (x ∷ []))
passes true true true x ha hb hc = Memᴰ.head refl
passes true true false x ha hb hc = absurd hc
passes true false c x ha hb hc = absurd hb
passes false b c x ha hb hc = absurd ha

same : {m n : ℕ} → m ≡ n → T (eqb m n)
same {m} {n} e = rw e (eqb_refl n)

-- ---- a listed set is held, and the rule tells the fact

pub premises-told : (L : ℕ) (t : Table) (p : Rule) (r l : ℕ) (s : PremiseSet) → Memᴰ s (premises L t p r l) → AllHeld t s × Told L t p r l
unfolding premises
premises-told L t none r l s m = absurd (Memᴰ.not-nil m)
premises-told L t (give y k) r l s m =
    let q = tested (ltb 0 (number L y)) (eqb r (number L y)) (eqb l k) [] s m in (
      subst (λ (z : PremiseSet). AllHeld t z) (sym q.3) tt,
      (ltb→lt 0 (number L y) q.0, eqb→eq r (number L y) q.1, eqb→eq l k q.2),
    )
premises-told L t (include y x) r l s m =
    let q = tested (ltb 0 (number L y)) (eqb r (number L y)) (eqb (bit (get_or t (number L x) 0) l) 1) ((number L x, l) ∷ []) s m in
    let h : Has t (number L x) l = eqb→eq (bit (get_or t (number L x) 0) l) 1 q.2 in
    (subst (λ (z : PremiseSet). AllHeld t z) (sym q.3) (h, tt), (ltb→lt 0 (number L y) q.0, eqb→eq r (number L y) q.1, h))
premises-told L t (each x k) r l s m =
    let w = get_or t (number L x) 0 in
    let g = gathered (λ n. after (number L x, n) (premises L t (k n) r l)) (labels L w) s m in
    let a = put_first (number L x, g.0) (premises L t (k g.0) r l) s g.2 in
    let rest = premises-told L t (k g.0) r l a.0 a.2 in
    let h = (label-on L w g.0 g.1).1 in
    (subst (λ (q : PremiseSet). AllHeld t q) (sym a.1) (h, rest.0), (g.0, h, rest.1))
premises-told L t (over xs k) r l s m =
    let g = gathered (λ n. premises L t (k n) r l) xs s m in
    let rest = premises-told L t (k g.0) r l s g.2 in
    (rest.0, (g.0, g.1, rest.1))
premises-told L t (both p q) r l s m =
    go (Memᴰ.append_cases (premises L t p r l) m) (premises-told L t p r l s) (premises-told L t q r l s)
  where
    go : Memᴰ s (premises L t p r l) ⊎ Memᴰ s (premises L t q r l) → (Memᴰ s (premises L t p r l) → AllHeld t s × Told L t p r l)
        → (Memᴰ s (premises L t q r l) → AllHeld t s × Told L t q r l) → AllHeld t s × Told L t (both p q) r l
    go (inl h) f g = let o = f h in (o.0, inl o.1)
    go (inr h) f g = let o = g h in (o.0, inr o.1)

-- ---- a fact that is told has a set listed

pub told-premises : (L : ℕ) (t : Table) → Small L t → (p : Rule) (r l : ℕ) → Told L t p r l → (s : PremiseSet) × Memᴰ s (premises L t p r l)
unfolding premises
told-premises L t small none r l h = absurd h
told-premises L t small (give y k) r l h =
    ([], passes (ltb 0 (number L y)) (eqb r (number L y)) (eqb l k) [] (lt→ltb 0 (number L y) h.0) (same h.1) (same h.2))
told-premises L t small (include y x) r l h =
    let s : PremiseSet = (number L x, l) ∷ [] in (
      s,
      passes (ltb 0 (number L y)) (eqb r (number L y)) (eqb (bit (get_or t (number L x) 0) l) 1) s (lt→ltb 0 (number L y) h.0) (same h.1)
          (same h.2),
    )
told-premises L t small (each x k) r l h =
    let w = get_or t (number L x) 0 in
    let rest = told-premises L t small (k h.0) r l h.2 in
    let s : PremiseSet = (number L x, h.0) ∷ rest.0 in (
      s,
      in-gather (λ n. after (number L x, n) (premises L t (k n) r l)) (labels L w) s h.0
          (on-label L w h.0 (has-label L t small (number L x) h.0 h.1) h.1)
          (in_after (number L x, h.0) (premises L t (k h.0) r l) rest.0 rest.1),
    )
told-premises L t small (over xs k) r l h =
    let rest = told-premises L t small (k h.0) r l h.2 in
    (rest.0, in-gather (λ n. premises L t (k n) r l) xs rest.0 h.0 h.1 rest.1)
told-premises L t small (both p q) r l (inl h) =
    let rest = told-premises L t small p r l h in (rest.0, Memᴰ.append_left (premises L t q r l) rest.1)
told-premises L t small (both p q) r l (inr h) =
    let rest = told-premises L t small q r l h in (rest.0, Memᴰ.append_right (premises L t p r l) rest.1)
