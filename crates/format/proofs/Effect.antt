-- What a well-formed record says and does, kind by kind: the kinds 1 to 5 and 9 write to the sheet, the others leave it alone. Every proof that
-- follows the sheet through a file goes by these seven cases. Assumes nothing.
use mathlib.Core.Path.{◌≡◌, sym, subst}
use mathlib.Core.Logic.{◌⊎◌, inl, inr}
use mathlib.Core.List.{List, [], ◌∷◌}
use mathlib.Core.Bool.{Bool, true, false, cond, not, ◌&&◌, ◌||◌}
use Prim.Native.Nat.{ℕ, ◌%◌, ◌<◌, ◌≤◌}
use native.Mathlib.Decide.{ℕ_discrete}
use lib.ListN.{get_or, drop, replicate}
use lib.Dec.{eqb, leb, ltb}
use borrow.Author.Tests.{ne_eqb, eqb-true, eqb-false, leb-true, ltb-true, not-true, not-false}
use Rattle.layout.specs.Key.{class_count}
use Rattle.layout.specs.Layout.{variable, fields_of}
use Rattle.format.specs.Sheet.{Sheet, no_profile, type_of, owner_of, known, with_mask, with_label, with_forbidden, with_function, with_variable, with_profile}
use Rattle.format.specs.Fields.{good, Fits}
use Rattle.format.specs.Records.{Record, field, WellFormed, misnamed, twice, after}
use Rattle.format.proofs.Tests.{and_first, and_second, and-false, or-true}

-- a declared function label from 5 up
pub record Function (types : List ℕ) (l : ℕ) : Type 0 where
  pub from-five : 5 ≤ l
  pub is-function : get_or types l 0 ≡ 2

-- 0 or a declared variable
abbrev pub Variable : Sheet → ℕ → Type 0
Variable s v = (v ≡ 0) ⊎ (owner_of s v ≡ 1 → ⊥)

-- `Effect L s k b s'`: of a record of kind k and body b that is well formed under the sheet s, and makes s' of it
pub data Effect (L : ℕ) (s : Sheet) : ℕ → List ℕ → Sheet → Type 0 where
  gives-mask : (n m : ℕ) → n < 32 → m % 2 ≡ 1 → get_or s.masks n 0 ≡ 0 → Effect L s 1 (n ∷ m ∷ []) (with_mask s n m)
  declares-label : (l t f : ℕ) → 5 ≤ l → l < L → 1 ≤ t → t ≤ 3 → f ≤ 1 → type_of s l ≡ 0 → Effect L s 2 (l ∷ t ∷ f ∷ []) (with_label s l t f)
  forbids : (l : ℕ) → (type_of s l ≡ 0 → ⊥) → Effect L s 3 (l ∷ []) (with_forbidden s l)
  defines : (l : ℕ) (vs : List ℕ) → Function s.types l → Fits L s (replicate 7 variable) vs → get_or s.defined l 0 ≡ 0
      → Effect L s 4 (l ∷ vs) (with_function s l vs)
  declares-variable : (v k n : ℕ) → 2 ≤ v → v ≤ 255 → (k ≡ 0) ⊎ Function s.types k → (n ≡ 255) ⊎ ((n < 32) × (k ≡ 0)) → owner_of s v ≡ 1
      → Effect L s 5 (v ∷ k ∷ n ∷ []) (with_variable s v k n)
  holds-guests : (c : ℕ) → c < class_count → s.profile ≡ no_profile → Effect L s 9 (c ∷ []) (with_profile s c)
  leaves-sheet : (k : ℕ) (b : List ℕ) → (k ≡ 3 → ⊥) → (k ≡ 9 → ⊥) → Effect L s k b s

-- ---- what good bytes are, as facts

-- a test that speaks of not 0, or of not 1, failed or held
pub not_equal : (a b : ℕ) → not (eqb a b) ≡ true → a ≡ b → ⊥
not_equal a b e = eqb-false a b (not-true (eqb a b) e)

pub equal : (a b : ℕ) → not (eqb a b) ≡ false → a ≡ b
equal a b e = eqb-true a b (not-false (eqb a b) e)

pub function_of : (s : Sheet) (l : ℕ) → (leb 5 l && eqb (type_of s l) 2) ≡ true → Function s.types l
function_of s l e =
    record { from-five = leb-true _ _ (and_first _ _ e); is-function = eqb-true _ _ (and_second (leb 5 l) _ e) }

pub scope_of : (s : Sheet) (k : ℕ) → (eqb k 0 || (leb 5 k && eqb (type_of s k) 2)) ≡ true → (k ≡ 0) ⊎ Function s.types k
scope_of s k e = elim (or-true (eqb k 0) _ e) [ inl p ↦ inl (eqb-true _ _ p) | inr p ↦ inr (function_of s k p) ]

pub variable-of : (s : Sheet) (v : ℕ) → (eqb v 0 || known s v) ≡ true → Variable s v
variable-of s v e = elim (or-true (eqb v 0) _ e) [ inl p ↦ inl (eqb-true _ _ p) | inr p ↦ inr (not_equal _ _ p) ]

-- the owner k and the name n go together
pub name_of : (k n : ℕ) → (eqb n 255 || ltb n 32) ≡ true → (not (eqb k 0) && not (eqb n 255)) ≡ false → (n ≡ 255) ⊎ ((n < 32) × (k ≡ 0))
name_of k n e m = go (ℕ_discrete n 255) (or-true (eqb n 255) _ e)
  where
    go : Dec (n ≡ 255) → (eqb n 255 ≡ true) ⊎ (ltb n 32 ≡ true) → (n ≡ 255) ⊎ ((n < 32) × (k ≡ 0))
    go (yes p) q = inl p
    go (no p) (inl q) = inl (eqb-true _ _ q)
    go (no p) (inr q) =
        let unnamed : not (eqb n 255) ≡ true = rw (ne_eqb n 255 p) in
        inr (ltb-true _ _ q, equal _ _ (and-false (not (eqb k 0)) _ m unnamed))

-- ---- the cases

-- what `after` makes of the sheet, by its six tests of the kind
abbrev pub after_by : Bool → Bool → Bool → Bool → Bool → Bool → Sheet → List ℕ → Sheet
after_by one two three four five nine s b =
    cond one (with_mask s (field b 0) (field b 1))
    (cond two (with_label s (field b 0) (field b 1) (field b 2))
    (cond three (with_forbidden s (field b 0))
    (cond four (with_function s (field b 0) (drop 1 b))
    (cond five (with_variable s (field b 0) (field b 1) (field b 2))
    (cond nine (with_profile s (field b 0))
    s)))))

-- what is to be shown for kind k
abbrev Shown : ℕ → Sheet → List ℕ → ℕ → Type 0
Shown L s b k = Fits L s (fields_of k) b → misnamed k b ≡ false → twice s k b ≡ false → Effect L s k b (after s k b)

mask-effect : (L : ℕ) (s : Sheet) (b : List ℕ) → Shown L s b 1
unfolding Fits good twice after
mask-effect L s [] f m t = absurd f
mask-effect L s (n ∷ []) f m t = absurd f.1
mask-effect L s (n ∷ a ∷ []) f m t = gives-mask n a (ltb-true _ _ f.0) (eqb-true _ _ f.1.0) (equal _ _ t)
mask-effect L s (n ∷ a ∷ x ∷ xs) f m t = absurd f.1.1

label-effect : (L : ℕ) (s : Sheet) (b : List ℕ) → Shown L s b 2
unfolding Fits good twice after
label-effect L s [] f m t = absurd f
label-effect L s (l ∷ []) f m t = absurd f.1
label-effect L s (l ∷ a ∷ []) f m t = absurd f.1.1
label-effect L s (l ∷ a ∷ g ∷ []) f m t =
    declares-label l a g (leb-true _ _ (and_first _ _ f.0)) (ltb-true _ _ (and_second (leb 5 l) _ f.0))
    (leb-true _ _ (and_first _ _ f.1.0)) (leb-true _ _ (and_second (leb 1 a) _ f.1.0)) (leb-true _ _ f.1.1.0) (equal _ _ t)
label-effect L s (l ∷ a ∷ g ∷ x ∷ xs) f m t = absurd f.1.1.1

forbid-effect : (L : ℕ) (s : Sheet) (b : List ℕ) → Shown L s b 3
unfolding Fits good after
forbid-effect L s [] f m t = absurd f
forbid-effect L s (l ∷ []) f m t = forbids l (not_equal _ _ f.0)
forbid-effect L s (l ∷ x ∷ xs) f m t = absurd f.1

function-effect : (L : ℕ) (s : Sheet) (b : List ℕ) → Shown L s b 4
unfolding Fits good twice after
function-effect L s [] f m t = absurd f
function-effect L s (l ∷ vs) f m t = defines l vs (function_of s l f.0) f.1 (equal _ _ t)

variable-effect : (L : ℕ) (s : Sheet) (b : List ℕ) → Shown L s b 5
unfolding Fits good misnamed twice after
variable-effect L s [] f m t = absurd f
variable-effect L s (v ∷ []) f m t = absurd f.1
variable-effect L s (v ∷ k ∷ []) f m t = absurd f.1.1
variable-effect L s (v ∷ k ∷ n ∷ []) f m t =
    declares-variable v k n (leb-true _ _ (and_first _ _ f.0)) (leb-true _ _ (and_second (leb 2 v) _ f.0))
    (scope_of s k f.1.0) (name_of k n f.1.1.0 m) (equal _ _ t)
variable-effect L s (v ∷ k ∷ n ∷ x ∷ xs) f m t = absurd f.1.1.1

profile-effect : (L : ℕ) (s : Sheet) (b : List ℕ) → Shown L s b 9
unfolding Fits good twice after
profile-effect L s [] f m t = absurd f
profile-effect L s (c ∷ []) f m t = holds-guests c (ltb-true _ _ f.0) (equal _ _ t)
profile-effect L s (c ∷ x ∷ xs) f m t = absurd f.1

-- what holds of each kind that writes to the sheet, and of all others, holds of each
by_kind : (P : ℕ → Type 0) → P 1 → P 2 → P 3 → P 4 → P 5 → P 9
    → ((k : ℕ) → (k ≡ 1 → ⊥) → (k ≡ 2 → ⊥) → (k ≡ 3 → ⊥) → (k ≡ 4 → ⊥) → (k ≡ 5 → ⊥) → (k ≡ 9 → ⊥) → P k) → (k : ℕ) → P k
by_kind P a b c d e f other k = go (ℕ_discrete k 1) (ℕ_discrete k 2) (ℕ_discrete k 3) (ℕ_discrete k 4) (ℕ_discrete k 5) (ℕ_discrete k 9)
  where
    is : {n : ℕ} → k ≡ n → P n → P k
    is q p = subst P (sym q) p

    go : Dec (k ≡ 1) → Dec (k ≡ 2) → Dec (k ≡ 3) → Dec (k ≡ 4) → Dec (k ≡ 5) → Dec (k ≡ 9) → P k
    go (yes q) _ _ _ _ _ = is q a
    go (no n) (yes q) _ _ _ _ = is q b
    go (no n) (no o) (yes q) _ _ _ = is q c
    go (no n) (no o) (no p) (yes q) _ _ = is q d
    go (no n) (no o) (no p) (no r) (yes q) _ = is q e
    go (no n) (no o) (no p) (no r) (no t) (yes q) = is q f
    go (no n) (no o) (no p) (no r) (no t) (no u) = other k n o p r t u

other-effect : (L : ℕ) (s : Sheet) (b : List ℕ) (k : ℕ) → (k ≡ 1 → ⊥) → (k ≡ 2 → ⊥) → (k ≡ 3 → ⊥) → (k ≡ 4 → ⊥) → (k ≡ 5 → ⊥) → (k ≡ 9 → ⊥)
    → Shown L s b k
unfolding after
other-effect L s b k n o p q r u f m t =
    rw (ne_eqb k 1 n, ne_eqb k 2 o, ne_eqb k 3 p, ne_eqb k 4 q, ne_eqb k 5 r, ne_eqb k 9 u) (leaves-sheet k b p u)

pub effect : (L : ℕ) (s : Sheet) (r : Record) → WellFormed L s r → Effect L s r.kind r.body (after s r.kind r.body)
effect L s r w =
    by_kind (Shown L s r.body) (mask-effect L s r.body) (label-effect L s r.body) (forbid-effect L s r.body)
    (function-effect L s r.body) (variable-effect L s r.body) (profile-effect L s r.body) (other-effect L s r.body) r.kind
    w.fits w.well-named w.once
