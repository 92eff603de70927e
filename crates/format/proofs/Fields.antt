-- The fields of a body: a body fits its classes exactly where it has their length and no byte of it is refused.
-- Assumes nothing.
use mathlib.Core.Path.{◌≡◌, refl, ap}
use mathlib.Core.Logic.{◌↔◌}
use mathlib.Core.List.{List, [], ◌∷◌, ◌++◌}
use mathlib.Core.Bool.{Bool, true, false, cond}
use Prim.Native.Nat.{ℕ, zero, suc, ◌<◌, ◌≤◌}
use native.Mathlib.Nat.{le_of_suc-le-suc, not-suc-le-zero, suc_inj}
use native.Mathlib.Omega.{arith}
use lib.ListN.{length, get_or}
use Rattle.layout.specs.Layout.{Class, name, mask, new_label, type, flag, any_label, host_label, function_label, plain_label, data_label, scope, new_variable, variable, declared_variable, global_variable, variable_name, name_class, key}
use Rattle.format.specs.Sheet.{Sheet}
use Rattle.format.specs.Fields.{good, refusal_of, Fits, first_bad}

-- "from the left": the first bad byte decides, whatever stands after it
pub first-bad-leftmost : (L : ℕ) (s : Sheet) (cs : List Class) (bs : List ℕ) (c : Class) (b : ℕ) (cs' : List Class) (bs' : List ℕ) → Fits L s cs bs
    → good L s c b ≡ false → first_bad L s (cs ++ c ∷ cs') (bs ++ b ∷ bs') ≡ refusal_of c
unfolding Fits first_bad
first-bad-leftmost L s [] [] c b cs' bs' f e = rw e
first-bad-leftmost L s [] (x ∷ bs) c b cs' bs' f e = absurd f
first-bad-leftmost L s (k ∷ cs) [] c b cs' bs' f e = absurd f
first-bad-leftmost L s (k ∷ cs) (x ∷ bs) c b cs' bs' f e = rw f.0 (first-bad-leftmost L s cs bs c b cs' bs' f.1 e)

-- a bad byte is refused with 3, 4 or 5
pub refusal-range : (c : Class) → (3 ≤ refusal_of c) × (refusal_of c ≤ 5)
unfolding refusal_of
refusal-range name = (omega arith, omega arith)
refusal-range mask = (omega arith, omega arith)
refusal-range new_label = (omega arith, omega arith)
refusal-range type = (omega arith, omega arith)
refusal-range flag = (omega arith, omega arith)
refusal-range any_label = (omega arith, omega arith)
refusal-range host_label = (omega arith, omega arith)
refusal-range function_label = (omega arith, omega arith)
refusal-range plain_label = (omega arith, omega arith)
refusal-range data_label = (omega arith, omega arith)
refusal-range scope = (omega arith, omega arith)
refusal-range new_variable = (omega arith, omega arith)
refusal-range variable = (omega arith, omega arith)
refusal-range declared_variable = (omega arith, omega arith)
refusal-range global_variable = (omega arith, omega arith)
refusal-range variable_name = (omega arith, omega arith)
refusal-range name_class = (omega arith, omega arith)
refusal-range key = (omega arith, omega arith)

pub refusal-not-zero : (c : Class) → refusal_of c ≡ 0 → ⊥
refusal-not-zero c e = omega (arith, refusal-range c)

pub first-bad-small : (L : ℕ) (s : Sheet) (cs : List Class) (bs : List ℕ) → first_bad L s cs bs ≤ 5
unfolding first_bad
first-bad-small L s [] bs = omega arith
first-bad-small L s (c ∷ cs) [] = omega arith
first-bad-small L s (c ∷ cs) (b ∷ bs) = go (good L s c b) (first-bad-small L s cs bs)
  where
    go : (t : Bool) → first_bad L s cs bs ≤ 5 → cond t (first_bad L s cs bs) (refusal_of c) ≤ 5
    go true h = h
    go false h = (refusal-range c).1

pub fits-length : (L : ℕ) (s : Sheet) (cs : List Class) (bs : List ℕ) → Fits L s cs bs → length bs ≡ length cs
unfolding Fits
fits-length L s [] [] f = refl
fits-length L s [] (b ∷ bs) f = absurd f
fits-length L s (c ∷ cs) [] f = absurd f
fits-length L s (c ∷ cs) (b ∷ bs) f = ap suc (fits-length L s cs bs f.1)

pub fits-none-bad : (L : ℕ) (s : Sheet) (cs : List Class) (bs : List ℕ) → Fits L s cs bs → first_bad L s cs bs ≡ 0
unfolding Fits first_bad
fits-none-bad L s [] bs f = refl
fits-none-bad L s (c ∷ cs) [] f = absurd f
fits-none-bad L s (c ∷ cs) (b ∷ bs) f = rw f.0 (fits-none-bad L s cs bs f.1)

pub none-bad-fits : (L : ℕ) (s : Sheet) (cs : List Class) (bs : List ℕ) → length bs ≡ length cs → first_bad L s cs bs ≡ 0 → Fits L s cs bs
unfolding Fits first_bad
none-bad-fits L s [] [] n f = tt
none-bad-fits L s [] (b ∷ bs) n f = absurd (omega arith)
none-bad-fits L s (c ∷ cs) [] n f = absurd (omega arith)
none-bad-fits L s (c ∷ cs) (b ∷ bs) n f = go (good L s c b) refl f (none-bad-fits L s cs bs (suc_inj n))
  where
    go : (t : Bool) → good L s c b ≡ t → cond t (first_bad L s cs bs) (refusal_of c) ≡ 0 → (first_bad L s cs bs ≡ 0 → Fits L s cs bs)
        → (good L s c b ≡ true) × Fits L s cs bs
    go true e h rest = (e, rest h)
    go false e h rest = absurd (refusal-not-zero c h)

pub fits_iff : (L : ℕ) (s : Sheet) (cs : List Class) (bs : List ℕ) → Fits L s cs bs ↔ ((length bs ≡ length cs) × (first_bad L s cs bs ≡ 0))
fits_iff L s cs bs = ((λ f. (fits-length L s cs bs f, fits-none-bad L s cs bs f)), (λ h. none-bad-fits L s cs bs h.0 h.1))

-- each byte is good in the field where it stands
pub fits-good : (L : ℕ) (s : Sheet) (cs : List Class) (bs : List ℕ) → Fits L s cs bs → (j : ℕ) → j < length cs
    → good L s (get_or cs j name) (get_or bs j 0) ≡ true
unfolding Fits
fits-good L s [] bs f j h = absurd (not-suc-le-zero h)
fits-good L s (c ∷ cs) [] f j h = absurd f
fits-good L s (c ∷ cs) (b ∷ bs) f zero h = f.0
fits-good L s (c ∷ cs) (b ∷ bs) f (suc j) h = fits-good L s cs bs f.1 j (le_of_suc-le-suc h)
