-- A label is in a word or is not: the laws of Laws.antt once more, with `On w l` for "label l is in w", which is the form that
-- facts of a table have. Assumes nothing.
use mathlib.Core.Path.{◌≡◌, refl, sym, ap, ◌∙◌, subst}
use mathlib.Core.Logic.{◌⊎◌, inl, inr}
use Prim.Native.Nat.{ℕ, zero, suc, ◌/◌, ◌%◌, ◌^◌, ◌≤◌, ◌<◌}
use native.Mathlib.Decide.{ℕ_discrete, dec_lt}
use native.Mathlib.Nat.{div-eq_of_lt, le_trans}
use native.Mathlib.Omega.{arith}
use lib.Bits.{bit_and}
use lib.Pow.{pow_mono}
use Rattle.words.specs.Words.{bit, union, difference, count_below}
use Rattle.words.proofs.Laws.{bit-small, bit-union, bit-meet, bit-difference, bit-pow-same, bit-pow-other, bit-zero, ext, union-lt, same-union, count-mono, count-more}

-- label l is in w
abbrev pub On : ℕ → ℕ → Type 0
On w l = bit w l ≡ 1

pub on? : (w l : ℕ) → Dec (On w l)
on? w l = ℕ_discrete (bit w l) 1

pub off : (w l : ℕ) → (On w l → ⊥) → bit w l ≡ 0
off w l h = go (bit w l) refl
  where
    go : (b : ℕ) → bit w l ≡ b → bit w l ≡ 0
    go zero e = e
    go (suc zero) e = absurd (h e)
    go (suc (suc b)) e = absurd (omega (arith, bit-small w l))

pub empty-off : (l : ℕ) → On 0 l → ⊥
empty-off l h = omega (arith, bit-zero l)

-- a word below 2 ^ k has labels below k alone
pub bit-above : (k w l : ℕ) → w < 2 ^ k → k ≤ l → bit w l ≡ 0
unfolding bit
bit-above k w l h i = let e : w / 2 ^ l ≡ 0 = div-eq_of_lt (le_trans h (pow_mono i)) in ap (λ (x : ℕ). x % 2) e

pub on_below : (k w l : ℕ) → w < 2 ^ k → On w l → l < k
on_below k w l h o = elim (dec_lt l k) [ yes i ↦ i | no d ↦ absurd (omega (arith, bit-above k w l h (omega arith))) ]

-- ---- the union

pub on-left : (a b l : ℕ) → On a l → On (union a b) l
on-left a b l h = omega (arith, bit-union a b l, bit-small b l)

pub on-right : (a b l : ℕ) → On b l → On (union a b) l
on-right a b l h = omega (arith, bit-union a b l, bit-small a l)

pub on-union : (a b l : ℕ) → On (union a b) l → On a l ⊎ On b l
on-union a b l h = elim (on? a l) [ yes o ↦ inl o | no d ↦ inr (omega (arith, bit-union a b l, bit-small b l, off a l d)) ]

-- ---- both, and one without the other

pub on-meet : (a b l : ℕ) → On (bit_and a b) l → On a l × On b l
on-meet a b l h = (omega (arith, bit-meet a b l, bit-small a l, bit-small b l), omega (arith, bit-meet a b l, bit-small a l, bit-small b l))

pub meet-on : (a b l : ℕ) → On a l → On b l → On (bit_and a b) l
meet-on a b l h i = omega (arith, bit-meet a b l)

pub on-difference : (a b l : ℕ) → On (difference a b) l → On a l
on-difference a b l h = omega (arith, bit-difference a b l, bit-small a l)

pub difference-off : (a b l : ℕ) → On (difference a b) l → On b l → ⊥
difference-off a b l h i = omega (arith, bit-difference a b l, bit-small a l)

-- a label of the first is in the second or in the difference
pub difference-on : (a b l : ℕ) → On a l → On (difference a b) l ⊎ On b l
difference-on a b l h = elim (on? b l) [ yes o ↦ inr o | no d ↦ inl (omega (arith, bit-difference a b l, off b l d)) ]

-- ---- a single label

pub on-single : (l : ℕ) → On (2 ^ l) l
on-single = bit-pow-same

pub single-only : (m l : ℕ) → On (2 ^ m) l → l ≡ m
single-only m l h = elim (ℕ_discrete l m) [ yes e ↦ e | no d ↦ absurd (omega (arith, bit-pow-other m l d)) ]

-- ---- words by their labels

-- every label of x is in y
abbrev pub Subset : ℕ → ℕ → Type 0
Subset x y = (l : ℕ) → On x l → On y l

pub subset-bits : (x y : ℕ) → Subset x y → (l : ℕ) → bit x l ≤ bit y l
subset-bits x y h l = elim (on? x l) [ yes o ↦ omega (arith, h l o) | no d ↦ omega (arith, off x l d) ]

pub same-labels : (k x y : ℕ) → x < 2 ^ k → y < 2 ^ k → Subset x y → Subset y x → x ≡ y
same-labels k x y hx hy a b = ext k x y hx hy (λ l i. omega (arith, subset-bits x y a l, subset-bits y x b l))

pub subset-union : (k x y : ℕ) → x < 2 ^ k → y < 2 ^ k → Subset x y → union x y ≡ y
subset-union k x y hx hy h =
    ext k (union x y) y (union-lt k x y hx hy) hy (λ l i. omega (arith, bit-union x y l, subset-bits x y h l))

pub union-subset : (x y : ℕ) → union x y ≡ x → Subset y x
union-subset x y e l o = omega (arith, same-union x y e l, bit-small x l)

-- ---- more labels, a larger count

pub subset-count : (k x y : ℕ) → Subset x y → count_below x k ≤ count_below y k
subset-count k x y h = count-mono x y k (λ l i. subset-bits x y h l)

pub count-equal : (k x y : ℕ) → x < 2 ^ k → y < 2 ^ k → Subset x y → count_below y k ≤ count_below x k → x ≡ y
count-equal k x y hx hy h c = go (ℕ_discrete (union x y) x)
  where
    e : union x y ≡ y
    e = subset-union k x y hx hy h

    go : Dec (union x y ≡ x) → x ≡ y
    go (yes p) = sym p ∙ e
    go (no d) =
        let more : count_below x k < count_below y k = subst (λ (w : ℕ). count_below x k < count_below w k) e (count-more k x y hx hy d) in
        absurd (omega arith)
