-- The bytes of a readable file's records are in their ranges. Assumes nothing.
use mathlib.Core.Path.{◌≡◌, subst}
use mathlib.Core.Logic.{⊎_elim}
use mathlib.Core.List.{List, [], ◌∷◌}
use mathlib.Core.Bool.{true, not, ◌&&◌, ◌||◌}
use Prim.Native.Nat.{ℕ, suc, ◌+◌, ◌≤◌, ◌<◌}
use native.Mathlib.Omega.{arith}
use lib.ListN.{length, get_or}
use lib.Dec.{eqb, leb, ltb}
use borrow.Author.Tests.{eqb-true, ltb-true}
use Rattle.layout.specs.Layout.{Class, name, mask, new_label, type, flag, any_label, host_label, function_label, plain_label, data_label, scope, new_variable, variable, declared_variable, global_variable, variable_name, name_class, key, fields_of}
use Rattle.format.specs.Sheet.{Sheet, type_of, declared}
use Rattle.format.specs.Fields.{good, Fits}
use Rattle.format.proofs.Fields.{fits-length, fits-good}
use Rattle.format.proofs.Later.{Sized, declared-below}
use Rattle.format.proofs.Tests.{and_second, or-true}
use Rattle.format.proofs.Effect.{not_equal}
use Rattle.records.specs.Range.{Range, Ranged, InRange}

module _ (L : ℕ) (s : Sheet) (z : Sized L s) where
  typed-below : (b t : ℕ) → 0 < t → type_of s b ≡ t → b < L
  typed-below b t h e = declared-below L s b z (λ q. omega arith)

  module _ (five : 5 ≤ L) where
    -- a byte that is good in a field is in the range of its class
    range-good : (c : Class) (b : ℕ) → good L s c b ≡ true → Range L c b
    unfolding good
    range-good name b e = ltb-true b 32 e
    range-good mask b e = tt
    range-good new_label b e = ltb-true b L (and_second (leb 5 b) (ltb b L) e)
    range-good type b e = tt
    range-good flag b e = tt
    range-good any_label b e = declared-below L s b z (not_equal (type_of s b) 0 e)
    range-good host_label b e = declared-below L s b z (not_equal (type_of s b) 0 (and_second (not (eqb b 3)) (declared s b) e))
    range-good function_label b e = typed-below b 2 (omega arith) (eqb-true (type_of s b) 2 (and_second (leb 5 b) (eqb (type_of s b) 2) e))
    range-good plain_label b e = typed-below b 1 (omega arith) (eqb-true (type_of s b) 1 (and_second (leb 5 b) (eqb (type_of s b) 1) e))
    range-good data_label b e =
        ⊎_elim (λ p. typed-below b 1 (omega arith) (eqb-true (type_of s b) 1 p)) (λ p. typed-below b 3 (omega arith) (eqb-true (type_of s b) 3 p))
        (or-true (eqb (type_of s b) 1) (eqb (type_of s b) 3) (and_second (leb 5 b) (eqb (type_of s b) 1 || eqb (type_of s b) 3) e))
    range-good scope b e =
        ⊎_elim (λ p. omega (arith, eqb-true b 0 p))
        (λ p. typed-below b 2 (omega arith) (eqb-true (type_of s b) 2 (and_second (leb 5 b) (eqb (type_of s b) 2) p)))
        (or-true (eqb b 0) (leb 5 b && eqb (type_of s b) 2) e)
    range-good new_variable b e = tt
    range-good variable b e = tt
    range-good declared_variable b e = tt
    range-good global_variable b e = tt
    range-good variable_name b e = λ n. ⊎_elim (λ p. absurd (n (eqb-true b 255 p))) (λ p. ltb-true b 32 p) (or-true (eqb b 255) (ltb b 32) e)
    range-good name_class b e = tt
    range-good key b e = e

ranged : (L : ℕ) (cs : List Class) (b : List ℕ) (j : ℕ) → ((i : ℕ) → i < length cs → Range L (get_or cs i name) (get_or b (j + i) 0)) → Ranged L cs b j
ranged L [] b j h = tt
ranged L (c ∷ cs) b j h =
    let e : j + 0 ≡ j = omega arith in (
      subst (λ (n : ℕ). Range L c (get_or b n 0)) e (h 0 (omega arith)),
      ranged L cs b (suc j) (λ i l. let d : j + suc i ≡ suc j + i = omega arith in
          subst (λ (n : ℕ). Range L (get_or cs i name) (get_or b n 0)) d (h (suc i) (omega arith))),
    )

pub fits-in-range : (L : ℕ) (s : Sheet) → Sized L s → 5 ≤ L → (k : ℕ) (b : List ℕ) → Fits L s (fields_of k) b → InRange L k b
fits-in-range L s z five k b f = (
  fits-length L s (fields_of k) b f,
  ranged L (fields_of k) b 0 (λ i h. let e : i ≡ 0 + i = omega arith in
      subst (λ (n : ℕ). Range L (get_or (fields_of k) i name) (get_or b n 0)) e
      (range-good L s z five (get_or (fields_of k) i name) (get_or b i 0) (fits-good L s (fields_of k) b f i h))),
)
