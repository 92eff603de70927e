-- What good fields say of a record's body, in the form in which the code asks for it: its length, and numbers that are places of an array.
-- Assumes nothing.
use mathlib.Core.Path.{◌≡◌, sym, ◌∙◌}
use mathlib.Core.List.{List}
use mathlib.Core.Bool.{true, false, ◌&&◌}
use Prim.Native.Nat.{ℕ, ◌≤◌, ◌<◌}
use native.Mathlib.Omega.{arith}
use lib.ListN.{length, get_or}
use lib.Dec.{eqb, leb, ltb}
use borrow.Author.Tests.{ltb-true, ltb-false, leb-true, eqb-true, eqb-false, not-true, ne_eqb}
use Rattle.layout.specs.Layout.{fields_of}
use Rattle.format.specs.Sheet.{Sheet, type_of}
use Rattle.format.specs.Fields.{good, Fits}
use Rattle.format.specs.Records.{whole_refusal, misnamed, twice, after}
use Rattle.format.proofs.Tests.{and_second, or-false}
use Rattle.format.proofs.Fields.{fits-length, fits-good}
use Rattle.format.proofs.Later.{inside}
use Rattle.sheet.specs.View.{declaring}

module _ (L : ℕ) (s : Sheet) (b : List ℕ) where
  pub name_body : Fits L s (fields_of 1) b → (length b ≡ 2) × (get_or b 0 0 < 32)
  unfolding good
  name_body f = (fits-length L s (fields_of 1) b f, ltb-true _ _ (fits-good L s (fields_of 1) b f 0 (omega arith)))

  pub label-body : Fits L s (fields_of 2) b → (length b ≡ 3) × (get_or b 0 0 < L)
  unfolding good
  label-body f = (fits-length L s (fields_of 2) b f, ltb-true _ _ (and_second (leb 5 (get_or b 0 0)) _ (fits-good L s (fields_of 2) b f 0 (omega arith))))

  pub variable-body : Fits L s (fields_of 5) b → (length b ≡ 3) × (get_or b 0 0 < 256)
  unfolding good
  variable-body f =
      let h : get_or b 0 0 ≤ 255 = leb-true _ _ (and_second (leb 2 (get_or b 0 0)) _ (fits-good L s (fields_of 5) b f 0 (omega arith))) in
      (fits-length L s (fields_of 5) b f, omega arith)

  pub profile-body : Fits L s (fields_of 9) b → length b ≡ 1
  profile-body f = fits-length L s (fields_of 9) b f

  -- a declared label is one of those of which the sheet has a type
  module _ (room : length s.types ≤ L) where
    pub forbid-body : Fits L s (fields_of 3) b → (length b ≡ 1) × (get_or b 0 0 < L)
    unfolding good
    forbid-body f =
        let h = inside s.types (get_or b 0 0) 0 (eqb-false _ _ (not-true _ (fits-good L s (fields_of 3) b f 0 (omega arith)))) in
        (fits-length L s (fields_of 3) b f, omega arith)

    function-below : (l : ℕ) → (leb 5 l && eqb (type_of s l) 2) ≡ true → l < L
    function-below l e =
        let t : type_of s l ≡ 2 = eqb-true _ _ (and_second (leb 5 l) _ e) in
        let h = inside s.types l 0 (λ z. let q : ◌≡◌ {A = ℕ} 0 2 = sym z ∙ t in absurd (omega arith)) in
        omega arith

    pub function-body : Fits L s (fields_of 4) b → (length b ≡ 8) × (get_or b 0 0 < L)
    unfolding good
    function-body f = (fits-length L s (fields_of 4) b f, function-below _ (fits-good L s (fields_of 4) b f 0 (omega arith)))

-- ---- a record that declares nothing is not refused as a whole, and leaves the sheet as it is

pub undeclaring : (s : Sheet) (k : ℕ) (b : List ℕ) → (k ≡ 1 → ⊥) → (k ≡ 2 → ⊥) → (k ≡ 3 → ⊥) → (k ≡ 4 → ⊥) → (k ≡ 5 → ⊥) → (k ≡ 9 → ⊥)
    → (whole_refusal s k b ≡ 0) × (s ≡ after s k b)
unfolding whole_refusal misnamed twice after
undeclaring s k b m n o p q r =
    let one = ne_eqb _ _ m in
    let two = ne_eqb _ _ n in
    let four = ne_eqb _ _ p in
    let five = ne_eqb _ _ q in
    let nine = ne_eqb _ _ r in
    (rw (one, two, four, five, nine), rw (one, two, ne_eqb _ _ o, four, five, nine))

pub undeclared : (s : Sheet) (k : ℕ) (b : List ℕ) → declaring k ≡ false → (whole_refusal s k b ≡ 0) × (s ≡ after s k b)
undeclared s k b e =
    let h = or-false (ltb k 6) (eqb k 9) e in
    let above : 6 ≤ k = ltb-false _ _ h.0 in
    undeclaring s k b (λ z. omega arith) (λ z. omega arith) (λ z. omega arith) (λ z. omega arith) (λ z. omega arith) (eqb-false _ _ h.1)
