-- Laws of the search for the lowest row that grew. Assumes nothing.
use mathlib.Core.Path.{◌≡◌, sym, ap, ◌∙◌}
use mathlib.Core.Bool.{Bool, true, false}
use mathlib.Core.List.{List}
use Prim.Native.Nat.{ℕ, ◌+◌, ◌^◌, ◌<◌}
use native.Mathlib.Decide.{ℕ_discrete}
use native.Mathlib.Omega.{arith}
use borrow.Author.Tests.{eqb-true, eqb-false}
use lib.Bits.{bit_and, and_lt, xor_lt}
use lib.Count.{count_trailing_zeros}
use lib.Dec.{eqb}
use lib.ListN.{get_or}
use Rattle.words.specs.Words.{bit, difference}
use Rattle.words.proofs.Laws.{bit-difference, bit-small, bit-zero, lowest}
use Rattle.rows.specs.Edition.{labels, words, word_count}
use Rattle.rows.specs.Row.{row_count}
use Rattle.rows.specs.Run.{Words, number}
use Rattle.rules.specs.Table.{Has}
use Rattle.lent.specs.Table.{table_at, place}
use Rattle.uses.proofs.Rows.{row_is}
use Rattle.whole.proofs.Tables.{table-small}
use Rattle.cleaning.specs.Copies.{SameBelow, GrownAt}

-- what `is_within` says of two rows
no_more : (new old l : ℕ) → difference new old ≡ 0 → bit new l ≡ 1 → bit old l ≡ 1
no_more new old l e h = omega (arith, bit-difference new old l, ap (λ (x : ℕ). bit x l) e, bit-zero l, bit-small old l)

more : (k new old : ℕ) → new < 2 ^ k → old < 2 ^ k → (difference new old ≡ 0 → ⊥) → (l : ℕ) × (bit new l ≡ 1) × (bit old l ≡ 1 → ⊥)
unfolding difference
more k new old hn ho d =
    let l = count_trailing_zeros k (difference new old) in
    let on : bit (difference new old) l ≡ 1
    = (lowest k (difference new old) (xor_lt k new (bit_and new old) hn (and_lt k new old hn ho)) (omega (arith, d))).«in» in
    (l, omega (arith, bit-difference new old l, bit-small new l), λ h. omega (arith, bit-difference new old l, on, bit-small new l))

module _ {x y : ℕ} {b : Bool} (wide : Bool) (t : List ℕ) (o r : ℕ) (e : o ≡ word_count wide) (h : r < row_count (labels wide))
    (old : x ≡ number (words wide) t (place wide 0 r)) (new : y ≡ number (words wide) t (place wide o r)) (test : b ≡ eqb (difference y x) 0) where
  first : x ≡ get_or (table_at wide 0 t) r 0
  first = row_is wide 0 t r h old

  second : y ≡ get_or (table_at wide (word_count wide) t) r 0
  second = row_is wide (word_count wide) t r h (rw e at new)

  pub same_next : b ≡ true → SameBelow wide t r → SameBelow wide t (r + 1)
  same_next s below q l i g = go (ℕ_discrete q r)
    where
      none : difference y x ≡ 0
      none = eqb-true (difference y x) 0 (sym test ∙ s)

      go : Dec (q ≡ r) → Has (table_at wide 0 t) q l
      go (yes p) =
          let held : bit y l ≡ 1 = rw (second, ← p) g in
          rw (p, ← first) (no_more y x l none held)
      go (no d) = below q l (omega (arith, d)) g

  pub grown-here : Words t → b ≡ false → SameBelow wide t r → GrownAt wide t r
  grown-here small s below =
      let hx : x < 2 ^ labels wide = rw first (table-small wide 0 t small r) in
      let hy : y < 2 ^ labels wide = rw second (table-small wide (word_count wide) t small r) in
      let m = more (labels wide) y x hy hx (eqb-false (difference y x) 0 (sym test ∙ s)) in
      record { bound = h; below = below; here = (m.0, rw (← second) m.1, λ g. m.2 (rw (← first) at g)) }
