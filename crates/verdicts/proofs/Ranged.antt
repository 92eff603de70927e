-- Every outcome of verdict and check fits its word, in the small edition and in the large one, so that each part is read back from the word. Assumes nothing.
use mathlib.Core.Path.{◌≡◌, refl}
use mathlib.Core.Logic.{inl}
use mathlib.Core.List.{List}
use mathlib.Core.Bool.{Bool, true, false, cond}
use Prim.Native.Nat.{ℕ, ◌*◌, ◌^◌, ◌<◌, ◌≤◌}
use native.Mathlib.Nat.{mul-le-mul}
use native.Mathlib.Decide.{dec_lt}
use native.Mathlib.Omega.{arith}
use lib.ListN.{length}
use lib.Dec.{eqb, ltb}
use lib.Count.{count_trailing_zeros, trailing_le}
use borrow.Author.Tests.{eqb-false, ltb-true, lt-ltb}
use Rattle.rows.specs.Row.{row_count}
use Rattle.answer.specs.Outcome.{Outcome, confined, leaks, accepted, refused, holds, Ranged, ReadBack}
use Rattle.answer.proofs.Word.{read_back}
use Rattle.rules.specs.Table.{Table, facts}
use Rattle.rules.specs.Gap.{gap}
use Rattle.rules.proofs.Table.{facts-room}
use Rattle.format.specs.Reading.{read_file, longest}
use Rattle.format.proofs.File.{file-refusal-small, file-position-within}
use Rattle.program.specs.Program.{Program, program_in}
use Rattle.analysis.specs.Rules.{rules}
use Rattle.analysis.specs.Verdict.{least_table}
use Rattle.verdicts.specs.Verdict.{admitted, forbidden_held, holder, judged, verdict_outcome}
use Rattle.verdicts.specs.Check.{cleaned, checked, check_outcome}
use Rattle.verdicts.proofs.Judged.{guest-three}

-- ---- how large the parts are

position-small : (L : ℕ) (xs : List ℕ) → (read_file L xs).position < 2 ^ 60
unfolding read_file
position-small L xs =
    elim (dec_lt longest (length xs)) [
      | yes h ↦ rw (lt-ltb longest (length xs) h) (omega arith)
      | no h ↦ omega (arith, file-position-within L xs)
    ]

count_small : (L : ℕ) (t : Table) → L ≤ 256 → facts L t < 2 ^ 22
count_small L t h =
    let rows : row_count L ≤ 8960 = omega arith in
    let room : L * row_count L ≤ 256 * 8960 = mul-le-mul h rows in
    omega (arith, facts-room L t)

-- ---- the outcomes

-- a number from 1 to 10
low-ranged : (n at : ℕ) → (n ≡ 0 → ⊥) → n ≤ 10 → at < 2 ^ 60 → Ranged (refused n at)
low-ranged n at d h k = inl (omega arith, omega arith, (λ e. omega arith), k)

admitted-ranged : (L words : ℕ) (xs : List ℕ) (o : Outcome) → Ranged o → Ranged (admitted L words (read_file L xs) refused o)
admitted-ranged L words xs o r = go (ltb words (row_count L)) (eqb (read_file L xs).refusal 0) refl
  where
    go : (x y : Bool) → eqb (read_file L xs).refusal 0 ≡ y
        → Ranged (cond x (refused 8 0) (cond y o (refused (read_file L xs).refusal (read_file L xs).position)))
    go true y e = low-ranged 8 0 (λ z. omega arith) (omega arith) (omega arith)
    go false true e = r
    go false false e = low-ranged _ _ (eqb-false _ _ e) (omega (arith, file-refusal-small L xs)) (position-small L xs)

module _ (L : ℕ) (small : L ≤ 256) where
  judged-ranged : (p : Program) → holder p.guests < 2 ^ 8 → Ranged (judged L p)
  unfolding judged
  judged-ranged p h = go (eqb (forbidden_held (least_table L p) p.guests) 0)
    where
      go : (b : Bool) → Ranged (cond b (confined (facts L (least_table L p)))
          (leaks (count_trailing_zeros L (forbidden_held (least_table L p) p.guests)) (holder p.guests) (facts L (least_table L p))))
      go true = count_small L (least_table L p) small
      go false = (omega (arith, trailing_le L (forbidden_held (least_table L p) p.guests)), h, count_small L (least_table L p) small)

  holder-small : (xs : List ℕ) → holder (program_in L xs).guests < 2 ^ 8
  holder-small xs = omega (arith, guest-three L xs)

  pub verdict-ranged : (words : ℕ) (xs : List ℕ) → Ranged (verdict_outcome L words xs)
  unfolding verdict_outcome
  verdict-ranged words xs = admitted-ranged L words xs (judged L (program_in L xs)) (judged-ranged (program_in L xs) (holder-small xs))

  checked-ranged : (p : Program) (t : Table) → holder p.guests < 2 ^ 8 → Ranged (checked L p t)
  unfolding checked
  checked-ranged p t h =
      go (ltb (gap L (cleaned L p.sheet t) (rules L p)) (row_count L)) refl (eqb (forbidden_held t p.guests) 0)
    where
      go : (x : Bool) → ltb (gap L (cleaned L p.sheet t) (rules L p)) (row_count L) ≡ x → (y : Bool)
          → Ranged (cond x (refused 10 (gap L (cleaned L p.sheet t) (rules L p)))
          (cond y (accepted 0) (holds (count_trailing_zeros L (forbidden_held t p.guests)) (holder p.guests))))
      go true e y = low-ranged 10 _ (λ z. omega arith) (omega arith) (omega (arith, ltb-true (gap L (cleaned L p.sheet t) (rules L p)) (row_count L) e))
      go false e true = omega arith
      go false e false = (omega (arith, trailing_le L (forbidden_held t p.guests)), h)

  pub check-ranged : (xs : List ℕ) (t : Table) → Ranged (check_outcome L xs t)
  unfolding check_outcome
  check-ranged xs t = admitted-ranged L (length t) xs (checked L (program_in L xs) t) (checked-ranged (program_in L xs) t (holder-small xs))

  -- so every part is read back from the word
  pub verdict-read-back : (xs : List ℕ) (words : ℕ) → ReadBack (verdict_outcome L words xs)
  verdict-read-back xs words = read_back (verdict_outcome L words xs) (verdict-ranged words xs)

  pub check-read-back : (xs : List ℕ) (t : Table) → ReadBack (check_outcome L xs t)
  check-read-back xs t = read_back (check_outcome L xs t) (check-ranged xs t)
