-- The outcomes of verdict and check and the words that the verdict leaves, case by case as the operations meet them, in either edition. Assumes nothing.
use mathlib.Core.Path.{◌≡◌, refl, sym, ap, ap₂, ◌∙◌}
use mathlib.Core.Bool.{Bool, true, false}
use mathlib.Core.List.{List, ◌++◌}
use Prim.Native.Nat.{ℕ, ◌*◌, ◌≤◌, ◌<◌}
use native.Mathlib.Omega.{arith}
use lib.ListN.{length, get_or, drop}
use lib.Bits.{bit_and}
use lib.Count.{count_trailing_zeros}
use lib.Dec.{eqb}
use borrow.Author.Tests.{le-ltb, lt-ltb, eq-eqb, ne_eqb, eqb-false}
use Rattle.rows.specs.Edition.{labels, words, word_count}
use Rattle.rows.specs.Row.{row_count}
use Rattle.rows.specs.Run.{Words, room_for, rows_of, laid}
use Rattle.rows.proofs.Run.{view-length, laid-rows}
use Rattle.rules.specs.Table.{Table, facts}
use Rattle.rules.specs.Gap.{gap}
use Rattle.analysis.specs.Rules.{rules}
use Rattle.format.specs.Sheet.{Sheet}
use Rattle.format.specs.Reading.{read_file, Readable}
use Rattle.program.specs.Program.{guest_three, program_of, program_in}
use Rattle.analysis.specs.Verdict.{least_table, held_forbidden}
use Rattle.answer.specs.Outcome.{accepted, refused, holds}
use Rattle.verdicts.specs.Verdict.{verdict_outcome, verdict_words, judged, forbidden_held}
use Rattle.verdicts.specs.Check.{cleaned, checked, check_outcome}
use Rattle.verdicts.proofs.Accept.{admitted-readable}
use Rattle.verdicts.proofs.Demand.{verdict-judged, table-left}
use Rattle.verdicts.proofs.Words.{short-left, unread-left, words_same}
use Rattle.lent.specs.Table.{table_at}
use Rattle.whole.proofs.Rows.{same-room, rows_left, rest-left, some_words, short-rows, full-rows, bag-row}
use Rattle.cleaning.proofs.Copies.{cleaned-rows}
use Rattle.records.proofs.Walks.{five-labels}
use Rattle.sheet.specs.View.{sheet_of}
use Rattle.sheet.specs.declared.Sheet as declared
use Rattle.laying.specs.Arrays.{Arrays}
use Rattle.solver.specs.Solved.{Solved}
use Rattle.operations.specs.Judgment.{judgment}

-- ---- the arrays of the sheet that was read

pub arrays-read : (wide : Bool) (file : List ℕ) (s : declared.Sheet) → sheet_of wide s ≡ (read_file (labels wide) file).sheet → Arrays wide file s
arrays-read wide file s e =
    record {
      types_are = ap (λ (z : Sheet). z.types) (sym e);
      flags-are = ap (λ (z : Sheet). z.flags) (sym e);
      masks-are = ap (λ (z : Sheet). z.masks) (sym e);
      formals-are = ap (λ (z : Sheet). z.formals) (sym e);
      profile-is = ap (λ (z : Sheet). z.profile) (sym e);
    }

-- ---- a set that is held

pub not_none : {b : Bool} {n w : ℕ} → b ≡ eqb n 0 → b ≡ false → n ≡ w → w ≡ 0 → ⊥
not_none {b} {n} e f same z = eqb-false n 0 (sym e ∙ f) (same ∙ z)

-- the labels in the guest's row of the words u that are forbidden
pub held_in : {v f : ℕ} (wide : Bool) (u : List ℕ) (s : Sheet) → v ≡ bit_and (get_or (table_at wide 0 u) 1 0) f → f ≡ s.forbidden
    → v ≡ held_forbidden (table_at wide 0 u) (guest_three s)
unfolding held_forbidden
held_in wide u s e same = e ∙ ap (bit_and (get_or (table_at wide 0 u) 1 0)) same

-- ---- the editions

enough-words : (wide : Bool) → labels wide ≤ 64 * words wide
enough-words true = omega arith
enough-words false = omega arith

module _ (wide : Bool) (xs t : List ℕ) where
  abbrev L : ℕ
  L = labels wide

  abbrev k : ℕ
  k = words wide

  -- the rows that are lent
  abbrev lent : Table
  lent = rows_of k t

  -- what the guest may not hold
  abbrev forbidden : ℕ
  forbidden = (read_file L xs).sheet.forbidden

  room-is : room_for k t ≡ length lent
  room-is = sym (view-length k (room_for k t) 0 t)

  -- ---- the verdict

  pub short-outcome : length t < word_count wide → verdict_outcome L (room_for k t) xs ≡ refused 8 0
  unfolding verdict_outcome
  short-outcome h = let q : room_for k t < row_count L = rw room-is (short-rows wide t h) in rw (lt-ltb _ _ q)

  pub short-words : Words t → length t < word_count wide → verdict_words k L xs t ≡ t
  short-words s h =
      words_same k L (some_words wide) (enough-words wide) (five-labels wide) xs t s (short-left L (five-labels wide) xs lent (short-rows wide t h))

  module _ (full : word_count wide ≤ length t) where
    enough : row_count L ≤ room_for k t
    enough = rw room-is (full-rows wide t full)

    pub refused-outcome : ((read_file L xs).refusal ≡ 0 → ⊥) → verdict_outcome L (room_for k t) xs ≡ refused (read_file L xs).refusal (read_file L xs).position
    unfolding verdict_outcome
    refused-outcome z = rw (le-ltb _ _ enough, ne_eqb _ _ z)

    pub refused-words : Words t → ((read_file L xs).refusal ≡ 0 → ⊥) → verdict_words k L xs t ≡ t
    refused-words s z =
        words_same k L (some_words wide) (enough-words wide) (five-labels wide) xs t s
        (unread-left L (five-labels wide) xs lent (full-rows wide t full) z)

    module _ (ok : Readable L xs) where
      judged-is : judged L (program_in L xs)
          ≡ judgment L (held_forbidden (least_table L (program_in L xs)) (guest_three (read_file L xs).sheet)) (facts L (least_table L (program_in L xs)))
      unfolding judged forbidden_held program_of
      judged-is = refl

      -- what is held and counted in the table that became the least one
      pub judged-outcome : (x : Table) → x ≡ least_table L (program_in L xs)
          → verdict_outcome L (room_for k t) xs ≡ judgment L (held_forbidden x (guest_three (read_file L xs).sheet)) (facts L x)
      judged-outcome x e = rw e (verdict-judged L xs (five-labels wide) ok (room_for k t) enough ∙ judged-is)

      -- the words that the solver leaves
      pub left-words : (u : List ℕ) → Words u → Solved wide xs t u → u ≡ verdict_words k L xs t
      unfolding verdict_words
      left-words u s solved =
          sym (laid-rows k u s)
          ∙ ap₂ (λ (x y : List ℕ). laid k x ++ y)
          (rows_left k (row_count L) t enough u (least_table L (program_in L xs)) solved.same_length solved.least solved.beyond
          ∙ sym (table-left L xs (five-labels wide) ok lent (full-rows wide t full)))
          (ap (λ (n : ℕ). drop (k * n) u)
          (same-room k (row_count L) t enough u (least_table L (program_in L xs)) solved.same_length solved.least solved.beyond)
          ∙ rest-left k (row_count L) t enough u (least_table L (program_in L xs)) solved.same_length solved.least solved.beyond)

  -- ---- the check

  pub check-short : length t < word_count wide → check_outcome L xs lent ≡ refused 8 0
  unfolding check_outcome
  check-short h = rw (lt-ltb _ _ (short-rows wide t h))

  module _ (full : word_count wide ≤ length t) where
    pub check-refused : ((read_file L xs).refusal ≡ 0 → ⊥) → check_outcome L xs lent ≡ refused (read_file L xs).refusal (read_file L xs).position
    unfolding check_outcome
    check-refused z = rw (le-ltb _ _ (full-rows wide t full), ne_eqb _ _ z)

    -- the lowest row that lacks something, in the lent rows, is that of their table
    abbrev lowest_gap : Table → ℕ
    lowest_gap x = gap L (cleaned L (read_file L xs).sheet x) (rules L (program_in L xs))

    gap_is : lowest_gap (table_at wide 0 t) ≡ lowest_gap lent
    gap_is = ap (λ (x : Table). gap L x (rules L (program_in L xs))) (cleaned-rows wide (read_file L xs).sheet t full)

    module _ (ok : Readable L xs) where
      check-read : check_outcome L xs lent ≡ checked L (program_in L xs) lent
      unfolding check_outcome
      check-read = admitted-readable L (length lent) (read_file L xs) refused (checked L (program_in L xs) lent) (full-rows wide t full) ok

      pub check-gap : lowest_gap (table_at wide 0 t) < row_count L → check_outcome L xs lent ≡ refused 10 (lowest_gap (table_at wide 0 t))
      unfolding checked program_of
      check-gap h = let q : lowest_gap lent < row_count L = rw (← gap_is) h in check-read ∙ rw (lt-ltb _ _ q) (ap (refused 10) (sym gap_is))

      module _ (none : row_count L ≤ lowest_gap (table_at wide 0 t)) where
        last : row_count L ≤ lowest_gap lent
        last = rw (← gap_is) none

        -- the guest's row is in the table
        held-is : held_forbidden (table_at wide 0 t) (guest_three (read_file L xs).sheet) ≡ held_forbidden lent (guest_three (read_file L xs).sheet)
        unfolding held_forbidden
        held-is = ap (λ (x : ℕ). bit_and x forbidden) (bag-row wide t full)

        pub check-clear : held_forbidden (table_at wide 0 t) (guest_three (read_file L xs).sheet) ≡ 0 → check_outcome L xs lent ≡ accepted 0
        unfolding checked program_of forbidden_held
        check-clear e = check-read ∙ rw (le-ltb _ _ last, eq-eqb _ _ (sym held-is ∙ e))

        pub check-held : (held_forbidden (table_at wide 0 t) (guest_three (read_file L xs).sheet) ≡ 0 → ⊥)
            → check_outcome L xs lent ≡ holds (count_trailing_zeros L (held_forbidden (table_at wide 0 t) (guest_three (read_file L xs).sheet))) 3
        unfolding checked program_of forbidden_held
        check-held e =
            check-read ∙ rw (le-ltb _ _ last, ne_eqb _ _ (λ z. e (held-is ∙ z)))
            (ap (λ (w : ℕ). holds (count_trailing_zeros L w) 3) (sym held-is))
