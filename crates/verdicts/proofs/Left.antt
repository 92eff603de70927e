-- What the verdict leaves in the lent table, and its label read off that table: a refusal changes no word, no verdict changes a word beyond the rows, and
-- the label of leaks is the lowest forbidden one in row 1. Assumes nothing.
use mathlib.Core.Path.{◌≡◌, sym, ap, subst, ◌∙◌}
use mathlib.Core.List.{List}
use Prim.Native.Nat.{ℕ, ◌<◌, ◌≤◌}
use native.Mathlib.Decide.{ℕ_discrete}
use native.Mathlib.Omega.{arith}
use lib.ListN.{length, get_or, drop, length-append, length-drop, get_or-append}
use lib.Seq.{drop_at}
use lib.Count.{count_trailing_zeros}
use Rattle.rows.specs.Row.{row_count}
use Rattle.answer.specs.Outcome.{leaks, refused}
use Rattle.rules.specs.Table.{Table}
use Rattle.format.specs.Sheet.{Sheet}
use Rattle.format.specs.Reading.{read_file, Readable}
use Rattle.format.proofs.Readable.{readable-ready}
use Rattle.program.specs.Program.{program_of, program_in}
use Rattle.analysis.specs.Verdict.{least_table}
use Rattle.analysis.proofs.Proper.{readable-proper}
use Rattle.analysis.proofs.Least.{table-length}
use Rattle.verdicts.specs.Verdict.{forbidden_held, holder, judged, verdict_outcome, verdict_table}
use Rattle.verdicts.specs.Lists.{LowestForbidden}
use Rattle.verdicts.proofs.Judged.{clear-confined, held-leaks, guest-three, lowest-forbidden}
use Rattle.verdicts.proofs.Lists.{verdict-refuses, listed-refused, not-refused}
use Rattle.verdicts.proofs.Demand.{verdict-judged, table-left}

-- "No refusal changes any word"
pub refused-unchanged : (L : ℕ) → 5 ≤ L → (xs : List ℕ) (t : Table) (n at : ℕ) → verdict_outcome L (length t) xs ≡ refused n at → verdict_table L xs t ≡ t
unfolding verdict_table
refused-unchanged L five xs t n at e = listed-refused L five xs (length t) (λ n at. t) _ n at ((verdict-refuses L five xs (length t) n at).0 e)

module _ (L : ℕ) (xs : List ℕ) (five : 5 ≤ L) (ok : Readable L xs) (t : Table) (full : row_count L ≤ length t) where
  long : length (least_table L (program_in L xs)) ≡ row_count L
  long = table-length L (program_in L xs) (readable-proper L xs five ok)

  pub row-left : (r : ℕ) → r < row_count L → get_or (verdict_table L xs t) r 0 ≡ get_or (least_table L (program_in L xs)) r 0
  row-left r h =
      ap (λ (u : Table). get_or u r 0) (table-left L xs five ok t full)
      ∙ get_or-append (least_table L (program_in L xs)) (drop (row_count L) t) 0 r (omega (arith, long))

  -- "words beyond stay untouched"
  pub beyond-left : drop (row_count L) (verdict_table L xs t) ≡ drop (row_count L) t
  beyond-left =
      ap (drop (row_count L)) (table-left L xs five ok t full) ∙ drop_at (least_table L (program_in L xs)) (drop (row_count L) t) (row_count L) long

  pub length-left : length (verdict_table L xs t) ≡ length t
  length-left =
      ap length (table-left L xs five ok t full)
      ∙ omega (arith, long, length-append (least_table L (program_in L xs)) (drop (row_count L) t), length-drop (row_count L) t)

-- ---- the label of leaks

-- only row 1 matters
lowest-row : (s : Sheet) (t u : Table) (l : ℕ) → get_or t 1 0 ≡ get_or u 1 0 → LowestForbidden s t l → LowestForbidden s u l
lowest-row s t u l e low = record { held = (rw (sym e) low.held.0, low.held.1); least = λ m h. low.least m (rw e h.0, h.1) }

-- "leaks with the lowest forbidden label held", and with the guest's label beside it
pub lowest-label : (L : ℕ) → 5 ≤ L → (xs : List ℕ) (t : Table) (l g c : ℕ) → verdict_outcome L (length t) xs ≡ leaks l g c
    → LowestForbidden (program_in L xs).sheet (verdict_table L xs t) l × (g ≡ 3)
unfolding program_of
lowest-label L five xs t l g c e = go (not-refused L five xs (length t) (λ n at q. no-refusal n at (sym e ∙ q)))
  where
    no-refusal : (n at : ℕ) → leaks l g c ≡ refused n at → ⊥
    no-refusal n at q = let z : ◌≡◌ {A = ℕ} 0 1 = cc in omega arith

    go : (row_count L ≤ length t) × Readable L xs → LowestForbidden (read_file L xs).sheet (verdict_table L xs t) l × (g ≡ 3)
    go (full, ok) = by_word (ℕ_discrete (forbidden_held (least_table L (program_in L xs)) (program_in L xs).guests) 0)
      where
        judges : judged L (program_in L xs) ≡ leaks l g c
        judges = sym (verdict-judged L xs five ok (length t) full) ∙ e

        by_word : Dec (forbidden_held (least_table L (program_in L xs)) (program_in L xs).guests ≡ 0)
            → LowestForbidden (read_file L xs).sheet (verdict_table L xs t) l × (g ≡ 3)
        by_word (yes q) = let a = clear-confined L (program_in L xs) q in let b = judges in let z : ◌≡◌ {A = ℕ} 0 1 = cc in absurd (omega arith)
        by_word (no d) =
            let a = held-leaks L (program_in L xs) d in
            let b = judges in
            let holds-it : holder (program_in L xs).guests ≡ g = cc in
            let same : count_trailing_zeros L (forbidden_held (least_table L (program_in L xs)) (program_in L xs).guests) ≡ l = cc in
            let low = lowest-forbidden L (read_file L xs).sheet (least_table L (program_in L xs)) (readable-ready L xs five ok).made.forbidden.forbidden-below d in (
              lowest-row (read_file L xs).sheet (least_table L (program_in L xs)) (verdict_table L xs t) l
                  (sym (row-left L xs five ok t full 1 (omega arith)))
                  (subst (LowestForbidden (read_file L xs).sheet (least_table L (program_in L xs))) same low),
              sym holds-it ∙ guest-three L xs,
            )
