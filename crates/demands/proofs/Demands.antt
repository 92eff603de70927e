-- The demands hold, for every number of labels from 5 up, every list of bytes and every table. Assumes nothing.
use mathlib.Core.Path.{◌≡◌, refl, sym, ap, subst, ◌∙◌}
use mathlib.Core.Logic.{◌⊎◌, inl, inr}
use mathlib.Core.Bool.{Bool, true, false, cond}
use mathlib.Core.List.Memᴰ
use mathlib.Core.List.{List, [], Memᴰ}
use Prim.Native.Nat.{ℕ, ◌≤◌}
use native.Mathlib.Omega.{arith}
use lib.ListN.{length, drop}
use lib.Dec.{eqb}
use Rattle.words.specs.Words.{bit}
use Rattle.rows.specs.Row.{row_count}
use Rattle.rules.specs.Table.{Table, Has, facts}
use Rattle.rules.proofs.Beyond.{facts-append}
use Rattle.format.specs.Reading.{Readable, read_file}
use Rattle.format.proofs.Missing.{readable-iff, concatenation-read}
use Rattle.program.specs.Program.{Guest, guest_three, program_of, program_in}
use Rattle.analysis.specs.Verdict.{least_table}
use Rattle.analysis.proofs.Proper.{readable-proper}
use Rattle.analysis.proofs.Least.{table-length, table-derives}
use Rattle.answer.specs.Outcome.{Outcome, confined, leaks, parts_of}
use Rattle.verdicts.specs.Verdict.{judged, verdict_table, forbidden_held}
use Rattle.verdicts.specs.Check.{cleaned}
use Rattle.verdicts.proofs.Cleaned.{cleaned-has, has-cleaned}
use Rattle.verdicts.proofs.Judged.{none-forbidden}
use Rattle.verdicts.proofs.Lists.{verdict-answers, verdict-refuses, refused-exactly, check-answers, check-refuses, check-holds, check-accepts, accepted-closed}
use Rattle.verdicts.proofs.Left.{refused-unchanged, row-left, beyond-left, length-left, lowest-label}
use Rattle.verdicts.proofs.Ranged.{verdict-read-back, check-read-back}
use Rattle.verdicts.proofs.Demand.{verdict-judged, table-left, leaks-iff, confined-iff, confined-accepts}
use Rattle.soundness.specs.Confined as machine
use Rattle.soundness.proofs.Safe.{safe}
use Rattle.demands.specs.Demands.{Demand1, Demand2, Demand3, Demands}

-- ---- demand 1

demand-1-holds : (L : ℕ) → 5 ≤ L → (xs : List ℕ) → Demand1 L xs
demand-1-holds L five xs =
    record {
      verdict-answers = verdict-answers L five xs;
      lowest-label = lowest-label L five xs;
      verdict-refuses = verdict-refuses L five xs;
      check-answers = check-answers L five xs;
      check-refuses = check-refuses L five xs;
      check-holds = check-holds L five xs;
      refused-exactly = refused-exactly L five xs;
      readable-exactly = readable-iff L five xs;
      records-read = λ c. (concatenation-read L five xs c).0;
      sheet-read = λ c. (concatenation-read L five xs c).1;
      refusal-leaves = refused-unchanged L five xs;
      verdict-word = λ small. verdict-read-back L small xs;
      check-word = λ small. check-read-back L small xs;
    }

-- ---- demand 2

counted : (b : Bool) (label guest count : ℕ) → (parts_of (cond b (confined count) (leaks label guest count))).count ≡ count
counted true label guest count = refl
counted false label guest count = refl

module _ (L : ℕ) (five : 5 ≤ L) (xs : List ℕ) (ok : Readable L xs) (t : Table) (full : row_count L ≤ length t) where
  long : length (least_table L (program_in L xs)) ≡ row_count L
  long = table-length L (program_in L xs) (readable-proper L xs five ok)

  facts-left : facts L (verdict_table L xs t) ≡ facts L (least_table L (program_in L xs))
  facts-left =
      ap (facts L) (table-left L xs five ok t full)
      ∙ facts-append L (least_table L (program_in L xs)) (drop (row_count L) t) (omega (arith, long))

  count-is : (parts_of (judged L (program_in L xs))).count ≡ facts L (least_table L (program_in L xs))
  unfolding judged
  count-is = counted (eqb (forbidden_held (least_table L (program_in L xs)) (program_in L xs).guests) 0) _ _ _

  demand-2-holds : Demand2 L xs t
  demand-2-holds =
      record {
        exactly-derived = λ r l h. (
          (λ e. (table-derives L (program_in L xs) (readable-proper L xs five ok) r l).0 (rw (row-left L xs five ok t full r h) at e)),
          (λ d. rw (row-left L xs five ok t full r h) ((table-derives L (program_in L xs) (readable-proper L xs five ok) r l).1 d)),
        );
        counted = ap (λ (o : Outcome). (parts_of o).count) (verdict-judged L xs five ok (length t) full) ∙ count-is ∙ sym facts-left;
        beyond-stay = beyond-left L xs five ok t full;
        same_length = length-left L xs five ok t full;
      }

-- ---- demand 3

-- no guest's row of the cleaned table has a label that is forbidden to the guest
clean-none : (L : ℕ) (xs : List ℕ) (t : Table) → forbidden_held t (program_in L xs).guests ≡ 0
    → machine.NoneForbidden (program_in L xs) (cleaned L (program_in L xs).sheet t)
unfolding program_of
clean-none L xs t clear g i l h f = go (Memᴰ.cases_cons i)
  where
    go : (g ≡ guest_three (read_file L xs).sheet) ⊎ Memᴰ g [] → ⊥
    go (inl e) =
        none-forbidden (read_file L xs).sheet t clear l (
          (has-cleaned L (read_file L xs).sheet t 1 l (subst (λ (q : Guest). Has (cleaned L (read_file L xs).sheet t) q.bag l) e h)).given,
          subst (λ (q : Guest). bit q.forbidden l ≡ 1) e f,
        )
    go (inr q) = Memᴰ.not-nil q

demand-3-holds : (L : ℕ) → 5 ≤ L → (xs : List ℕ) → Demand3 L xs
demand-3-holds L five xs =
    record {
      accepted-safe = λ t a.
          let c = accepted-closed L five xs t a in
          safe L xs five c.readable (cleaned L (program_in L xs).sheet t) c.closed (clean-none L xs t c.clear);
      accepts-exactly = check-accepts L five xs;
      absent = λ t r l. (has-cleaned L (program_in L xs).sheet t r l, cleaned-has L (program_in L xs).sheet t r l);
      leaks-exactly = λ ok. leaks-iff L xs five ok;
      confined-exactly = λ ok. confined-iff L xs five ok;
      confined-left = λ ok. confined-accepts L xs five ok;
    }

-- ---- all three

pub demands : (L : ℕ) → 5 ≤ L → Demands L
demands L five =
    record {
      demand-1 = demand-1-holds L five;
      demand-2 = λ xs ok t full. demand-2-holds L five xs ok t full;
      demand-3 = demand-3-holds L five;
    }
