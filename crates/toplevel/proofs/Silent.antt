-- A return at top level says nothing. Assumes nothing.
use mathlib.Core.Path.{◌≡◌, refl, sym, ap, subst, ◌∙◌}
use mathlib.Core.List.{List, ◌++◌}
use mathlib.Core.Bool.{Bool, true, false, cond}
use Prim.Native.Nat.{ℕ, ◌*◌, ◌≤◌}
use native.Mathlib.Omega.{arith}
use native.Mathlib.Decide.{ℕ_discrete}
use lib.ListN.{length, drop}
use lib.Dec.{eqb, ltb}
use borrow.Author.Tests.{eq-eqb, ne_eqb}
use Rattle.rows.specs.Row.{row_count}
use Rattle.rows.specs.Run.{room_for, rows_of, laid}
use Rattle.answer.specs.Outcome.{refused}
use Rattle.rules.specs.Table.{Table}
use Rattle.format.specs.Sheet.{type_of}
use Rattle.format.specs.Reading.{Reading, read_file, Readable}
use Rattle.format.proofs.Readable.{readable-ready}
use Rattle.program.specs.Statement as say
use Rattle.program.specs.Program.{Program, host_statements, program_of, program_in}
use Rattle.analysis.specs.Verdict.{least_table}
use Rattle.verdicts.specs.Verdict.{admitted, judged, verdict_outcome, verdict_table, verdict_words}
use Rattle.verdicts.specs.Check.{cleaned, checked, check_outcome}
use Rattle.machine.specs.State.{State}
use Rattle.machine.specs.Step.{act, step, run}
use Rattle.machine.specs.Start as machine
use Rattle.machine.proofs.Laws.Grounded.{start-grounded, returns-to-nobody}
use Rattle.toplevel.specs.Silent.{PutIn, Reached, Unchanged, Silent}
use Rattle.toplevel.proofs.Read.{Read, put-in-read}
use Rattle.toplevel.proofs.Found.{taken_out}
use Rattle.toplevel.proofs.Bare.{with_host, Among, program-is, return-among}
use Rattle.toplevel.proofs.Told.{least-same, gap_same}
use Rattle.toplevel.proofs.Start.{start-same}
use Rattle.toplevel.proofs.Run.{run-with, run-without}

-- label 0 is plain in every readable file
top-plain : (L : ℕ) → 5 ≤ L → (xs : List ℕ) → Readable L xs → type_of (read_file L xs).sheet 0 ≡ 2 → ⊥
top-plain L five xs ok e = omega (arith, e, (readable-ready L xs five ok).made.labels.start-type 0 (omega arith))

-- ---- verdict and check of the two programs

module _ (L : ℕ) (q : Program) (h : List (ℕ × say.Statement)) (a : Among q h) (plain : type_of q.sheet 0 ≡ 2 → ⊥) where
  judged-same : judged L (with_host q h) ≡ judged L q
  unfolding judged
  judged-same = rw (least-same q h a plain L)

  checked-same : (t : Table) → checked L (with_host q h) t ≡ checked L q t
  unfolding checked
  checked-same t = rw (gap_same q h a plain L (cleaned L q.sheet t))

-- what both operations refuse, they refuse of both files
pub admitted-same : {A : Type 0} (L rows : ℕ) (d e : Reading) (refuse : ℕ → ℕ → A) (x y : A) → e.refusal ≡ d.refusal → (d.refusal ≡ 0 → x ≡ y)
    → ((d.refusal ≡ 0 → ⊥) → refuse d.refusal e.position ≡ refuse d.refusal d.position)
    → admitted L rows e refuse x ≡ admitted L rows d refuse y
admitted-same L rows d e refuse x y r f g = rw r (go (ltb rows (row_count L)) (ℕ_discrete d.refusal 0))
  where
    go : (b : Bool) → Dec (d.refusal ≡ 0)
        → cond b (refuse 8 0) (cond (eqb d.refusal 0) x (refuse d.refusal e.position))
        ≡ cond b (refuse 8 0) (cond (eqb d.refusal 0) y (refuse d.refusal d.position))
    go true z = refl
    go false (yes z) = rw (eq-eqb d.refusal 0 z) (f z)
    go false (no z) = rw (ne_eqb d.refusal 0 z) (g z)

-- ---- the two files

module _ (L : ℕ) (five : 5 ≤ L) (ys xs : List ℕ) (i : PutIn L ys xs) where
  abbrev d : Reading
  d = read_file L ys

  abbrev e : Reading
  e = read_file L xs

  read : Read d e
  read = put-in-read L ys xs i

  among : Among (program_of d) (host_statements e.records)
  among = return-among d e read

  plain : Readable L ys → type_of (program_in L ys).sheet 0 ≡ 2 → ⊥
  unfolding program_of
  plain ok = top-plain L five ys ok

  least : Readable L ys → least_table L (program_in L xs) ≡ least_table L (program_in L ys)
  least ok = ap (least_table L) (program-is d e read) ∙ least-same (program_of d) (host_statements e.records) among (plain ok) L

  table_same : (t : Table) → verdict_table L xs t ≡ verdict_table L ys t
  unfolding verdict_table
  table_same t =
      admitted-same L (length t) d e (λ n at. t) (least_table L (program_in L xs) ++ drop (row_count L) t) (least_table L (program_in L ys) ++ drop (row_count L) t)
      read.same-refusal (λ ok. ap (λ (u : Table). u ++ drop (row_count L) t) (least ok)) (λ _. refl)

  pub unchanged-holds : Unchanged L ys xs
  unfolding verdict_words verdict_outcome check_outcome
  unchanged-holds =
      record {
        refusal = read.same-refusal;
        position = read.further-on;
        sheet = read.same-sheet;
        table = table_same;
        words = λ k t. ap (λ (u : Table). laid k u ++ drop (k * room_for k t) t) (table_same (rows_of k t));
        outcome = λ ok rows.
            admitted-same L rows d e refused (judged L (program_in L xs)) (judged L (program_in L ys)) read.same-refusal
            (λ z. ap (judged L) (program-is d e read) ∙ judged-same L (program_of d) (host_statements e.records) among (plain ok)) (λ no. absurd (no ok));
        check = λ ok t.
            admitted-same L (length t) d e refused (checked L (program_in L xs) t) (checked L (program_in L ys) t) read.same-refusal
            (λ z. ap (λ (p : Program). checked L p t) (program-is d e read) ∙ checked-same L (program_of d) (host_statements e.records) among (plain ok) t)
            (λ no. absurd (no ok));
        reached = λ ok s. (reached-without ok s, reached-with ok s);
      }
    where
      q : Program
      q = program_of d

      h : List (ℕ × say.Statement)
      h = host_statements e.records

      reached-without : Readable L ys → (s : State) → Reached L xs s → Reached L ys s
      reached-without ok s r =
          let w = run-without q h among (plain ok) r.0 (machine.start q) (start-grounded q (plain ok)) in (
            w.0,
            r.1 ∙ ap (λ (p : Program). run p r.0 (machine.start p)) (program-is d e read)
                ∙ ap (run (with_host q h) r.0) (start-same q h among) ∙ w.1,
          )

      reached-with : Readable L ys → (s : State) → Reached L ys s → Reached L xs s
      reached-with ok s r =
          let w = run-with q h among r.0 (machine.start q) in (
            w.0,
            r.1 ∙ w.1 ∙ ap (run (with_host q h) w.0) (sym (start-same q h among))
                ∙ ap (λ (p : Program). run p w.0 (machine.start p)) (sym (program-is d e read)),
          )

-- ---- all together

pub silent : (L : ℕ) → 5 ≤ L → Silent L
unfolding program_of
silent L five =
    record {
      unchanged = unchanged-holds L five;
      put_in = taken_out L;
      idle = λ xs ok s r c v e.
          subst (λ (u : State). step (program_in L xs) (act c) u ≡ u) (sym r.1)
          (returns-to-nobody (program_in L xs) (top-plain L five xs ok) r.0 c v e);
    }
