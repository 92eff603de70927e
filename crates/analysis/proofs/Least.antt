-- The least table of a readable file: its size, that it is closed and within every closed table, that it holds exactly what the rules derive
-- from the empty table, declared labels only and nothing in row 0, and how many facts it has. Assumes nothing.
use mathlib.Core.Path.{◌≡◌, ◌∙◌}
use mathlib.Core.Logic.{◌↔◌}
use Prim.Native.Nat.{ℕ, zero, suc, ◌<◌}
use mathlib.Core.List.{Memᴰ}
use native.Mathlib.Decide.{dec_lt}
use native.Mathlib.Omega.{arith}
use lib.ListN.{length, get_or, length-replicate, get_or-eq_default}
use Rattle.words.proofs.Bits.{empty-off}
use Rattle.rows.specs.Row.{row_count}
use Rattle.rules.specs.Table.{Table, Has, Within, empty_table, Shaped, facts}
use Rattle.rules.specs.Told.{Closed, Derives, started, follows}
use Rattle.rules.proofs.Table.{has-label, empty-has, empty-row, empty-shaped}
use Rattle.rules.proofs.Count.{fact_list, facts-counted, facts-listed}
use Rattle.rules.proofs.Least.{least-within, least-shaped, least-closed, least-length, least-row-zero}
use Rattle.rules.proofs.Derive.{least-holds}
use Rattle.program.specs.Program.{Program}
use Rattle.analysis.specs.Rules.{rules}
use Rattle.analysis.specs.Verdict.{least_table}
use Rattle.analysis.proofs.Stated.{Declared}
use Rattle.analysis.proofs.Proper.{Proper}
use Rattle.analysis.proofs.Fit.{proper-fits}
use Rattle.analysis.proofs.Naming.{Only, told_names, rules-name}

-- what is derived from a table with labels of D is of D, by rules that name labels of D
derives-declared : (L : ℕ) (p : Program) → Proper L p → (r l : ℕ) → Derives L (rules L p) (empty_table L) r l → Declared p.sheet l
derives-declared L p o r l (started h) = absurd (empty-has L r l h)
derives-declared L p o r l (follows u d h) =
    told_names (Declared p.sheet) L u (λ x m g. derives-declared L p o x m (d x m g)) (rules L p) (rules-name L p o) r l h

-- every closed table holds the least one
pub table-within : (L : ℕ) (p : Program) (u : Table) → Closed L u (rules L p) → Within (least_table L p) u
unfolding least_table
table-within L p u c = least-within L (rules L p) (empty_table L) u c (λ r l h. absurd (empty-has L r l h))

module _ (L : ℕ) (p : Program) (o : Proper L p) where
  pub table-length : length (least_table L p) ≡ row_count L
  unfolding least_table
  table-length = least-length L (rules L p) (proper-fits L p o) (empty_table L) (empty-shaped L) ∙ length-replicate (row_count L) 0

  pub table-shaped : Shaped L (least_table L p)
  unfolding least_table
  table-shaped = least-shaped L (rules L p) (proper-fits L p o) (empty_table L) (empty-shaped L)

  pub table-row-zero : get_or (least_table L p) 0 0 ≡ 0
  unfolding least_table
  table-row-zero = least-row-zero L (rules L p) (proper-fits L p o) (empty_table L) (empty-shaped L) ∙ empty-row L 0

  pub table-closed : Closed L (least_table L p) (rules L p)
  unfolding least_table
  table-closed = least-closed L (rules L p) (proper-fits L p o) (empty_table L) (empty-shaped L)

  -- demand 2: "holds every fact that the analysis rules derive from the file, and no other fact"
  pub table-derives : (r l : ℕ) → Has (least_table L p) r l ↔ Derives L (rules L p) (empty_table L) r l
  unfolding least_table
  table-derives = least-holds L (rules L p) (proper-fits L p o) (empty_table L) (empty-shaped L)

  pub table-declared : Only (Declared p.sheet) (least_table L p)
  table-declared r l h = derives-declared L p o r l ((table-derives r l).0 h)

  -- a fact stands in a row from 1 up
  pub table-positive : (r l : ℕ) → Has (least_table L p) r l → 0 < r
  table-positive zero l h = absurd (empty-off l (rw table-row-zero at h))
  table-positive (suc r) l h = omega arith

  -- and in one of the table's rows
  pub table-row : (r l : ℕ) → Has (least_table L p) r l → r < row_count L
  table-row r l h =
      elim (dec_lt r (row_count L)) [
        | yes i ↦ i
        | no d ↦ absurd (empty-off l (rw (get_or-eq_default (least_table L p) 0 {n = r} (omega (arith, table-length))) at h))
      ]

  -- "the fact count is the number of these": the length of a list that has each of them once; all words are counted, and there are no more than
  -- L facts a row
  pub table_counted : facts L (least_table L p) ≡ length (fact_list L (least_table L p))
  table_counted = facts-counted L (least_table L p)

  pub counted-derives : (r l : ℕ) → Memᴰ (r, l) (fact_list L (least_table L p)) ↔ Derives L (rules L p) (empty_table L) r l
  counted-derives r l = (
    (λ i. (table-derives r l).0 ((facts-listed L (least_table L p) r l).0 i).2),
    (λ d. let h = (table-derives r l).1 d in
        (facts-listed L (least_table L p) r l).1 (table-row r l h, has-label L (least_table L p) table-shaped.small r l h, h)),
  )
