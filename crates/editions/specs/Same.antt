-- Two editions say the same of a file that the smaller one reads (document 02, Req 13: "A file readable in the small edition has the same verdict and
-- count in the large one."). L and M are their numbers of labels, 64 and 256 in the code. proofs/Same.antt proves it for all L and M, 5 ≤ L ≤ M.
-- Assumes nothing.
use Rattle.std.specs.Prelude.{◌≡◌, List, ℕ, ◌≤◌, length, get_or}
use Rattle.rows.specs.Row.{Row, number, row_count, InTable}
use Rattle.rules.specs.Table.{Table}
use Rattle.format.specs.Reading.{read_file, Readable}
use Rattle.verdicts.specs.Verdict.{verdict_outcome, verdict_table}

pub record Same (L M : ℕ) (xs : List ℕ) : Type 0 where
  pub readable : Readable M xs
  -- the same records at the same positions
  pub records : (read_file M xs).records ≡ (read_file L xs).records
  -- the same outcome, lent a table of full size: confined or leaks, label and count
  pub outcome : (rows more : ℕ) → row_count L ≤ rows → row_count M ≤ more → verdict_outcome M more xs ≡ verdict_outcome L rows xs
  -- the same facts row by row, each row under its number in either table
  pub rows : (t u : Table) → row_count L ≤ length t → row_count M ≤ length u → (y : Row) → InTable L y
      → get_or (verdict_table M xs u) (number M y) 0 ≡ get_or (verdict_table L xs t) (number L y) 0
  -- and no fact in a row that the smaller table has not
  pub others : (u : Table) → row_count M ≤ length u → (y : Row) → InTable M y → (InTable L y → ⊥) → get_or (verdict_table M xs u) (number M y) 0 ≡ 0
