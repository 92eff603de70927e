-- Tables in the lent words. A table is a list of rows, each the number of its set of labels. The words that C lends hold one table, or
-- two, one behind the other: `table_at` reads the table that begins at a place. Assumes nothing.
use Rattle.std.specs.Prelude.{Bool, List, ℕ, ◌+◌, ◌*◌}
use Rattle.rows.specs.Edition.{labels, words}
use Rattle.rows.specs.Row.{row_count}
use Rattle.rows.specs.Run.{view}
use Rattle.rules.specs.Table.{Table}

-- where row r of the table at o begins
abbrev pub place : Bool → ℕ → ℕ → ℕ
place wide o r = o + words wide * r

-- the table at o of the words t
abbrev pub table_at : Bool → ℕ → List ℕ → Table
table_at wide o t = view (words wide) (row_count (labels wide)) o t
