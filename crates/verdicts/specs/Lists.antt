-- The lists of document 01, "What each operation says no to", line by line, as statements about the file and the table. L is the number of labels.
-- Assumes nothing.
use Rattle.std.specs.Prelude.{◌≡◌, List, ℕ, ◌<◌, ◌≤◌, length}
use Rattle.words.specs.Words.{bit}
use Rattle.rows.specs.Row.{row_count}
use Rattle.rules.specs.Table.{Table, Has}
use Rattle.format.specs.Sheet.{Sheet}
use Rattle.format.specs.Reading.{Readable}
use Rattle.format.specs.Refusals.{BadFile}
use Rattle.program.specs.Program.{program_in}
use Rattle.verdicts.specs.Check.{Lacks}

-- the verdict, lent a table of so many rows, refuses the file with n at position `at`: "8 (position 0) if the lent table has fewer than 2,432
-- words; 9 .."
pub data VerdictRefuses (L : ℕ) (xs : List ℕ) (rows n at : ℕ) : Type 0 where
  table-short : rows < row_count L → n ≡ 8 → at ≡ 0 → VerdictRefuses L xs rows n at
  file-bad : row_count L ≤ rows → BadFile L xs n at → VerdictRefuses L xs rows n at

-- one use of all rules would enlarge no row of the table
abbrev pub NoneLacks : ℕ → List ℕ → Table → Type 0
NoneLacks L xs t = (r : ℕ) → Lacks L (program_in L xs) t r → ⊥

-- the sheet forbids label l, and row 1 holds it
abbrev pub ForbiddenHeld : Sheet → Table → ℕ → Type 0
ForbiddenHeld s t l = Has t 1 l × (bit s.forbidden l ≡ 1)

-- "lowest forbidden label in row 1"
pub record LowestForbidden (s : Sheet) (t : Table) (l : ℕ) : Type 0 where
  pub held : ForbiddenHeld s t l
  pub least : (m : ℕ) → ForbiddenHeld s t m → l ≤ m

-- the check refuses the table with n at position `at`: "the same with the same numbers, then 10 with the lowest row that one use of all rules would
-- enlarge,"
pub data CheckRefuses (L : ℕ) (xs : List ℕ) (t : Table) (n at : ℕ) : Type 0 where
  as-the-verdict : VerdictRefuses L xs (length t) n at → CheckRefuses L xs t n at
  row-lacks : row_count L ≤ length t → Readable L xs → Lacks L (program_in L xs) t at → ((r : ℕ) → Lacks L (program_in L xs) t r → at ≤ r) → n ≡ 10
      → CheckRefuses L xs t n at

-- "then 11 (position: lowest forbidden label in row 1)", and beside it the guest's label, which is 3
pub record CheckHolds (L : ℕ) (xs : List ℕ) (t : Table) (label guest : ℕ) : Type 0 where
  pub full_size : row_count L ≤ length t
  pub readable : Readable L xs
  pub none-lacks : NoneLacks L xs t
  pub lowest : LowestForbidden (program_in L xs).sheet t label
  pub guest-three : guest ≡ 3

-- nothing in the check's list is against the file and the table
pub record Acceptable (L : ℕ) (xs : List ℕ) (t : Table) : Type 0 where
  pub full_size : row_count L ≤ length t
  pub readable : Readable L xs
  pub none-lacks : NoneLacks L xs t
  pub none-held : (l : ℕ) → ForbiddenHeld (program_in L xs).sheet t l → ⊥
