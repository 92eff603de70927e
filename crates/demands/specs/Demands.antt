-- The customer's demands (`demands.md`), in its words, as statements about the definitions that the contracts of the operations cite: what the
-- verdict answers (`verdict_outcome`) and leaves in the lent table (`verdict_table`), what the check answers (`check_outcome`), what the rules derive
-- (`Derives`), and the runs of the machine. L is the number of labels: Editions.antt says for which, and what it means for the words that a caller
-- lends. Assumes nothing.
use Rattle.std.specs.Prelude.{◌≡◌, ◌↔◌, ◌⊎◌, List, ℕ, ◌≤◌, ◌<◌, length, drop}
use Rattle.rows.specs.Row.{row_count}
use Rattle.rules.specs.Table.{Table, Has, Small, empty_table, facts}
use Rattle.rules.specs.Told.{Derives}
use Rattle.format.specs.Sheet.{start}
use Rattle.format.specs.Reading.{read_file, Readable, sheet_after, positioned, Concatenation}
use Rattle.analysis.specs.Rules.{rules}
use Rattle.answer.specs.Outcome.{leaks, refused, holds, parts_of, ReadBack}
use Rattle.program.specs.Program.{program_in}
use Rattle.verdicts.specs.Verdict.{verdict_outcome, verdict_table, Leaks, Confined, Refused}
use Rattle.verdicts.specs.Check.{cleaned, Counts, check_outcome, Accepts, Holds}
use Rattle.verdicts.specs.Lists.{VerdictRefuses, CheckRefuses, CheckHolds, LowestForbidden, Acceptable}
use Rattle.soundness.specs.Confined as machine

-- Demand 1, of a list of bytes. That every call ends is in the contracts: they equate the answer with a definition, and none has a `requires`.
pub record Demand1 (L : ℕ) (xs : List ℕ) : Type 0 where
  -- "The answer to a statement file of whatever content is confined, leaks .., or a numbered refusal .."
  pub verdict-answers : (rows : ℕ)
      → Confined (verdict_outcome L rows xs) ⊎ (Leaks (verdict_outcome L rows xs) ⊎ Refused 9 (verdict_outcome L rows xs))
  -- ".. leaks with the lowest forbidden label held ..", and beside it the guest's label
  pub lowest-label : (t : Table) (l guest count : ℕ) → verdict_outcome L (length t) xs ≡ leaks l guest count
      → LowestForbidden (program_in L xs).sheet (verdict_table L xs t) l × (guest ≡ 3)
  -- ".. a numbered refusal with its position;": number and position are those of document 01's list
  pub verdict-refuses : (rows n at : ℕ) → (verdict_outcome L rows xs ≡ refused n at) ↔ VerdictRefuses L xs rows n at
  -- "to a file with a finished table it is accepted or a refusal."
  pub check-answers : (t : Table) → Accepts L xs t ⊎ (Refused 10 (check_outcome L xs t) ⊎ Holds (check_outcome L xs t))
  -- 1 to 10, and 11, which has the guest's label beside its position
  pub check-refuses : (t : Table) (n at : ℕ) → (check_outcome L xs t ≡ refused n at) ↔ CheckRefuses L xs t n at
  pub check-holds : (t : Table) (l guest : ℕ) → (check_outcome L xs t ≡ holds l guest) ↔ CheckHolds L xs t l guest
  -- "A file is refused only where it breaks the layout, or where file or table has a wrong size.": there, and nowhere else
  pub refused-exactly : (rows : ℕ) → Refused 9 (verdict_outcome L rows xs) ↔ ((rows < row_count L) ⊎ (Concatenation L xs → ⊥))
  pub readable-exactly : Readable L xs ↔ Concatenation L xs
  -- what rules and machine are given of a readable file are its records, each with its position, and the sheet that they make
  pub records-read : (c : Concatenation L xs) → (read_file L xs).records ≡ positioned 0 c.records
  pub sheet-read : (c : Concatenation L xs) → (read_file L xs).sheet ≡ sheet_after (start L) c.records
  -- "A refusal leaves the lent table unaltered"
  pub refusal-leaves : (t : Table) (n at : ℕ) → verdict_outcome L (length t) xs ≡ refused n at → verdict_table L xs t ≡ t
  -- each part is read back from the word that is handed over; document 01: "label, count and position are 0 in any outcome that is not said to have them"
  pub verdict-word : L ≤ 256 → (rows : ℕ) → ReadBack (verdict_outcome L rows xs)
  pub check-word : L ≤ 256 → (t : Table) → ReadBack (check_outcome L xs t)

-- Demand 2, of a readable file and a lent table of full size.
pub record Demand2 (L : ℕ) (xs : List ℕ) (t : Table) : Type 0 where
  -- "The table left after a verdict holds every fact that the analysis rules derive from the file, and no other fact."
  pub exactly-derived : (r l : ℕ) → r < row_count L → Has (verdict_table L xs t) r l ↔ Derives L (rules L (program_in L xs)) (empty_table L) r l
  -- "The fact count is the number of these."
  pub counted : (parts_of (verdict_outcome L (length t) xs)).count ≡ facts L (verdict_table L xs t)
  -- document 01: "words beyond stay untouched"
  pub beyond-stay : drop (row_count L) (verdict_table L xs t) ≡ drop (row_count L) t
  pub same_length : length (verdict_table L xs t) ≡ length t

-- Demand 3.
pub record Demand3 (L : ℕ) (xs : List ℕ) : Type 0 where
  -- "Take any statement file and any table, whoever made it, that the check accepts for that file .. Then after every finite list of steps of the
  -- handset machine from its start .. the guest holds no object of a forbidden label."
  pub accepted-safe : (t : Table) → Accepts L xs t → machine.Confined (program_in L xs)
  -- ".. as it does exactly where its list in document 01 has no refusal."
  pub accepts-exactly : (t : Table) → Accepts L xs t ↔ Acceptable L xs t
  -- document 01: "In using the rules, row 0 and bits of undeclared labels count as absent."
  pub absent : (t : Table) (r l : ℕ) → Has (cleaned L (program_in L xs).sheet t) r l ↔ Counts L (program_in L xs).sheet t r l
  -- "A readable file, with a table of full size lent, gets leaks exactly when there is no table at all that the check accepts for it,"
  pub leaks-exactly : Readable L xs → (rows : ℕ) → row_count L ≤ rows
      → Leaks (verdict_outcome L rows xs) ↔ ((t : Table) → Accepts L xs t → ⊥)
  -- "and confined exactly when there is one;": one of rows for L labels
  pub confined-exactly : Readable L xs → (rows : ℕ) → row_count L ≤ rows
      → Confined (verdict_outcome L rows xs) ↔ ((t : Table) × Small L t × Accepts L xs t)
  -- "after confined the check accepts for it the lent table as the verdict left it."
  pub confined-left : Readable L xs → (t : Table) → row_count L ≤ length t → Confined (verdict_outcome L (length t) xs)
      → Accepts L xs (verdict_table L xs t)

-- The three, for every list of bytes and every table.
pub record Demands (L : ℕ) : Type 0 where
  pub demand-1 : (xs : List ℕ) → Demand1 L xs
  pub demand-2 : (xs : List ℕ) → Readable L xs → (t : Table) → row_count L ≤ length t → Demand2 L xs t
  pub demand-3 : (xs : List ℕ) → Demand3 L xs
