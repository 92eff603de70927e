-- The check of a finished table (document 01, "What each operation says no to"). L is the number of labels. Assumes nothing.
use Rattle.std.specs.Prelude.{◌≡◌, List, [], ◌∷◌, true, cond, ℕ, zero, suc, ◌^◌, ◌<◌, length, take, drop, eqb, ltb}
use Rattle.std.specs.Int.Bits.{bit_and}
use Rattle.std.specs.Int.Count.{count_trailing_zeros}
use Rattle.words.specs.Words.{union}
use Rattle.rows.specs.Row.{row_count}
use Rattle.answer.specs.Outcome.{Outcome, accepted, refused, holds}
use Rattle.rules.specs.Table.{Table, Has}
use Rattle.rules.specs.Told.{Told}
use Rattle.rules.specs.Gap.{gap}
use Rattle.format.specs.Sheet.{Sheet, declared}
use Rattle.format.specs.Reading.{read_file}
use Rattle.program.specs.Program.{Program, program_of}
use Rattle.analysis.specs.Rules.{rules}
use Rattle.verdicts.specs.Verdict.{admitted, forbidden_held, holder}

-- the declared labels below L as a word
unfoldable pub declared_word : ℕ → Sheet → ℕ
unfolding union
declared_word zero s = 0
declared_word (suc l) s = let w = declared_word l s in cond (declared s l) (union w (2 ^ l)) w

-- every word with the bits of w alone
unfoldable pub masked : ℕ → Table → Table
masked w [] = []
masked w (x ∷ t) = bit_and x w ∷ masked w t

-- "in using the rules, row 0 and bits of undeclared labels count as absent"; words beyond the rows are not read
unfoldable pub cleaned : ℕ → Sheet → Table → Table
unfolding declared_word masked
cleaned L s t = 0 ∷ masked (declared_word L s) (drop 1 (take (row_count L) t))

-- the same, fact by fact: what counts of a given table
pub record Counts (L : ℕ) (s : Sheet) (t : Table) (r l : ℕ) : Type 0 where
  pub positive : 0 < r
  pub row : r < row_count L
  pub declared-label : declared s l ≡ true
  pub label : l < L
  pub given : Has t r l

-- "one use of all rules would enlarge" row r: from the cleaned table they tell a label that row r of the given table lacks
abbrev pub Lacks : ℕ → Program → Table → ℕ → Type 0
Lacks L p t r = (l : ℕ) × Told L (cleaned L p.sheet t) (rules L p) r l × (Has t r l → ⊥)

-- "then 10 with the lowest row that one use of all rules would enlarge, then 11 (position: lowest forbidden label in row 1)"; Req 11: "the check's 11
-- picks and names the same way"
unfoldable pub checked : ℕ → Program → Table → Outcome
unfolding rules gap cleaned forbidden_held count_trailing_zeros
checked L p t =
    let row = gap L (cleaned L p.sheet t) (rules L p) in
    let w = forbidden_held t p.guests in
    cond (ltb row (row_count L)) (refused 10 row) (cond (eqb w 0) (accepted 0) (holds (count_trailing_zeros L w) (holder p.guests)))

-- what the check says of a file and a table: "the same with the same numbers, then .."; "it only reads, and accepts otherwise"
unfoldable pub check_outcome : ℕ → List ℕ → Table → Outcome
unfolding read_file program_of checked
check_outcome L xs t =
    let d = read_file L xs in
    let o = checked L (program_of d) t in
    admitted L (length t) d refused o

-- the check accepts the table for the file
abbrev pub Accepts : ℕ → List ℕ → Table → Type 0
Accepts L xs t = check_outcome L xs t ≡ accepted 0

-- the outcome is refusal 11
abbrev pub Holds : Outcome → Type 0
Holds o = (label guest : ℕ) × (o ≡ holds label guest)
