-- The verdict (document 01, "What each operation says no to" and "Table and sheet"): its outcome, and the table it leaves. L is the number of labels.
-- Assumes nothing.
use Rattle.std.specs.Prelude.{◌≡◌, List, [], ◌∷◌, ◌++◌, cond, ℕ, ◌*◌, ◌≤◌, length, drop, eqb, ltb}
use Rattle.std.specs.Int.Count.{count_trailing_zeros}
use Rattle.rows.specs.Row.{row_count}
use Rattle.rows.specs.Run.{room_for, rows_of, laid}
use Rattle.answer.specs.Outcome.{Outcome, confined, leaks, refused}
use Rattle.rules.specs.Table.{Table, facts}
use Rattle.format.specs.Reading.{Reading, read_file}
use Rattle.program.specs.Program.{Program, Guest, program_of}
use Rattle.analysis.specs.Verdict.{least_table, held_forbidden}

-- "8 (position 0) if the lent table has fewer than 2,432 words; 9 (position 0) if the file is longer than 32,768 bytes; then records in order ..
-- Then 7": what is refused of a table of so many rows, in the small edition a word each, and of the file that was read as d,
-- else a
abbrev pub admitted : {A : Type 0} → ℕ → ℕ → Reading → (ℕ → ℕ → A) → A → A
admitted L rows d refuse a = cond (ltb rows (row_count L)) (refuse 8 0) (cond (eqb d.refusal 0) a (refuse d.refusal d.position))

-- the forbidden labels in the first guest's bag, row 1
unfoldable pub forbidden_held : Table → List Guest → ℕ
unfolding held_forbidden
forbidden_held t [] = 0
forbidden_held t (g ∷ gs) = held_forbidden t g

-- the guest whose bag that is, by its label
abbrev pub holder : List Guest → ℕ
holder [] = 0
holder (g ∷ gs) = g.label

-- "The verdict is leaks if S(1) holds a forbidden label", "with the lowest forbidden label held"; "the fact count is the number of these"; Req 11:
-- "with the guest's label beside the forbidden one"
unfoldable pub judged : ℕ → Program → Outcome
unfolding least_table facts forbidden_held count_trailing_zeros
judged L p =
    let t = least_table L p in
    let w = forbidden_held t p.guests in
    let count = facts L t in
    cond (eqb w 0) (confined count) (leaks (count_trailing_zeros L w) (holder p.guests) count)

-- what the verdict says of a file, lent a table of so many rows
unfoldable pub verdict_outcome : ℕ → ℕ → List ℕ → Outcome
unfolding read_file program_of judged
verdict_outcome L rows xs =
    let d = read_file L xs in
    let o = judged L (program_of d) in
    admitted L rows d refused o

-- "No refusal changes any word"; else "the verdict starts from an empty table of 2,432 words; words beyond stay untouched"
unfoldable pub verdict_table : ℕ → List ℕ → Table → Table
unfolding read_file program_of least_table
verdict_table L xs t =
    let d = read_file L xs in
    let u = least_table L (program_of d) ++ drop (row_count L) t in
    admitted L (length t) d (λ n at. t) u

-- the same in the words that a caller lends, k to a row: the rows of that table, and behind the last whole row what stood there
unfoldable pub verdict_words : ℕ → ℕ → List ℕ → List ℕ → List ℕ
unfolding verdict_table laid
verdict_words k L xs t = laid k (verdict_table L xs (rows_of k t)) ++ drop (k * room_for k t) t

-- the outcome is leaks; it is confined; it is a refusal with a number from 1 to `most`
abbrev pub Leaks : Outcome → Type 0
Leaks o = (label guest count : ℕ) × (o ≡ leaks label guest count)

abbrev pub Confined : Outcome → Type 0
Confined o = (count : ℕ) × (o ≡ confined count)

abbrev pub Refused : ℕ → Outcome → Type 0
Refused most o = (n at : ℕ) × (1 ≤ n) × (n ≤ most) × (o ≡ refused n at)
