-- Tables of facts. A table is a list of words, one a row; a word is a set of labels, bit l for label l. The fact (r, l) says that
-- row r holds label l. Assumes nothing.
use Rattle.std.specs.Prelude.{◌≡◌, List, [], ◌∷◌, ℕ, ◌+◌, ◌^◌, ◌≤◌, ◌<◌, length, get_or, take, replicate}
use Rattle.words.specs.Words.{bit, count_below}
use Rattle.rows.specs.Row.{row_count}

-- for 64 labels this is the list of the lent words
abbrev pub Table : Type 0
Table = List ℕ

-- row r of the table holds label l
abbrev pub Has : Table → ℕ → ℕ → Type 0
Has t r l = bit (get_or t r 0) l ≡ 1

-- every fact of t is in u
abbrev pub Within : Table → Table → Type 0
Within t u = (r l : ℕ) → Has t r l → Has u r l

-- no fact at all
abbrev pub empty_table : ℕ → Table
empty_table L = replicate (row_count L) 0

-- every word is a set of labels below L
abbrev pub Small : ℕ → Table → Type 0
Small L t = (r : ℕ) → get_or t r 0 < 2 ^ L

-- a table for L labels: it has every row, and maybe words beyond them
pub record Shaped (L : ℕ) (t : Table) : Type 0 where
  pub long : row_count L ≤ length t
  pub small : Small L t

-- how many labels below L the words hold together
unfoldable pub total : ℕ → List ℕ → ℕ
unfolding count_below bit
total L [] = 0
total L (w ∷ ws) = count_below w L + total L ws

-- the number of facts in the rows of a table for L labels; words beyond the rows are not counted
unfoldable pub facts : ℕ → Table → ℕ
unfolding total
facts L t = total L (take (row_count L) t)
