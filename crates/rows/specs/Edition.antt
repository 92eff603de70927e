-- The two editions: 64 labels and rows of one word, or 256 labels and rows of four words (document 02, Req 13). `wide` says which it is. And how many words a table
-- has. Assumes nothing.
use Rattle.std.specs.Prelude.{Bool, true, false, ℕ, ◌*◌}
use Rattle.rows.specs.Row.{row_count}

abbrev pub labels : Bool → ℕ
labels true = 256
labels false = 64

abbrev pub words : Bool → ℕ
words true = 4
words false = 1

-- how many words a table has
abbrev pub word_count : Bool → ℕ
word_count wide = words wide * row_count (labels wide)
