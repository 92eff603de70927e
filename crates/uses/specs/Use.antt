-- One use of a rule on the lent words: the rule reads the table at 0 and adds to the table at o. Where o = 0 the two are one table, which changes as it is
-- read; else the table read stays. One contract, `Used`, says both: what is told of the table as it was is there afterwards, and nothing was added but
-- what was told of the table as it was at that moment. Assumes nothing.
use Rattle.std.specs.Prelude.{◌≡◌, ◌⊎◌, Bool, true, false, List, ℕ, ◌+◌, ◌≤◌, ◌<◌}
use Rattle.words.specs.Words.{bit}
use Rattle.rows.specs.Edition.{labels, words, word_count}
use Rattle.rows.specs.Row.{row_count}
use Rattle.rules.specs.Table.{Table, Has, Within}
use Rattle.rules.specs.Rule.{Rule}
use Rattle.rules.specs.Told.{Told}
use Rattle.lent.specs.Table.{table_at}
use Rattle.lent.specs.Stored.{Joined}

-- the two places that a table can have beside the table at 0: the same, or behind it
abbrev pub Apart : Bool → ℕ → Type 0
Apart wide o = (o ≡ 0) ⊎ (word_count wide ≤ o)

-- the lent words, `size` of them, have room for the table at o, which is the table at 0 or lies behind it
pub record Lent (wide : Bool) (o size : ℕ) : Type 0 where
  pub room : o + word_count wide ≤ size
  pub apart : Apart wide o

-- the table read
abbrev pub table_of : Bool → List ℕ → Table
table_of wide t = table_at wide 0 t

-- the words t have all the facts that `old` had
abbrev pub Since : Bool → List ℕ → List ℕ → Type 0
Since wide old t = Within (table_of wide old) (table_of wide t)

-- what a rule tells of a table. Other things than rules tell of tables too: below T is anything that does
abbrev pub tells : Bool → Rule → Table → ℕ → ℕ → Type 0
tells wide p t = Told (labels wide) t p

-- label m told to row y, and what row x holds told to row y; nothing is told to row 0
abbrev pub giving : ℕ → ℕ → Table → ℕ → ℕ → Type 0
giving y m t r l = (0 < y) × (r ≡ y) × (l ≡ m)

abbrev pub including : ℕ → ℕ → Table → ℕ → ℕ → Type 0
including y x t r l = (0 < y) × (r ≡ y) × Has t x l

-- from the words t one comes to others by steps: each joins to one row labels that T tells of the table at 0 as it is at that moment
pub data Reached (wide : Bool) (o : ℕ) (T : Table → ℕ → ℕ → Type 0) (t : List ℕ) : List ℕ → Type 0 where
  start : Reached wide o T t t
  adds : {u v : List ℕ} {grew : Bool} (r s : ℕ) → Reached wide o T t u → r < row_count (labels wide)
      → ((l : ℕ) → bit s l ≡ 1 → 0 < r → T (table_of wide u) r l) → Joined (words wide) o r s u v grew → Reached wide o T t v

-- `grew` says whether the table at o gained a fact; where it did not, no word changed
pub record Says (wide : Bool) (o : ℕ) (t u : List ℕ) (grew : Bool) : Type 0 where
  pub still : grew ≡ false → u ≡ t
  pub more : grew ≡ true → (r : ℕ) × (l : ℕ) × Has (table_at wide o u) r l × (Has (table_at wide o t) r l → ⊥)

-- One use turned the words t into u. What it must have added is counted from the words `old`: t itself, or, where the code remembers what it worked out
-- before, the words as they were when it began to remember, as at the start of a pass.
pub record Used (wide : Bool) (o : ℕ) (T : Table → ℕ → ℕ → Type 0) (old t u : List ℕ) (grew : Bool) : Type 0 where
  pub all : (r l : ℕ) → T (table_of wide old) r l → Has (table_at wide o u) r l
  pub only : Reached wide o T t u
  pub says : Says wide o t u grew
