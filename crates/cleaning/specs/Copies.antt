-- The check's two tables, one behind the other: at first both are the given table, cleaned; then one use of all rules adds to the second. Assumes nothing.
use Rattle.std.specs.Prelude.{◌≡◌, Bool, List, Option, None, Some, ℕ, ◌<◌, length, take, set}
use Rattle.rows.specs.Edition.{labels, word_count}
use Rattle.rows.specs.Row.{row_count}
use Rattle.rules.specs.Table.{Table, Has}
use Rattle.format.specs.Sheet.{Sheet}
use Rattle.verdicts.specs.Check.{declared_word, cleaned}
use Rattle.lent.specs.Table.{table_at}

-- w has the declared labels of a sheet with these types
abbrev pub Declares : Bool → List ℕ → ℕ → Type 0
Declares wide types w = (s : Sheet) → s.types ≡ take (labels wide) types → w ≡ declared_word (labels wide) s

-- both tables are c
pub record Both (wide : Bool) (c : Table) (t : List ℕ) : Type 0 where
  pub first : table_at wide 0 t ≡ c
  pub second : table_at wide (word_count wide) t ≡ c

-- row r of both became v
pub record BothStored (wide : Bool) (r v : ℕ) (t u : List ℕ) : Type 0 where
  pub same_length : length u ≡ length t
  pub first : table_at wide 0 u ≡ set (table_at wide 0 t) r v
  pub second : table_at wide (word_count wide) u ≡ set (table_at wide (word_count wide) t) r v

-- both tables of u are the given one, cleaned, where w has the declared labels
abbrev pub Cleans : Bool → ℕ → List ℕ → List ℕ → Type 0
Cleans wide w given u = (s : Sheet) → w ≡ declared_word (labels wide) s → Both wide (cleaned (labels wide) s (table_at wide 0 given)) u

-- in no row below r does the second table hold a label that the first lacks
abbrev pub SameBelow : Bool → List ℕ → ℕ → Type 0
SameBelow wide t r = (q l : ℕ) → q < r → Has (table_at wide (word_count wide) t) q l → Has (table_at wide 0 t) q l

-- row r is the lowest in which it does
pub record GrownAt (wide : Bool) (t : List ℕ) (r : ℕ) : Type 0 where
  pub bound : r < row_count (labels wide)
  pub below : SameBelow wide t r
  pub here : (l : ℕ) × Has (table_at wide (word_count wide) t) r l × (Has (table_at wide 0 t) r l → ⊥)

-- the lowest row in which it does, if there is one
abbrev pub Grown : Bool → List ℕ → Option ℕ → Type 0
Grown wide t None = SameBelow wide t (row_count (labels wide))
Grown wide t (Some r) = GrownAt wide t r
