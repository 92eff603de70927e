-- The lent words after clearing: the contract of `clear`. Assumes nothing.
use Rattle.std.specs.Prelude.{◌≡◌, Bool, List, ℕ, ◌≤◌, length, get_or}
use Rattle.rows.specs.Edition.{labels, word_count}
use Rattle.rules.specs.Table.{empty_table}
use Rattle.lent.specs.Table.{table_at}

-- the table at 0 of u has no fact, and the words beyond it are those of t
pub record Cleared (wide : Bool) (t u : List ℕ) : Type 0 where
  pub same_length : length u ≡ length t
  pub none : table_at wide 0 u ≡ empty_table (labels wide)
  pub beyond : (i : ℕ) → word_count wide ≤ i → get_or u i 0 ≡ get_or t i 0
