-- What the solver leaves. Assumes nothing.
use Rattle.std.specs.Prelude.{◌≡◌, List, Bool, ℕ, ◌≤◌, length, get_or}
use Rattle.rows.specs.Edition.{labels, word_count}
use Rattle.rules.specs.Table.{empty_table}
use Rattle.rules.specs.Round.{least_above}
use Rattle.program.specs.Program.{program_in}
use Rattle.analysis.specs.Rules.{rules}
use Rattle.analysis.specs.Verdict.{least_table}
use Rattle.lent.specs.Table.{table_at}
use Rattle.uses.specs.Use.{tells, Reached}

-- the least table, reached by additions that the rules tell
pub record Settled (wide : Bool) (file t u : List ℕ) : Type 0 where
  pub reached : Reached wide 0 (tells wide (rules (labels wide) (program_in (labels wide) file))) t u
  pub least : table_at wide 0 u ≡ least_above (labels wide) (rules (labels wide) (program_in (labels wide) file)) (empty_table (labels wide))

-- the rows hold the least table of the file, and the words beyond them are as they were
pub record Solved (wide : Bool) (file t u : List ℕ) : Type 0 where
  pub same_length : length u ≡ length t
  pub least : table_at wide 0 u ≡ least_table (labels wide) (program_in (labels wide) file)
  pub beyond : (i : ℕ) → word_count wide ≤ i → get_or u i 0 ≡ get_or t i 0
