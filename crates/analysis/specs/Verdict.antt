-- The verdict (document 01, "The rules", last line): the least table of a program, the number of its facts, and whether it leaks. Assumes nothing.
use Rattle.std.specs.Prelude.{ℕ, get_or}
use Rattle.std.specs.Int.Bits.{bit_and}
use Rattle.rules.specs.Table.{Table, empty_table}
use Rattle.rules.specs.Round.{least_above}
use Rattle.program.specs.Program.{Program, Guest}
use Rattle.analysis.specs.Rules.{rules}

-- "The fact set is the least one with ..", "the verdict starts from an empty table"
unfoldable pub least_table : ℕ → Program → Table
unfolding rules least_above
least_table L p = least_above L (rules L p) (empty_table L)

-- the forbidden labels in a guest's bag
unfoldable pub held_forbidden : Table → Guest → ℕ
held_forbidden t g = bit_and (get_or t g.bag 0) g.forbidden
