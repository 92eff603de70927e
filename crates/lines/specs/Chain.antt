-- The rule of one label's chain, by the type of the label: `chain_rule` where the sheet gives that type. Assumes nothing.
use Rattle.std.specs.Prelude.{ℕ}
use Rattle.rows.specs.Row.{chain}
use Rattle.rules.specs.Rule.{Rule, give, include, each, over, ◌also◌}
use Rattle.analysis.specs.Rules.{parents_of}

abbrev pub chain_by : ℕ → ℕ → Rule
chain_by kind l =
    give (chain l) l
    also over (parents_of kind) (λ m. give (chain l) m)
    also each (chain l) (λ m. include (chain l) (chain m))
