-- What a join each way tells. Assumes nothing.
use Rattle.std.specs.Prelude.{◌⊎◌, ℕ}
use Rattle.rules.specs.Table.{Table}
use Rattle.uses.specs.Use.{including}

-- each of two rows holds what the other does
abbrev pub Mutual : ℕ → ℕ → Table → ℕ → ℕ → Type 0
Mutual y x t r l = including y x t r l ⊎ including x y t r l
