-- One step of a loop over the labels of a set. Assumes nothing.
use Rattle.std.specs.Prelude.{◌≡◌, Bool, Option, None, Some, ℕ}
use Rattle.words.specs.Words.{Taken}
use Rattle.rows.specs.Edition.{labels}
use Rattle.rows.specs.declared.Label.{Label}

-- of the labels of x there is none left, or the lowest is taken
abbrev pub Steps : Bool → ℕ → Option Label → ℕ → Type 0
Steps wide x None rest = (x ≡ 0) × (rest ≡ 0)
Steps wide x (Some l) rest = Taken (labels wide) x l.0 rest
