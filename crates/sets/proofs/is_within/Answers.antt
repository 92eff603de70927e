-- Whether one set is within another: nothing is left of it without the other. Assumes nothing.
use mathlib.Core.Path.{◌∙◌, ap}
use Prim.Native.Nat.{ℕ}
use lib.Dec.{eqb}
use Rattle.sets.proofs.Values.{value-lt}
use borrow.Author.Rules.{rules}
use Rattle.sets.proofs.is_within.Goals as goal

pub returns : goal.returns
returns c = record { value = c.is_empty.ensures ∙ ap (λ (n : ℕ). eqb n 0) c.without.ensures; bound = value-lt _ _ (search rules) }
