-- The lowest label is the one that is taken first. Assumes nothing.
use Rattle.words.proofs.Taking.{taken-lowest}
use Rattle.sets.proofs.Values.{value-below}
use borrow.Author.Rules.{rules}
use Rattle.sets.proofs.lowest.Goals as goal

pub returns : goal.returns
returns c = taken-lowest (value-below _ _ (search rules)) (rw c.unwrap.ensures at c.take.ensures)
