-- The label taken is the lowest, and the others are left. Assumes nothing.
use borrow.Author.Rules.{rules}
use Rattle.words.proofs.Taking.{next-code}
use Rattle.words.proofs.take.Goals as goal

pub returns : goal.returns
returns c = next-code 64 _ (search rules) (search rules)
