-- Whether a set is empty: the union of its words is 0. Assumes nothing.
use borrow.Author.Rules.{rules}
use Rattle.sets.proofs.Values.{empty-wide, empty-narrow}
use Rattle.sets.proofs.is_empty.Goals as goal

pub returns-then-wide : goal.returns-then-wide
returns-then-wide c = empty-wide _ (search rules)

pub returns-else-wide : goal.returns-else-wide
returns-else-wide c = empty-narrow _ (search rules)
