-- The union of rows, word by word. Assumes nothing.
use borrow.Author.Rules.{rules}
use Rattle.uses.proofs.Unions.{added-narrow, added-wide, added-whole}
use Rattle.uses.proofs.gather.Goals as goal

pub returns-then-not-wide : goal.returns-then-not-wide
returns-then-not-wide c = search (rules, added-whole, added-narrow)

pub returns : goal.returns
returns c = search (rules, added-whole, added-wide)
