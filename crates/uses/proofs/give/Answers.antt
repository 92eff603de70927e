-- A label joined to a row. Assumes nothing.
use borrow.Author.Rules.{rules}
use Rattle.uses.proofs.Rows.{used-give}
use Rattle.uses.proofs.give.Goals as goal

pub returns : goal.returns
returns c = search (rules, used-give)
