-- One row joined to another. Assumes nothing.
use borrow.Author.Rules.{rules}
use Rattle.uses.proofs.Rows.{row_is, used-include}
use Rattle.uses.proofs.include.Goals as goal

pub returns : goal.returns
returns c = search (rules, used-include, row_is)
