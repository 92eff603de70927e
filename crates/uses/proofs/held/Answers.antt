-- What a variable holds: its row. Assumes nothing.
use borrow.Author.Rules.{rules}
use Rattle.uses.proofs.Rows.{row_is, variable-row}
use Rattle.uses.proofs.held.Goals as goal

pub returns : goal.returns
returns c = rw (← c.row.ensures.value) (search (rules, row_is, variable-row))
