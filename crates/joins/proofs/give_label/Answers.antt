-- A label joined to a variable. Assumes nothing.
use Rattle.joins.proofs.give_label.Goals as goal

pub returns : goal.returns
returns c =
    rw c.row.ensures.value at c.give.ensures
