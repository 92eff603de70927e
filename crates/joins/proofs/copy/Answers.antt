-- One variable joined to another. Assumes nothing.
use Rattle.joins.proofs.copy.Goals as goal

pub returns : goal.returns
returns c =
    rw (c.row.ensures.value, c.row-2.ensures.value) at c.include.ensures
