-- A variable joined to what a scope throws. Assumes nothing.
use Rattle.joins.proofs.throw.Goals as goal

pub returns : goal.returns
returns c =
    rw (c.thrown.ensures.value, c.row.ensures.value) at c.include.ensures
