-- The bag and a granted variable. Assumes nothing.
use Rattle.joins.proofs.grant.Goals as goal

pub returns : goal.returns
returns c =
    rw (c.row.ensures.value, c.row-2.ensures.value) at c.same.ensures
