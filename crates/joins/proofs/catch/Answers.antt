-- What a scope throws joined to a variable. Assumes nothing.
use Rattle.joins.proofs.catch.Goals as goal

pub returns : goal.returns
returns c =
    rw (c.row.ensures.value, c.thrown.ensures.value) at c.include.ensures
