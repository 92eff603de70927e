-- A named variable and its property. Assumes nothing.
use Rattle.joins.proofs.name_variable.Goals as goal

pub returns : goal.returns
returns c =
    rw (c.row.ensures.value, c.property.ensures.value) at c.same.ensures
