-- A label joined to a property. Assumes nothing.
use Rattle.joins.proofs.set_property.Goals as goal

pub returns : goal.returns
returns c =
    rw c.property.ensures.value at c.give.ensures
