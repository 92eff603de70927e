-- The empty set. Assumes nothing.
use Rattle.sets.proofs.Values.{value_none}
use Rattle.sets.proofs.none.Goals as goal

pub returns : goal.returns
returns c = value_none _
