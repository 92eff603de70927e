-- The labels of the kept set are left out where the kept union is held. Assumes nothing.
use Rattle.kept.proofs.Pairs.{spares-held}
use Rattle.kept.proofs.spare.Goals as goal

pub returns-in-Some : goal.returns-in-Some
returns-in-Some c = spares-held c.in-Some.ensures c.is_within.ensures.value c.if-is_within.true c.without.ensures
