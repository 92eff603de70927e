-- `edges::show_all`: the measure is what is left of the cases. Assumes nothing.
use Rattle.std.proofs.Common.{length}
use Rattle.edges.proofs.show_all.Given as goal

abbrev pub decreases-loop-length : goal.decreases-loop-length
decreases-loop-length g l = length l.rest
