-- Searches and passes in place until a pass adds nothing. Assumes nothing.
use Rattle.whole.proofs.Solving.{left}
use Rattle.solver.proofs.Passing.{Turned}
use Rattle.solver.proofs.settle.Given as goal

abbrev pub invariant-rounds : goal.invariant-rounds
invariant-rounds l = Turned l.wide l.file l.initial.t l.t l.keeps l.again

abbrev pub decreases-rounds : goal.decreases-rounds
decreases-rounds l = left l.wide l.again l.t
