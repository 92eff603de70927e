-- The invariant: no row below r grew. Assumes nothing.
use Rattle.cleaning.specs.Copies.{SameBelow}
use Rattle.cleaning.proofs.lowest_grown.Given as goal

abbrev pub invariant-loop-r : goal.invariant-loop-r
invariant-loop-r l = SameBelow l.wide l.t l.r
