-- The invariant: the set has the labels below l that are declared. Assumes nothing.
use Rattle.sets.specs.Value.{value}
use Rattle.cleaning.proofs.Copies.{DeclaresBelow}
use Rattle.cleaning.proofs.declared.Given as goal

abbrev pub invariant-loop-l : goal.invariant-loop-l
invariant-loop-l l = DeclaresBelow l.wide l.types l.l (value l.wide l.all)
