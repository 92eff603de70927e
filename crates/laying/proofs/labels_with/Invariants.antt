-- The labels with a byte: the invariant is that they are those below l. Assumes nothing.
use Rattle.sets.specs.Value.{value}
use Rattle.laying.specs.Holds.{Holds, has_byte}
use Rattle.laying.proofs.labels_with.Given as goal

abbrev pub invariant-loop-l : goal.invariant-loop-l
invariant-loop-l l = Holds (has_byte l.bytes l.byte) l.l (value l.wide l.all)
