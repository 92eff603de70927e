-- The names of a class: the invariant is that they are those below n. Assumes nothing.
use Rattle.laying.specs.Holds.{Holds, of_class}
use Rattle.laying.proofs.class_names.Given as goal

abbrev pub invariant-loop-n : goal.invariant-loop-n
invariant-loop-n l = Holds (of_class l.masks l.class) l.n l.names
