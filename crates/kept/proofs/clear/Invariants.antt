-- Pairs emptied one by one. Assumes nothing.
use Rattle.kept.specs.Pairs.{Cleared}
use Rattle.kept.proofs.clear.Given as goal

abbrev pub invariant-loop-pair : goal.invariant-loop-pair
invariant-loop-pair l = Cleared l.wide l.from l.pair l.initial.keeps l.keeps
