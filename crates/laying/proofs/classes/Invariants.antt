-- The names of each class: the invariant is that those below c are laid. Assumes nothing.
use mathlib.Core.Path.{◌≡◌}
use lib.ListN.{length}
use Rattle.laying.specs.Holds.{Classes}
use Rattle.laying.proofs.classes.Given as goal

abbrev pub invariant-loop-c : goal.invariant-loop-c
invariant-loop-c l = (length l.names ≡ 8) × Classes l.c l.masks l.names
