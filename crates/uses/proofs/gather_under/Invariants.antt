-- The properties of the labels of a set: the loop takes the labels one by one. Assumes nothing.
use mathlib.Core.Path.{◌≡◌}
use Rattle.sets.specs.Value.{value}
use Rattle.uses.specs.Use.{table_of}
use Rattle.uses.specs.Gather.{under_names}
use Rattle.uses.proofs.Unions.{Adding}
use Rattle.uses.proofs.gather_under.Given as goal

abbrev pub invariant-loop-l : goal.invariant-loop-l
invariant-loop-l l =
    (l.l-iterator.wide ≡ l.wide)
    × Adding (under_names l.names) (table_of l.wide l.t) (value l.wide l.fn.s) (value l.wide l.initial.all) (value l.wide l.l-iterator.rest) (value l.wide l.all)
