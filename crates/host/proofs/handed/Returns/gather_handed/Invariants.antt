-- What the functions of a set hand back: the loop takes them one by one. Assumes nothing.
use mathlib.Core.Path.{◌≡◌}
use Rattle.sets.specs.Value.{value}
use Rattle.uses.specs.Use.{table_of}
use Rattle.uses.proofs.Unions.{Adding}
use Rattle.host.specs.Lays.{handed_back}
use Rattle.host.proofs.handed.Returns.gather_handed.Given as goal

abbrev pub invariant-loop-f : goal.invariant-loop-f
invariant-loop-f l =
    (l.f-iterator.wide ≡ l.wide)
    × Adding (handed_back l.self) (table_of l.wide l.t) (value l.wide l.fn.s) (value l.wide l.initial.all) (value l.wide l.f-iterator.rest) (value l.wide l.all)
