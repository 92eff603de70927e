-- A set joined to the inputs of functions: the loop takes the labels one by one. Assumes nothing.
use mathlib.Core.Path.{◌≡◌}
use lib.ListN.{length}
use Rattle.sets.specs.Value.{value}
use Rattle.uses.specs.Spread.{formal_row}
use Rattle.uses.proofs.Spreads.{Spreading}
use Rattle.uses.proofs.spread.spread_input.Given as goal

abbrev pub invariant-loop-f : goal.invariant-loop-f
invariant-loop-f l =
    (l.f-iterator.wide ≡ l.wide)
    × (length l.t ≡ length l.initial.t)
    × Spreading l.wide l.o (formal_row l.formals l.j) (value l.wide l.fn.s) (value l.wide l.f-iterator.rest) (value l.wide l.x) (value l.wide l.initial.least) l.initial.t l.t l.grew (value l.wide l.least)
