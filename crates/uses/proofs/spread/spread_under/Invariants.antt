-- A set joined to the properties of labels: the loop takes the labels one by one. Assumes nothing.
use mathlib.Core.Path.{◌≡◌}
use lib.ListN.{length}
use Rattle.sets.specs.Value.{value}
use Rattle.uses.specs.Spread.{named_rows}
use Rattle.uses.proofs.Spreads.{Spreading}
use Rattle.uses.proofs.spread.spread_under.Given as goal

abbrev pub invariant-loop-l : goal.invariant-loop-l
invariant-loop-l l =
    (l.l-iterator.wide ≡ l.wide)
    × (length l.t ≡ length l.initial.t)
    × Spreading l.wide l.o (named_rows l.names) (value l.wide l.fn.s) (value l.wide l.l-iterator.rest) (value l.wide l.x) (value l.wide l.initial.least) l.initial.t l.t l.grew (value l.wide l.least)
