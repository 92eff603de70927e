-- A set joined to the rows of the names of a word: the loop takes the names one by one. Assumes nothing.
use mathlib.Core.Path.{◌≡◌}
use lib.ListN.{length}
use Rattle.sets.specs.Value.{value}
use Rattle.uses.specs.Spread.{row_after}
use Rattle.uses.proofs.Spreads.{Spreading}
use Rattle.uses.proofs.spread.spread_names.Given as goal

abbrev pub invariant-loop-n : goal.invariant-loop-n
invariant-loop-n l =
    (length l.t ≡ length l.initial.t)
    × Spreading l.wide l.o (row_after l.base) l.w l.n-iterator.rest (value l.wide l.x) (value l.wide l.initial.least) l.initial.t l.t l.grew (value l.wide l.least)
