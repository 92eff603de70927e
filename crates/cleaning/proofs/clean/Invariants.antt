-- The invariant: the rows below r of both tables are cleaned ones. Assumes nothing.
use mathlib.Core.Path.{◌≡◌}
use lib.ListN.{length}
use Rattle.sets.specs.Value.{value}
use Rattle.lent.specs.Table.{table_at}
use Rattle.cleaning.proofs.Copies.{CleansBelow}
use Rattle.cleaning.proofs.clean.Given as goal

abbrev pub invariant-loop-r : goal.invariant-loop-r
invariant-loop-r l = (length l.t ≡ length l.fn.t) × CleansBelow l.wide (value l.wide l.declared) (table_at l.wide 0 l.table) l.r l.t
