-- The invariant: the facts of the first r rows are counted. Assumes nothing.
use mathlib.Core.Path.{◌≡◌}
use lib.ListN.{take}
use Prim.Native.Nat.{◌*◌, ◌≤◌}
use Rattle.rows.specs.Edition.{labels}
use Rattle.rules.specs.Table.{total}
use Rattle.lent.specs.Table.{table_at}
use Rattle.whole.proofs.count.Given as goal

abbrev pub invariant-loop-r : goal.invariant-loop-r
invariant-loop-r l = (l.all ≤ 256 * l.r) × (total (labels l.wide) (take l.r (table_at l.wide 0 l.t)) ≡ l.all)
