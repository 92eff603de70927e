-- The invariant: the facts of the first r rows are counted. Assumes nothing.
use native.Mathlib.Omega.{arith}
use Prim.Native.Nat.{◌<◌}
use Rattle.rows.specs.Edition.{labels}
use Rattle.rows.specs.Row.{row_count}
use Rattle.rules.proofs.Table.{total-none}
use Rattle.sets.specs.Value.{value}
use Rattle.lent.specs.Table.{table_at}
use Rattle.whole.proofs.Counted.{row-most, counted_next, counted-all}
use Rattle.whole.proofs.count.Goals as goal

pub loop-r-init : goal.loop-r-init
loop-r-init c =
    let a = c.args in
    (omega arith, total-none (labels a.wide) (table_at a.wide 0 a.t.now))

pub overflow_add-all : goal.overflow_add-all
overflow_add-all c =
    let wide = c.args.wide in
    let most = row-most wide (value wide c.row.result) c.size-all.ensures in
    omega (arith, most, c.loop-r.invariant.0)

pub loop-r-preserved : goal.loop-r-preserved
loop-r-preserved c =
    let a = c.args in
    let inside : c.loop-r.r < row_count (labels a.wide) = omega (arith, c.row_count-r-end.ensures.value) in
    let most = row-most a.wide (value a.wide c.row.result) c.size-all.ensures in
    (omega (arith, most, c.loop-r.invariant.0), counted_next a.wide a.t.now c.loop-r.r inside c.row.ensures c.size-all.ensures c.loop-r.invariant.1)

pub returns-clause-value : goal.returns-clause-value
returns-clause-value c =
    let a = c.args in
    counted-all a.wide a.t.now c.loop-r.r (omega (arith, c.row_count-r-end.ensures.value)) c.loop-r.invariant.1
