-- The invariant: the rows below r of both tables are cleaned ones. Assumes nothing.
use borrow.Author.Rules.{rules}
use mathlib.Core.Path.{◌∙◌}
use native.Mathlib.Omega.{arith}
use Prim.Native.Nat.{◌<◌}
use Rattle.rows.specs.Edition.{labels}
use Rattle.rows.specs.Row.{row_count}
use Rattle.cleaning.proofs.Copies.{cleans-next, cleans-all}
use Rattle.cleaning.proofs.clean.Goals as goal

pub loop-r-preserved : goal.loop-r-preserved
loop-r-preserved c =
    let a = c.args in
    let inside : c.loop-r.r < row_count (labels a.wide) = omega (arith, c.row_count-r-end.ensures.value) in (
      c.write_both-in-loop-r.ensures.same_length ∙ c.loop-r.invariant.0,
      cleans-next a.wide a.table.now c.loop-r.r (search rules) inside c.row-row.ensures c.meet.ensures c.write_both-in-loop-r.ensures c.loop-r.invariant.1,
    )

pub returns : goal.returns
returns c =
    let a = c.args in
    cleans-all a.wide a.table.now c.loop-r.r (omega (arith, c.row_count-r-end.ensures.value)) c.loop-r.invariant.1
