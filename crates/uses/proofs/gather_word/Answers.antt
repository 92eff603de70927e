-- The rows of the labels of one word: the loop takes the labels one by one. Assumes nothing.
use native.Mathlib.Omega.{arith}
use Prim.Native.Nat.{◌+◌, ◌<◌}
use Rattle.rows.specs.Edition.{labels}
use Rattle.rows.specs.Row.{row_count}
use Rattle.uses.proofs.Unions.{adding-next, adding-end, turn-row}
use Rattle.uses.proofs.Rows.{row_is}
use Rattle.uses.proofs.gather_word.Goals as goal

pub loop-l-preserved : goal.loop-l-preserved
loop-l-preserved c =
    let a = c.args in
    let inside : a.base + c.in-Some.l < row_count (labels a.wide) = omega (arith, c.in-Some.ensures.steps.below, c.requires.1) in
    adding-next c.in-Some.ensures.steps (turn-row a.base (row_is a.wide 0 a.t.now _ inside c.row-row.ensures) c.union-all.ensures) c.loop-l.invariant

pub returns-clause-added : goal.returns-clause-added
returns-clause-added c = adding-end c.in-None.ensures.steps.0 c.loop-l.invariant
