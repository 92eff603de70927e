-- The invariant: no row below r grew. Assumes nothing.
use native.Mathlib.Omega.{arith}
use Prim.Native.Nat.{◌<◌}
use Rattle.rows.specs.Edition.{labels}
use Rattle.rows.specs.Row.{row_count}
use Rattle.cleaning.proofs.Lowest.{same_next, grown-here}
use Rattle.cleaning.proofs.lowest_grown.Goals as goal

pub returns-then-not-is_within : goal.returns-then-not-is_within
returns-then-not-is_within c =
    let a = c.args in
    let inside : c.loop-r.r < row_count (labels a.wide) = omega (arith, c.row_count-r-end.ensures.value) in
    grown-here a.wide a.t.now c.word_count-o.result c.loop-r.r c.word_count-o.ensures.value inside c.row-old.ensures c.row-new.ensures
    c.is_within.ensures.value (λ i. (c.type_inv.t i).fits) c.if-not-is_within.true c.loop-r.invariant

pub loop-r-preserved : goal.loop-r-preserved
loop-r-preserved c =
    let a = c.args in
    let inside : c.loop-r.r < row_count (labels a.wide) = omega (arith, c.row_count-r-end.ensures.value) in
    same_next a.wide a.t.now c.word_count-o.result c.loop-r.r c.word_count-o.ensures.value inside c.row-old.ensures c.row-new.ensures
    c.is_within.ensures.value c.if-not-is_within.false c.loop-r.invariant
