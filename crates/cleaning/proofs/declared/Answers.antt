-- The invariant: the set has the labels below l that are declared. Assumes nothing.
use native.Mathlib.Omega.{arith}
use Prim.Native.Nat.{◌<◌}
use Rattle.rows.specs.Edition.{labels}
use Rattle.cleaning.proofs.Copies.{declares-none, declares-here, declares-over}
use Rattle.cleaning.proofs.declared.Goals as goal
use Rattle.cleaning.proofs.declared.Goals.{then-types-l-ne0, else-types-l-ne0}

pub loop-l-init : goal.loop-l-init
loop-l-init c = declares-none c.args.wide c.args.types.now c.none-all.ensures

pub loop-l-preserved : goal.loop-l-preserved
loop-l-preserved c =
    let a = c.args in
    let inside : c.loop-l.l < labels a.wide = omega (arith, c.labels-l-end.ensures.0) in
    elim c.if-types-l-ne0.branch [
      | then-types-l-ne0 w ↦ rw w.all-is (declares-here a.wide a.types.now c.loop-l.l _ inside w.if-types-l-ne0.true w.single-one.ensures w.union-all.ensures c.loop-l.invariant)
      | else-types-l-ne0 w ↦ rw w.all-is (declares-over a.wide a.types.now c.loop-l.l _ inside w.if-types-l-ne0.false c.loop-l.invariant)
    ]
