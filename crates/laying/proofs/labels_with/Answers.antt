-- The labels with a byte: the invariant is that they are those below l. Assumes nothing.
use borrow.Author.Tests.{eq-eqb, eqb-true}
use mathlib.Core.Path.{◌≡◌}
use native.Mathlib.Omega.{arith}
use Rattle.rows.specs.Edition.{labels}
use Rattle.sets.specs.Value.{value}
use Rattle.laying.specs.Holds.{has_byte}
use Rattle.laying.proofs.Words.{holds-none, holds_on, holds-off}
use Rattle.laying.proofs.labels_with.Goals as goal

pub loop-l-init : goal.loop-l-init
loop-l-init c = rw c.none-all.ensures (holds-none _)

pub loop-l-preserved : goal.loop-l-preserved
loop-l-preserved c =
    let a = c.args in
    let r = c.loop-l in
    let test = has_byte a.bytes.now a.byte in
    elim c.if-bytes-l.branch [
      | goal.then-bytes-l w ↦ rw (w.all-is, w.union-all.ensures, w.single.ensures) (holds_on test r.l (value a.wide r.all) (eq-eqb _ _ w.if-bytes-l.true) r.invariant)
      | goal.else-bytes-l w ↦ rw w.all-is (holds-off test r.l (value a.wide r.all) (λ e. w.if-bytes-l.false (eqb-true _ _ e)) r.invariant)
    ]

pub returns : goal.returns
returns c =
    let r = c.loop-l in
    let e : r.l ≡ labels c.args.wide = omega arith in
    rw e at r.invariant
