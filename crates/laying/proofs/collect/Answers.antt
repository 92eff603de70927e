-- What functions return: the invariant is that the arrays hold what the records passed return. Assumes nothing.
use mathlib.Core.Path.{refl}
use Prim.Native.Nat.{◌+◌}
use Rattle.rows.specs.Edition.{labels}
use Rattle.records.proofs.Walks.{five-labels, most-labels, walk_first, first_done, onward}
use Rattle.laying.proofs.Collected.{collected-first, collected-next, collected-all}
use Rattle.laying.proofs.collect.Goals as goal

pub loop-at-init : goal.loop-at-init
loop-at-init c =
    let L = labels c.args.wide in
    let five = five-labels c.args.wide in
    let p = c.positions-at-items.ensures in
    rw (c.into_iter-at-iterator.ensures.into_iter_gives, p.0, p.1) (
      refl,
      (walk_first L c.args.file.now five c.requires.0, rw (first_done L c.args.file.now five c.requires.0) (collected-first c.requires.1 c.mark.ensures)),
    )

pub loop-at-preserved : goal.loop-at-preserved
loop-at-preserved c =
    let known = c.shared_slice_known-1 in
    let inv = c.loop-at.invariant in
    let s = rw inv.0 at c.in-Some.ensures.steps in
    let h = rw s.1.0 at s.1.1 in
    rw (s.0, s.1.2, s.1.0) (
      refl,
      (onward inv.1.0 h, collected-next inv.1.0 h (known.given (c.loop-at.at-iterator.at + 2)).fits (rw s.1.0 at c.collect_at.ensures) inv.1.1),
    )

pub returns : goal.returns
returns c =
    let inv = c.loop-at.invariant in
    collected-all (five-labels c.args.wide) (most-labels c.args.wide) c.requires.0 inv.1.0 (rw inv.0 at c.in-None.ensures.steps.1) inv.1.1
