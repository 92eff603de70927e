-- A turn for each record: a record begins at `at`, or the file ends there, and records begin where bits are. Assumes nothing.
use mathlib.Core.Path.{refl}
use Rattle.rows.specs.Edition.{labels}
use Rattle.records.proofs.Walks.{five-labels, walk_first, onward}
use Rattle.indexing.proofs.index.Index.enter_all.Goals as goal

pub loop-at-init : goal.loop-at-init
loop-at-init c =
    let v = c.args.view.now in
    let p = c.positions-at-items.ensures in
    rw (c.into_iter-at-iterator.ensures.into_iter_gives, p.0, p.1) (refl, walk_first (labels v.wide) v.file.now (five-labels v.wide) c.requires.0, c.requires.2)

pub enter-requires : goal.enter-requires
enter-requires c =
    let inv = c.loop-at.invariant in
    let s = rw inv.0 at c.in-Some.ensures.steps in
    (rw s.1.0 inv.1, rw s.1.0 (rw s.1.0 at s.1.1), inv.2)

pub loop-at-preserved : goal.loop-at-preserved
loop-at-preserved c =
    let inv = c.loop-at.invariant in
    let s = rw inv.0 at c.in-Some.ensures.steps in
    let h = rw s.1.0 at s.1.1 in
    rw (s.0, s.1.2, s.1.0) (refl, onward inv.1 h, c.enter.ensures)

pub returns : goal.returns
returns c = c.loop-at.invariant.2
