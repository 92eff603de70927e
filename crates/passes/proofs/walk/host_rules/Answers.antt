-- The rules of the records: the loop goes from record to record. Assumes nothing.
use mathlib.Core.Path.{refl}
use Rattle.rows.specs.Edition.{labels}
use Rattle.format.proofs.File.{readable-read}
use Rattle.passes.proofs.Every.{applies-same}
use Rattle.passes.proofs.Walked.{walked_start, walked_next, walked_end}
use Rattle.passes.proofs.walk.host_rules.Goals as goal

pub loop-at-init : goal.loop-at-init
loop-at-init c =
    let p = c.positions-at-items.ensures in
    rw (c.into_iter-at-iterator.ensures.into_iter_gives, p.0, p.1) (refl, walked_start c.requires.1)

pub statement_at-s-requires : goal.statement_at-s-requires
statement_at-s-requires c =
    let inv = c.loop-at.invariant in
    let s = rw inv.0 at c.in-Some.ensures.steps in
    rw s.1.0 (inv.1.walk, rw s.1.0 at s.1.1, (readable-read (labels c.args.wide) c.args.file.now c.requires.1).short)

pub loop-at-preserved : goal.loop-at-preserved
loop-at-preserved c =
    let inv = c.loop-at.invariant in
    let s = rw inv.0 at c.in-Some.ensures.steps in
    let h = rw s.1.0 at s.1.1 in (
      s.0,
      walked_next c.requires.0.apart h (rw s.1.0 at s.1.2) inv.1
          (λ p serves. applies-same _ _ (rw s.1.0 at (c.statement_at-s.ensures.at_value p)) (c.apply-grew.ensures p serves)),
    )

pub returns : goal.returns
returns c p serves =
    let inv = c.loop-at.invariant in
    walked_end (rw inv.0 at c.in-None.ensures.steps.1) inv.1 p serves
