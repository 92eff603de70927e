-- What functions return: the invariant is that the arrays hold what the records passed return. Assumes nothing.
use mathlib.Core.Path.{◌≡◌}
use Rattle.rows.specs.Edition.{labels}
use Rattle.records.specs.Walk.{Walk}
use Rattle.laying.proofs.Collected.{Collected}
use Rattle.laying.proofs.collect.Given as goal

abbrev pub invariant-loop-at : goal.invariant-loop-at
invariant-loop-at l =
    (l.at-iterator.file.now ≡ l.file) × ((w : Walk (labels l.wide) l.file l.at-iterator.at) × Collected l.returns w.done)
