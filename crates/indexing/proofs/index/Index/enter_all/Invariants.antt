-- A turn for each record: a record begins at `at`, or the file ends there, and records begin where bits are. Assumes nothing.
use mathlib.Core.Path.{◌≡◌}
use Rattle.rows.specs.Edition.{labels}
use Rattle.records.specs.Walk.{Walk}
use Rattle.indexing.specs.Begins.{Begins}
use Rattle.indexing.proofs.index.Index.enter_all.Given as goal

abbrev pub invariant-loop-at : goal.invariant-loop-at
invariant-loop-at l =
    (l.at-iterator.file.now ≡ l.view.file.now) × Walk (labels l.view.wide) l.view.file.now l.at-iterator.at
    × Begins (labels l.view.wide) l.view.file.now l.self.starts
