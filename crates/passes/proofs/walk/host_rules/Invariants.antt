-- The rules of the records: the loop goes from record to record. Assumes nothing.
use mathlib.Core.Path.{◌≡◌}
use Rattle.host.specs.Lays.{Serves}
use Rattle.passes.proofs.Walked.{Walked}
use Rattle.passes.proofs.walk.host_rules.Given as goal

abbrev pub invariant-loop-at : goal.invariant-loop-at
invariant-loop-at l =
    (l.at-iterator.file.now ≡ l.file)
    × Walked l.wide l.o (λ p. Serves l.wide p l.host) l.file l.initial.t l.initial.keeps l.t l.keeps l.grew l.at-iterator.at
