-- Unions forgotten: the pairs are as good as before. Assumes nothing.
use Rattle.kept.proofs.Remembers.{remembers-since}
use Rattle.turns.proofs.Turning.{steps_on, steps-forget}
use Rattle.turns.proofs.single.use_found.Goals as goal

pub returns-then-grew-clause-steps_for : goal.returns-then-grew-clause-steps_for
returns-then-grew-clause-steps_for c known =
    steps_on (c.use_at-grew.ensures.steps_for known) (steps-forget (λ o p old t since m. remembers-since since (c.forget.ensures o p old t m)))
