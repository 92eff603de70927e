-- The lowest label is that of the first word that is not empty. Assumes nothing.
use borrow.Author.Rules.{rules}
use Rattle.sets.proofs.Values.{take-a, take-b, take-c, take-d, take-none, take-none-narrow}
use Rattle.sets.proofs.take.Goals as goal

pub returns-in-Some : goal.returns-in-Some
returns-in-Some c = take-a _ _ (search rules) c.in-Some.ensures

pub returns-then-not-wide : goal.returns-then-not-wide
returns-then-not-wide c = take-none-narrow _ _ (search rules) c.in_default.ensures

pub returns-in-Some-take : goal.returns-in-Some-take
returns-in-Some-take c = take-b _ (search rules) (search rules) c.in_default.ensures c.in-Some-take.ensures

pub returns-in-Some-take-2 : goal.returns-in-Some-take-2
returns-in-Some-take-2 c = take-c _ (search rules) (search rules) c.in_default.ensures c.in_default-take.ensures c.in-Some-take-2.ensures

pub returns-in_err-l : goal.returns-in_err-l
returns-in_err-l c = rw c.from_residual.ensures (take-none _ _ _ c.in_default.ensures c.in_default-take.ensures c.in_default-take-2.ensures c.in_err-l.ensures)

pub returns : goal.returns
returns c = take-d _ (search rules) (search rules) c.in_default.ensures c.in_default-take.ensures c.in_default-take-2.ensures c.in_ok-l.ensures
