-- What is kept of a spread: a wider pair, the pair anew, or the pair as it was. Assumes nothing.
use mathlib.Core.Path.{refl}
use Rattle.kept.specs.Pairs.{same, anew}
use Rattle.kept.proofs.Pairs.{learns-wider}
use Rattle.kept.proofs.learn.Goals as goal

pub returns-in_default : goal.returns-in_default
returns-in_default c = same refl

pub returns-then-n-le-FEW : goal.returns-then-n-le-FEW
returns-then-n-le-FEW c = same refl

pub returns-in-Some-left : goal.returns-in-Some-left
returns-in-Some-left c = rw c.in-Some-left.is (learns-wider c.in-Some.ensures c.union-labels.ensures c.meet-over.ensures c.keep.ensures)

pub returns-then-size-n : goal.returns-then-size-n
returns-then-size-n c = rw c.in-None.is (anew c.in-Some.ensures.room c.keep-then-size-n.ensures)

pub returns-else-size-n : goal.returns-else-size-n
returns-else-size-n c = same refl
