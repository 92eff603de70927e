-- The three ways in which a pair can be of use to a union, or not. Assumes nothing.
use mathlib.Core.Path.{refl}
use Rattle.kept.specs.Pairs.{all}
use Rattle.kept.proofs.Pairs.{never, asks-part, asks-held}
use Rattle.kept.proofs.ask.Goals as goal

pub returns-in_default : goal.returns-in_default
returns-in_default c = all never c.none-none.ensures refl

pub returns-then-is_within : goal.returns-then-is_within
returns-then-is_within c =
    c.told_but.ensures _ _ _ _ (asks-part c.in-Some.ensures c.is_within.ensures.value c.if-is_within.true c.without-labels.ensures)

pub returns-then-is_within-2 : goal.returns-then-is_within-2
returns-then-is_within-2 c =
    c.told_but-then-is_within-2.ensures _ _ _ _
    (asks-held c.in-Some.ensures c.is_within-2.ensures.value c.if-is_within-2.true c.none-none.ensures c.without-labels.ensures)

pub returns : goal.returns
returns c = all (λ _. c.in-Some.ensures.room) c.none-none.ensures refl
