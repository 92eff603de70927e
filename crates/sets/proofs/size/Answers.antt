-- The number of labels: the sum over the words. Assumes nothing.
use mathlib.Core.Path.{◌∙◌, sym}
use native.Mathlib.Omega.{arith}
use Rattle.sets.proofs.Values.{size-wide, size-narrow}
use borrow.Author.Rules.{rules}
use Rattle.sets.proofs.size.Goals as goal

pub returns-then-wide : goal.returns-then-wide
returns-then-wide c =
    let e = size-wide c.args.x c.if-wide.true (search rules) in
    omega arith

pub returns-else-wide : goal.returns-else-wide
returns-else-wide c = c.size-else-wide.ensures.value ∙ sym (size-narrow _ (search rules) (search rules))
