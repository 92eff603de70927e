-- The labels of one set that are not in the other, word by word. Assumes nothing.
use borrow.Author.Rules.{rules}
use Rattle.std.proofs.Common.{of_calls}
use Rattle.words.specs.Words.{difference}
use Rattle.sets.proofs.Numbers.{difference-bitwise}
use Rattle.sets.proofs.Values.{each-value}
use Rattle.sets.proofs.without.Goals as goal

pub returns : goal.returns
unfolding difference
returns c = each-value difference-bitwise _ _ _ _ (search rules) (search rules) c.each.ensures (λ m n k h. search of_calls)
