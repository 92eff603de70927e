-- The union of two sets, word by word. Assumes nothing.
use borrow.Author.Rules.{rules}
use Rattle.std.proofs.Common.{of_calls}
use Rattle.words.specs.Words.{union}
use Rattle.sets.proofs.Numbers.{union-bitwise}
use Rattle.sets.proofs.Values.{each-value}
use Rattle.sets.proofs.union.Goals as goal

pub returns : goal.returns
unfolding union
returns c = each-value union-bitwise _ _ _ _ (search rules) (search rules) c.each.ensures (λ m n k h. search of_calls)
