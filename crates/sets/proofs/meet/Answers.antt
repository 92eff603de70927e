-- The labels of both sets, word by word. Assumes nothing.
use borrow.Author.Rules.{rules}
use Rattle.std.proofs.Common.{of_calls}
use Rattle.sets.proofs.Numbers.{meet-bitwise}
use Rattle.sets.proofs.Values.{each-value}
use Rattle.sets.proofs.meet.Goals as goal

pub returns : goal.returns
returns c = each-value meet-bitwise _ _ _ _ (search rules) (search rules) c.each.ensures (λ m n k h. search of_calls)
