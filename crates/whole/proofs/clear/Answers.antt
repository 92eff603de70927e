-- The words of the table are filled with 0. Assumes nothing.
use borrow.Author.Rules.{rules}
use Rattle.whole.proofs.Tables.{cleared}
use Rattle.whole.proofs.clear.Goals as goal

pub returns : goal.returns
returns c = cleared _ c.args.t.now _ c.word_count.ensures.value (search rules) (c.fill.ensures.after (λ y e. e))
