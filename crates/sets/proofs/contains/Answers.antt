-- Whether a label is in a set: the word that has it says so. Assumes nothing.
use Rattle.sets.proofs.Values.{word-contains}
use borrow.Author.Rules.{rules}
use Rattle.sets.proofs.contains.Goals as goal

pub returns : goal.returns
returns c = word-contains _ _ (search rules) c.requires c.from-l.ensures c.word.ensures c.contains.ensures
