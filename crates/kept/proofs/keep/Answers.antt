-- A pair set: two rows written. Assumes nothing.
use borrow.Author.Rules.{rules}
use Rattle.kept.proofs.Pairs.{refreshed}
use Rattle.kept.proofs.keep.Goals as goal

pub returns : goal.returns
returns c = search (rules, refreshed)
