-- Pairs emptied one by one. Assumes nothing.
use borrow.Author.Rules.{rules}
use Rattle.kept.proofs.Pairs.{cleared-start, cleared-next}
use Rattle.kept.proofs.clear.Goals as goal

pub loop-pair-init : goal.loop-pair-init
loop-pair-init c = cleared-start

pub loop-pair-preserved : goal.loop-pair-preserved
loop-pair-preserved c = search (rules, cleared-next)
