-- The labels whose rows hold the set already are passed over. Assumes nothing.
use borrow.Author.Rules.{rules}
use Rattle.kept.specs.Pairs.{every}
use Rattle.kept.proofs.Pairs.{leaves-some}
use Rattle.kept.proofs.leave.Goals as goal

pub returns-in_err-now : goal.returns-in_err-now
returns-in_err-now c = search (rules, every)

pub returns : goal.returns
returns c = search (rules, leaves-some, every)
