-- The pairs of unions are emptied; the others stay, and are no unions. Assumes nothing.
use borrow.Author.Rules.{rules}
use Rattle.kept.proofs.Remembers.{remembers-forgets, forgets-first, forgets-names}
use Rattle.kept.proofs.forget.Goals as goal

pub returns-then-not-wide : goal.returns-then-not-wide
returns-then-not-wide c o p old t = search (rules, remembers-forgets, forgets-names)

pub returns-else-not-wide : goal.returns-else-not-wide
returns-else-not-wide c o p old t = search (rules, remembers-forgets, forgets-first)
