-- What functions throw, by the pair. Assumes nothing.
use borrow.Author.Rules.{rules}
use Rattle.kept.specs.Promise.{throws}
use Rattle.kept.proofs.Slots.{slot-throws}
use Rattle.shared.proofs.Families.{throws-told}
use Rattle.shared.proofs.told.told_throws.Goals as goal

pub returns : goal.returns
returns c p = c.told.ensures p throws c.args.t.now tt (λ _. slot-throws) (λ rest r part read. throws-told c.args.wide p _ c.thrown-first.ensures.value (search rules))
