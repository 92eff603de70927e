-- What labels hold under a key, by the pair. Assumes nothing.
use borrow.Author.Rules.{rules}
use Rattle.kept.specs.Promise.{under}
use Rattle.shared.proofs.Families.{under-told}
use Rattle.shared.proofs.told.told_under.Goals as goal

pub returns : goal.returns
returns c p lays = c.told.ensures p (under c.args.key) c.args.t.now tt (λ _. c.in-Some.ensures.some.0) (λ rest r part read. under-told c.args.wide p c.args.key _ lays (search rules) c.names-names.ensures (search rules))
