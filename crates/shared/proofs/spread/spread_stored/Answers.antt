-- A set spread to properties. Assumes nothing.
use borrow.Author.Rules.{rules}
use Rattle.kept.specs.Promise.{stored}
use Rattle.shared.proofs.Families.{named-spread}
use Rattle.shared.proofs.spread.spread_stored.Goals as goal

pub returns : goal.returns
returns c p lays =
    c.spread.ensures c.args.o p (stored c.args.key) c.requires.0.apart (λ u. u) (λ _. c.in-Some.ensures.some.0)
    (λ rest r u part give. named-spread c.args.key c.names-names.result _ c.requires.0.apart lays c.requires.1 c.names-names.ensures (let called = give.1 in search rules))
