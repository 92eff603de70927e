-- A set spread to inputs of functions. Assumes nothing.
use borrow.Author.Rules.{rules}
use Rattle.kept.specs.Promise.{input}
use Rattle.kept.proofs.Slots.{slot-input}
use Rattle.shared.proofs.Families.{input-spread}
use Rattle.shared.proofs.spread.spread_inputs.Goals as goal

pub returns : goal.returns
returns c p formals functions =
    c.spread.ensures c.args.o p (input c.args.j) c.requires.0.apart (λ u. u) (λ _. slot-input c.args.j c.requires.1)
    (λ rest r u part give. input-spread p _ _ c.requires.0.apart c.requires.1 formals (λ f o. functions f (part f o)) (let called = give.1 in search rules))
