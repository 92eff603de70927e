-- The chains of labels, by the pair. Assumes nothing.
use borrow.Author.Rules.{rules}
use Rattle.kept.specs.Promise.{chains}
use Rattle.kept.proofs.Slots.{slot-chains}
use Rattle.shared.proofs.Families.{chains-told}
use Rattle.shared.proofs.told.told_chains.Goals as goal

pub returns : goal.returns
returns c p = rw c.none.ensures at (c.told.ensures p chains c.args.t.now tt (λ _. slot-chains _ c.chain_pair.ensures) (λ rest r part read. chains-told c.args.wide p _ c.chain-first.ensures.value (search rules)))
