-- The rules that no record says: three uses. Assumes nothing.
use borrow.Author.Rules.{rules}
use Rattle.passes.proofs.Guests.{three_labels}
use Rattle.passes.proofs.Whole.{applies-lines}
use Rattle.passes.proofs.lines.Goals as goal

pub guest_line-prototypes-requires : goal.guest_line-prototypes-requires
guest_line-prototypes-requires c =
    (record { room = search rules; apart = c.requires.apart }, three_labels c.args.wide)

pub returns : goal.returns
returns c =
    λ p known. applies-lines c.requires.apart (c.chain_lines-chains.ensures p known.typed) c.guest_line-prototypes.ensures
    (c.guest-said.ensures p known.serves)
