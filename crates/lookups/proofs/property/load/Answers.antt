-- A load: w first, then what is found along the chains. Assumes nothing.
use Rattle.uses.proofs.Rows.{variable-row}
use Rattle.uses.proofs.Use.{reached-length}
use Rattle.lookups.proofs.Properties.{load-applies}
use Rattle.lookups.proofs.property.load.Goals as goal

pub look_up-more-requires : goal.look_up-more-requires
look_up-more-requires c =
    (rw (reached-length c.give-gave.ensures.only) c.requires.0, variable-row c.args.wide c.row-2.ensures.bound, c.requires.1)

pub returns : goal.returns
returns c =
    let a = c.args in
    λ p lays. load-applies a.y.0 a.x.0 a.w.0 a.key c.requires.0.apart (rw c.row.ensures.value at c.give-gave.ensures) c.held-held.ensures
    c.single.ensures c.union-s.ensures (c.told_chains-on.ensures p) (rw c.row-2.ensures.value at (c.look_up-more.ensures p lays))
