-- A store: to the labels that are not built-in. Assumes nothing.
use Rattle.lookups.proofs.Properties.{store-applies}
use Rattle.lookups.proofs.property.store.Goals as goal

pub returns : goal.returns
returns c =
    let a = c.args in
    λ p lays. store-applies a.x.0 a.a.0 a.key c.requires.0.apart lays c.held-held.ensures c.without_built_ins-s.ensures
    c.held-value.ensures (c.spread_stored.ensures p lays)
