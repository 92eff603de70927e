-- What labels hold under a key, joined to a row. Assumes nothing.
use Rattle.kept.specs.Promise.{under}
use Rattle.uses.proofs.Rows.{row_is}
use Rattle.shared.proofs.Applied.{applies-told}
use Rattle.shared.proofs.told.look_up.Goals as goal

pub returns : goal.returns
returns c =
    let a = c.args in
    λ p lays. applies-told (under a.key) c.requires.0.apart c.requires.1
    (row_is a.wide a.o a.t.now a.y c.requires.1 c.row-have.ensures) (c.told_under-more.ensures p lays) c.join.ensures
