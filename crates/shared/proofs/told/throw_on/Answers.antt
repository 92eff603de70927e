-- What functions throw, joined to the row of a scope. Assumes nothing.
use Rattle.kept.specs.Promise.{throws}
use Rattle.uses.proofs.Rows.{row_is}
use Rattle.shared.proofs.Applied.{applies-told}
use Rattle.shared.proofs.told.throw_on.Goals as goal

pub returns : goal.returns
returns c =
    let a = c.args in
    λ p. rw (← c.thrown-y.ensures.value)
    (applies-told throws c.requires.0.apart c.thrown-y.ensures.bound
    (row_is a.wide a.o a.t.now c.thrown-y.result c.thrown-y.ensures.bound c.row-have.ensures) (c.told_throws-more.ensures p) c.join.ensures)
