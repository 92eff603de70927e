-- What functions hand back, joined to a variable. Assumes nothing.
use Rattle.kept.specs.Promise.{handed}
use Rattle.uses.proofs.Rows.{row_is, variable-row}
use Rattle.shared.proofs.Applied.{applies-told}
use Rattle.shared.proofs.told.hand_back.Goals as goal

pub returns : goal.returns
returns c =
    let a = c.args in
    let i = variable-row a.wide c.row-r.ensures.bound in
    λ p returning functions. rw (← c.row-r.ensures.value)
    (applies-told handed c.requires.apart i (row_is a.wide a.o a.t.now c.row-r.result i c.row-have.ensures) (c.told_handed-more.ensures p returning functions)
    c.join.ensures)
