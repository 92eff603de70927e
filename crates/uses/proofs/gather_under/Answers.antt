-- The properties of the labels of a set: the loop takes the labels one by one. Assumes nothing.
use Rattle.uses.proofs.Unions.{adding-next, adding-end, added-whole, turn-under}
use Rattle.uses.proofs.gather_under.Goals as goal

pub loop-l-preserved : goal.loop-l-preserved
loop-l-preserved c =
    let h = rw c.loop-l.invariant.0 at c.in-Some.ensures.steps in
    (h.0, adding-next h.1 (turn-under c.property.ensures.value c.gather_word-all.ensures.added) c.loop-l.invariant.1)

pub returns : goal.returns
returns c =
    let h = rw c.loop-l.invariant.0 at c.in-None.ensures.steps in
    added-whole c.none-all.ensures (adding-end h.1.0 c.loop-l.invariant.1)
