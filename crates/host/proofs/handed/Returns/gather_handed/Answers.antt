-- What the functions of a set hand back: the loop takes them one by one. Assumes nothing.
use Rattle.uses.proofs.Unions.{adding-next, adding-end, added-whole}
use Rattle.host.proofs.Returns.{turn-handed}
use Rattle.host.proofs.handed.Returns.gather_handed.Goals as goal

pub loop-f-preserved : goal.loop-f-preserved
loop-f-preserved c =
    let h = rw c.loop-f.invariant.0 at c.in-Some.ensures.steps in
    (h.0, adding-next h.1 (turn-handed c.hand-all.ensures) c.loop-f.invariant.1)

pub returns : goal.returns
returns c =
    let h = rw c.loop-f.invariant.0 at c.in-None.ensures.steps in
    added-whole c.none-all.ensures (adding-end h.1.0 c.loop-f.invariant.1)
