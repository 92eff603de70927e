-- Two rows, each joined to the other. Assumes nothing.
use Rattle.uses.proofs.Use.{reached-read, used-since, used-then}
use Rattle.joins.proofs.same.Goals as goal

pub returns : goal.returns
returns c =
    let apart = c.requires.0.apart in
    let e = c.include-to.ensures in
    used-then apart e (used-since (λ r l h. (h.0, h.1, reached-read apart e.only _ l h.2)) c.include-from.ensures)
