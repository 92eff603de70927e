-- The function and its prototype property. Assumes nothing.
use Rattle.uses.proofs.Use.{used-since, used-then}
use Rattle.joins.proofs.make_function.Goals as goal

pub returns : goal.returns
returns c =
    let apart = c.requires.0.apart in
    used-then apart c.give_label-made.ensures (used-since (λ r l h. h) c.set_property-set.ensures)
