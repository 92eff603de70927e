-- A set spread by a pair. Assumes nothing.
use mathlib.Core.Path.{refl}
use Rattle.shared.proofs.Applied.{left-part, applies-spread}
use Rattle.shared.proofs.spread.spread.Goals as goal

pub returns : goal.returns
returns g c o p slot apart meets here gives =
    applies-spread slot apart meets here c.leave-left.ensures
    (rw c.unwrap_or.ensures at (gives c.unwrap_or.result _ _ (rw c.unwrap_or.ensures (left-part c.leave-left.ensures))
    (_, record { shown = _; shows = refl; left = _; called = c.give-done.ensures; leaves = refl }))) c.learn.ensures
