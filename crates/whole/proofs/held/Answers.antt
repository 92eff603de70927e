-- The forbidden labels in row 1. Assumes nothing.
use mathlib.Core.Path.{ap, ◌∙◌}
use lib.Bits.{bit_and}
use Prim.Native.Nat.{ℕ}
use native.Mathlib.Omega.{arith}
use Rattle.sets.specs.Value.{value}
use Rattle.uses.proofs.Rows.{row_is, variable-row}
use Rattle.whole.proofs.held.Goals as goal

pub returns : goal.returns
returns c =
    let a = c.args in
    c.meet.ensures
    ∙ ap (λ (x : ℕ). bit_and x (value a.wide a.forbidden)) (row_is a.wide 0 a.t.now 1 (variable-row a.wide (omega arith)) c.row-bag.ensures)
