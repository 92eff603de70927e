-- All inputs, one after the other. Assumes nothing.
use mathlib.Core.Path.{◌≡◌}
use native.Mathlib.Omega.{arith}
use Rattle.sets.specs.Value.{value}
use Rattle.records.specs.Say.{input_at}
use Rattle.lookups.proofs.Calls.{hands_none, hands_next}
use Rattle.lookups.proofs.call.hand_all.Goals as goal

pub loop-j-init : goal.loop-j-init
loop-j-init c p formals functions = hands_none _ _

pub loop-j-preserved : goal.loop-j-preserved
loop-j-preserved c p formals functions =
    let a = c.args in
    hands_next (value a.wide a.fs) (input_at a.inputs) c.loop-j.j c.requires.apart (c.loop-j.invariant p formals functions)
    (c.hand_over-grew.ensures p formals functions)

pub returns : goal.returns
returns c p formals functions =
    let e : c.loop-j.j ≡ 7 = omega arith in
    rw (← e) (c.loop-j.invariant p formals functions)
