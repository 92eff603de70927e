-- Four words, read. Assumes nothing.
use mathlib.Core.Path.{◌≡◌}
use native.Mathlib.Omega.{arith}
use Prim.Native.Nat.{◌+◌}
use Rattle.rows.specs.Run.{number}
use Rattle.sets.specs.Value.{value}
use Rattle.lent.proofs.four.Goals as goal

pub returns : goal.returns
unfolding value number
returns c =
    let i = c.args.i in
    let two : i + 1 + 1 ≡ i + 2 = omega arith in
    let three : i + 1 + 1 + 1 ≡ i + 3 = omega arith in
    rw (three, two)
