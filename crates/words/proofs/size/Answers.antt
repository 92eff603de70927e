-- The number of labels is the number of ones. Assumes nothing.
use native.Mathlib.Omega.{arith}
use Rattle.words.proofs.Laws.{ones-count, count-le}
use Rattle.words.proofs.size.Goals as goal

pub returns : goal.returns
returns c =
    let e = ones-count 64 c.args.x c.ranges.x.fits in
    record { value = e; bound = omega (arith, count-le c.args.x 64) }
