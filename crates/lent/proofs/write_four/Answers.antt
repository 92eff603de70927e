-- Four words, stored. Assumes nothing.
use borrow.Author.Rules.{rules}
use mathlib.Core.Path.{◌≡◌}
use mathlib.Core.List.{[], ◌∷◌}
use native.Mathlib.Omega.{arith}
use Prim.Native.Nat.{◌+◌}
use Rattle.sets.specs.Value.{value}
use Rattle.lent.proofs.Views.{stored}
use Rattle.lent.proofs.write_four.Goals as goal

pub returns : goal.returns
unfolding value
returns c =
    let s = c.args.s in
    let i = c.args.i in
    let two : i + 1 + 1 ≡ i + 2 = omega arith in
    let three : i + 1 + 1 + 1 ≡ i + 3 = omega arith in
    rw (← three, ← two) (stored (s.a ∷ s.b ∷ s.c ∷ s.d ∷ []) _ _ (search rules))
