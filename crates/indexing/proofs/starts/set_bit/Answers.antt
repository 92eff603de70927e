-- One bit more, in one word. Assumes nothing.
use mathlib.Core.Logic.{inl, inr, ⊎_elim}
use native.Mathlib.Omega.{arith}
use Prim.Native.Nat.{◌-◌}
use Rattle.indexing.proofs.Bits.{one-bit-more}
use Rattle.indexing.proofs.starts.set_bit.Goals as goal

pub returns : goal.returns
returns c =
    let a = c.args in
    let q = a.at - a.half in
    λ b i o. ⊎_elim (λ e. inl (omega (arith, e, c.if-at-half.false))) (λ w. inr w) (one-bit-more a.starts.now q b i (rw (c.join.ensures, c.single.ensures) at o))
