-- The forbidden labels in a guest's bag. Assumes nothing.
use mathlib.Core.Path.{◌≡◌, ap, ◌∙◌}
use mathlib.Core.Logic.{◌↔◌}
use Prim.Native.Nat.{ℕ, ◌/◌, ◌%◌, ◌^◌, ◌<◌, min}
use native.Mathlib.Omega.{arith}
use lib.ListN.{get_or}
use lib.Bits.{bit_and, and_step, and_shr, and_le_r}
use Rattle.words.specs.Words.{bit}
use Rattle.words.proofs.Laws.{bit-small}
use Rattle.words.proofs.Bits.{On}
use Rattle.rules.specs.Table.{Table, Has}
use Rattle.program.specs.Program.{Guest}
use Rattle.analysis.specs.Verdict.{held_forbidden}

and_low : (a b : ℕ) → bit_and a b % 2 ≡ min (a % 2) (b % 2)
and_low a b = omega (arith, and_step a b)

-- the labels of both words
pub bit-and : (a b l : ℕ) → bit (bit_and a b) l ≡ min (bit a l) (bit b l)
unfolding bit
bit-and a b l = ap (λ (x : ℕ). x % 2) (and_shr a b l) ∙ and_low (a / 2 ^ l) (b / 2 ^ l)

pub on_both : (a b l : ℕ) → On (bit_and a b) l ↔ (On a l × On b l)
on_both a b l = (
  (λ h. (omega (arith, bit-and a b l, bit-small a l, bit-small b l), omega (arith, bit-and a b l, bit-small a l, bit-small b l))),
  (λ h. omega (arith, bit-and a b l, h.0, h.1)),
)

pub held_on : (t : Table) (g : Guest) (l : ℕ) → On (held_forbidden t g) l ↔ (Has t g.bag l × On g.forbidden l)
unfolding held_forbidden
held_on t g l = on_both (get_or t g.bag 0) g.forbidden l

pub held_below : (L : ℕ) (t : Table) (g : Guest) → g.forbidden < 2 ^ L → held_forbidden t g < 2 ^ L
unfolding held_forbidden
held_below L t g h = omega (arith, and_le_r (get_or t g.bag 0) g.forbidden)
