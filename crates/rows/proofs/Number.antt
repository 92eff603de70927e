-- Row numbers: each row of the table has a number below the number of rows, and no two rows share one. Assumes nothing.
use mathlib.Core.Path.{◌≡◌, ap, ap₂}
use Prim.Native.Nat.{ℕ, ◌<◌}
use native.Mathlib.Omega.{arith}
use Rattle.rows.specs.Row.{Row, variable, property, chain, thrown, number, row_count, InTable}

pub number_bound : (L : ℕ) (y : Row) → InTable L y → number L y < row_count L
number_bound L (variable v) i = omega arith
number_bound L (property l n) i = omega arith
number_bound L (chain l) i = omega arith
number_bound L (thrown k) i = omega arith

pub number-injective : (L : ℕ) (x y : Row) → InTable L x → InTable L y → number L x ≡ number L y → x ≡ y
number-injective L (variable v) (variable w) i j e = ap variable e
number-injective L (variable v) (property l n) i j e = absurd (omega arith)
number-injective L (variable v) (chain l) i j e = absurd (omega arith)
number-injective L (variable v) (thrown k) i j e = absurd (omega arith)
number-injective L (property l n) (variable v) i j e = absurd (omega arith)
number-injective L (property l n) (property m o) i j e =
    let p : l ≡ m = omega arith in
    ap₂ property p (omega arith)
number-injective L (property l n) (chain m) i j e = absurd (omega arith)
number-injective L (property l n) (thrown k) i j e = absurd (omega arith)
number-injective L (chain l) (variable v) i j e = absurd (omega arith)
number-injective L (chain l) (property m n) i j e = absurd (omega arith)
number-injective L (chain l) (chain m) i j e = ap chain (omega arith)
number-injective L (chain l) (thrown k) i j e = absurd (omega arith)
number-injective L (thrown k) (variable v) i j e = absurd (omega arith)
number-injective L (thrown k) (property m n) i j e = absurd (omega arith)
number-injective L (thrown k) (chain m) i j e = absurd (omega arith)
number-injective L (thrown k) (thrown j) i h e = ap thrown (omega arith)
