-- What the editions come to. Assumes nothing.
use mathlib.Core.Path.{◌≡◌}
use mathlib.Core.Bool.{Bool, true, false}
use Prim.Native.Nat.{ℕ, ◌*◌, ◌≤◌}
use native.Mathlib.Omega.{arith}
use Rattle.rows.specs.Row.{row_count}
use Rattle.rows.specs.Edition.{labels, words}

-- the words of a table
pub words-wide : {n : ℕ} (wide : Bool) → wide ≡ true → n ≡ row_count (labels wide) → (4 * n ≡ words wide * row_count (labels wide)) × (4 * n ≤ 35840)
words-wide {n} wide e h =
    let f : n ≡ row_count (labels true) = rw e at h in
    rw e (omega arith, omega arith)

pub words-narrow : {n : ℕ} (wide : Bool) → wide ≡ false → n ≡ row_count (labels wide) → (n ≡ words wide * row_count (labels wide)) × (n ≤ 35840)
words-narrow {n} wide e h =
    let f : n ≡ row_count (labels false) = rw e at h in
    rw e (omega arith, omega arith)

pub labels-small : (wide : Bool) → labels wide ≤ 256
labels-small true = omega arith
labels-small false = omega arith
