-- Rows in the lent words, and uses that are one join of what was read. Assumes nothing.
use mathlib.Core.Path.{◌≡◌, refl, sym, ◌∙◌}
use mathlib.Core.Logic.{inl}
use mathlib.Core.Bool.{Bool, true, false}
use mathlib.Core.List.{List}
use Prim.Native.Nat.{ℕ, ◌+◌, ◌*◌, ◌^◌, ◌≤◌, ◌<◌}
use native.Mathlib.Omega.{arith}
use lib.ListN.{get_or}
use Rattle.words.proofs.Bits.{on-single, single-only}
use Rattle.rows.specs.Edition.{labels, words, word_count}
use Rattle.rows.specs.Row.{row_count}
use Rattle.rows.specs.Run.{number}
use Rattle.lent.specs.Table.{table_at, place}
use Rattle.lent.specs.Stored.{Joined}
use Rattle.rows.proofs.Run.{view-row}
use Rattle.uses.specs.Use.{Lent, giving, including, Used}
use Rattle.uses.proofs.Use.{used-join}

-- ---- rows are in the lent words

pub row_fits : (wide : Bool) (o r size : ℕ) → o + word_count wide ≤ size → r < row_count (labels wide) → place wide o r + words wide ≤ size
row_fits true o r size h i = omega arith
row_fits false o r size h i = omega arith

pub row_read : (wide : Bool) (r size : ℕ) → word_count wide ≤ size → r < row_count (labels wide) → place wide 0 r + words wide ≤ size
row_read true r size h i = omega arith
row_read false r size h i = omega arith

pub read-room : {o size : ℕ} (wide : Bool) → Lent wide o size → word_count wide ≤ size
read-room wide l = omega (arith, l.room)

pub count_small : (wide : Bool) → row_count (labels wide) ≤ 8960
count_small true = omega arith
count_small false = omega arith

pub labels-some : (wide : Bool) → 0 < labels wide
labels-some true = omega arith
labels-some false = omega arith

pub labels-small : (wide : Bool) → labels wide ≤ 256
labels-small true = omega arith
labels-small false = omega arith

-- a row of the small edition's table is one of the large one's
pub variable-row : (wide : Bool) {v : ℕ} → v < row_count 64 → v < row_count (labels wide)
variable-row true h = omega arith
variable-row false h = omega arith

pub property-row : (wide : Bool) {l n : ℕ} → l < labels wide → n < 32 → 256 + 32 * l + n < row_count (labels wide)
property-row true h i = omega arith
property-row false h i = omega arith

-- the property rows of a label, and as many again, are in the table
pub names-fit : (wide : Bool) {l base : ℕ} → l < labels wide → base ≡ 256 + 32 * l + 0 → base + 64 ≤ row_count (labels wide)
names-fit true h e = omega arith
names-fit false h e = omega arith

-- what was read is the row of the table
pub row_is : {v : ℕ} (wide : Bool) (o : ℕ) (t : List ℕ) (x : ℕ) → x < row_count (labels wide) → v ≡ number (words wide) t (place wide o x)
    → v ≡ get_or (table_at wide o t) x 0
row_is wide o t x i e = e ∙ sym (view-row (words wide) (row_count (labels wide)) o t x i)

-- ---- one join

pub used-give : {wide : Bool} {o s y m : ℕ} {t u : List ℕ} {grew : Bool} → y < row_count (labels wide) → s ≡ 2 ^ m → Joined (words wide) o y s t u grew
    → Used wide o (giving y m) t t u grew
used-give {y = y} {m = m} i e j =
    used-join y _ i (λ l h z. (z, refl, single-only m l (rw e at h))) (λ q l h. (h.0, h.1, inl (rw (e, h.2) (on-single m)))) j

pub used-include : {wide : Bool} {o s y : ℕ} {t u : List ℕ} {grew : Bool} (x : ℕ) → y < row_count (labels wide) → s ≡ get_or (table_at wide 0 t) x 0
    → Joined (words wide) o y s t u grew → Used wide o (including y x) t t u grew
used-include {y = y} x i e j = used-join y _ i (λ l h z. (z, refl, rw (← e) h)) (λ q l h. (h.0, h.1, inl (rw e h.2))) j
