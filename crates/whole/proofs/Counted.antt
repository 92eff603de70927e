-- A loop that counts the facts of a table row by row, and its row 1. Assumes nothing.
use mathlib.Core.Path.{◌≡◌, sym, ap, ◌∙◌}
use mathlib.Core.Bool.{Bool}
use mathlib.Core.List.{List}
use Prim.Native.Nat.{ℕ, ◌+◌, ◌≤◌, ◌<◌}
use native.Mathlib.Omega.{arith}
use lib.ListN.{take, get_or}
use Rattle.words.specs.Words.{count_below}
use Rattle.words.proofs.Laws.{count-le}
use Rattle.rows.specs.Edition.{labels, words}
use Rattle.rows.specs.Row.{row_count}
use Rattle.rows.proofs.Edition.{labels-small}
use Rattle.rules.specs.Table.{total, facts}
use Rattle.rules.proofs.Table.{total-next}
use Rattle.rows.specs.Run.{number}
use Rattle.lent.specs.Table.{place, table_at}
use Rattle.uses.proofs.Rows.{row_is}
use Rattle.whole.proofs.Tables.{table-length}

pub row-most : {n : ℕ} (wide : Bool) (v : ℕ) → n ≡ count_below v (labels wide) → n ≤ 256
row-most wide v e = omega (arith, count-le v (labels wide), labels-small wide)

pub counted_next : {v n all : ℕ} (wide : Bool) (t : List ℕ) (r : ℕ) → r < row_count (labels wide) → v ≡ number (words wide) t (place wide 0 r)
    → n ≡ count_below v (labels wide) → total (labels wide) (take r (table_at wide 0 t)) ≡ all → total (labels wide) (take (r + 1) (table_at wide 0 t)) ≡ all + n
counted_next {v} {n} {all} wide t r h is size e =
    let here : count_below v (labels wide) ≡ count_below (get_or (table_at wide 0 t) r 0) (labels wide)
    = ap (λ (x : ℕ). count_below x (labels wide)) (row_is wide 0 t r h is) in
    omega (arith, total-next (labels wide) r (table_at wide 0 t) (rw (table-length wide 0 t) h), here)

pub counted-all : {all : ℕ} (wide : Bool) (t : List ℕ) (r : ℕ) → r ≡ row_count (labels wide) → total (labels wide) (take r (table_at wide 0 t)) ≡ all
    → all ≡ facts (labels wide) (table_at wide 0 t)
unfolding facts
counted-all wide t r e is = sym is ∙ ap (λ (n : ℕ). total (labels wide) (take n (table_at wide 0 t))) e
