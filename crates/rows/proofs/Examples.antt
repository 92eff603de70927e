-- Row numbers and runs of words, computed: where the rows of either edition begin, and which word of a run has which labels. Assumes nothing.
use mathlib.Core.Path.{◌≡◌, refl}
use mathlib.Core.List.{[], ◌∷◌, map}
use Prim.Native.Nat.{◌+◌, ◌*◌, ◌^◌}
use Rattle.rows.specs.Row.{variable, property, chain, thrown, number}
use Rattle.rows.specs.Run as run

-- document 01: S, then H, P from 2304 and T from 2368 on
pub small-rows : map (number 64) (variable 255 ∷ property 0 0 ∷ property 63 31 ∷ chain 0 ∷ thrown 0 ∷ thrown 63 ∷ [])
    ≡ (255 ∷ 256 ∷ 2303 ∷ 2304 ∷ 2368 ∷ 2431 ∷ [])
small-rows = refl

-- document 02, Req 13: 256 + 8,192 + 256 + 256 rows
pub large-rows : map (number 256) (variable 255 ∷ property 0 0 ∷ property 255 31 ∷ chain 0 ∷ thrown 0 ∷ thrown 255 ∷ [])
    ≡ (255 ∷ 256 ∷ 8447 ∷ 8448 ∷ 8704 ∷ 8959 ∷ [])
large-rows = refl

-- "four words with label l in bit l of the run": two rows, and a word left over
pub two-rows : run.rows_of 4 (1 ∷ 2 ∷ 0 ∷ 4 ∷ 0 ∷ 0 ∷ 8 ∷ 0 ∷ 5 ∷ []) ≡ ((1 + 2 * 2 ^ 64 + 4 * 2 ^ 192) ∷ (8 * 2 ^ 128) ∷ [])
unfolding run.view
two-rows = refl
