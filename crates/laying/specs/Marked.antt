-- The arrays of what functions return, one variable more at a time. Assumes nothing.
use Rattle.std.specs.Prelude.{◌≡◌, ◌⊎◌, List, ℕ, ◌+◌, ◌*◌, ◌/◌, ◌%◌, ◌^◌, ◌<◌, get_or, set}
use Rattle.words.specs.Words.{union}
use Rattle.host.specs.declared.handed.Returns.{Returns}
use Rattle.host.specs.Lays.{HandsBack}

-- variable v, among those of the f-th function of an array
abbrev pub with_mark : List ℕ → ℕ → ℕ → List ℕ
with_mark ws f v = set ws (4 * f + v / 64) (union (get_or ws (4 * f + v / 64) 0) (2 ^ (v % 64)))

-- function k, or the top level where k is 0, returns variable v too, and nothing else is new
pub record Marked (k v : ℕ) (r u : Returns) : Type 0 where
  pub source : (f x : ℕ) → f < 256 → x < 256 → HandsBack u f x → HandsBack r f x ⊎ ((f ≡ k) × (x ≡ v))
  pub keeps : (f x : ℕ) → f < 256 → x < 256 → HandsBack r f x → HandsBack u f x
  pub here : HandsBack u k v

-- what the record at position `at` says is returned is marked
abbrev pub MarkedAt : List ℕ → ℕ → Returns → Returns → Type 0
MarkedAt file at r u =
    (get_or file at 0 ≡ 23 → Marked (get_or file (at + 1) 0) (get_or file (at + 2) 0) r u) × ((get_or file at 0 ≡ 23 → ⊥) → u ≡ r)
