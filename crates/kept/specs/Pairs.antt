-- Pairs of two sets in the array `keeps`, and what the functions that go by a pair say. A pair is a set of labels and the union of what they tell, or a set
-- of labels and labels that all their rows hold. Assumes nothing.
use Rattle.std.specs.Prelude.{◌≡◌, ◌⊎◌, Bool, true, false, List, ℕ, ◌+◌, ◌*◌, ◌≤◌, ◌<◌}
use Rattle.std.specs.Int.Bits.{bit_and}
use Rattle.words.specs.Words.{bit, union, difference}
use Rattle.rows.specs.Edition.{words}
use Rattle.rows.specs.Run.{number}
use Rattle.sets.specs.Value.{value}
use Rattle.lent.specs.Table.{place}
use Rattle.kept.specs.declared.Asked.{Asked}
use Rattle.kept.specs.declared.Asked.TheVariants.{Told, Open}

-- how many pairs the array of 256 words has room for
abbrev pub pair_count : Bool → ℕ
pair_count true = 32
pair_count false = 128

-- the two sets of a pair
abbrev pub kept_set : Bool → List ℕ → ℕ → ℕ
kept_set wide keeps pair = number (words wide) keeps (place wide 0 (2 * pair))

abbrev pub kept_with : Bool → List ℕ → ℕ → ℕ
kept_with wide keeps pair = number (words wide) keeps (place wide 0 (2 * pair + 1))

-- a pair has room, and stands for these two sets
pub record Holds (wide : Bool) (keeps : List ℕ) (pair s v : ℕ) : Type 0 where
  pub room : pair < pair_count wide
  pub labels : s ≡ kept_set wide keeps pair
  pub with : v ≡ kept_with wide keeps pair

-- a pair stayed
abbrev pub Stays : Bool → List ℕ → List ℕ → ℕ → Type 0
Stays wide before after q = (kept_set wide after q ≡ kept_set wide before q) × (kept_with wide after q ≡ kept_with wide before q)

-- the pair was set, and the others stayed
pub record Refreshed (wide : Bool) (pair s v : ℕ) (before after : List ℕ) : Type 0 where
  pub labels : kept_set wide after pair ≡ s
  pub with : kept_with wide after pair ≡ v
  pub others : (q : ℕ) → (q ≡ pair → ⊥) → Stays wide before after q

-- the pairs from `from` up to `to` are empty, and the others stayed
pub record Cleared (wide : Bool) (from to : ℕ) (before after : List ℕ) : Type 0 where
  pub empty : (q : ℕ) → from ≤ q → q < to → (kept_set wide after q ≡ 0) × (kept_with wide after q ≡ 0)
  pub below : (q : ℕ) → q < from → Stays wide before after q
  pub above : (q : ℕ) → to ≤ q → Stays wide before after q

-- every label of x is in y
abbrev pub Subset : ℕ → ℕ → Type 0
Subset x y = (l : ℕ) → bit x l ≡ 1 → bit y l ≡ 1

-- What is still to be read for the union over s, where what `have` holds need not be told: the kept set is part of s, or the kept union is held already,
-- or the pair is of no use. The last argument says that the union over s, once it is known, may take the pair's place.
pub data Asks (wide : Bool) (keeps : List ℕ) (pair s have base rest : ℕ) : Bool → Type 0 where
  part : pair < pair_count wide → Subset (kept_set wide keeps pair) s → base ≡ kept_with wide keeps pair → rest ≡ difference s (kept_set wide keeps pair)
      → Asks wide keeps pair s have base rest true
  held : pair < pair_count wide → Subset (kept_with wide keeps pair) have → base ≡ 0 → rest ≡ difference s (kept_set wide keeps pair)
      → Asks wide keeps pair s have base rest false
  all : {fresh : Bool} → (fresh ≡ true → pair < pair_count wide) → base ≡ 0 → rest ≡ s → Asks wide keeps pair s have base rest fresh

-- the same, of what the function hands back: all is told where nothing is left to be read
abbrev pub AsksFor : Bool → List ℕ → ℕ → ℕ → ℕ → Asked → Type 0
AsksFor wide keeps pair s have (Told told) = (fresh : Bool) × Asks wide keeps pair s have (value wide told) 0 fresh
AsksFor wide keeps pair s have (Open rest) = Asks wide keeps pair s have (value wide rest.base) (value wide rest.labels) rest.fresh

-- Which labels of s may tell what `have` lacks: those of the kept set do not, where the kept union is held already.
pub data Spares (wide : Bool) (keeps : List ℕ) (pair s have rest : ℕ) : Type 0 where
  fewer : Subset (kept_with wide keeps pair) have → rest ≡ difference s (kept_set wide keeps pair) → Spares wide keeps pair s have rest
  whole : rest ≡ s → Spares wide keeps pair s have rest

-- the answer r: what was kept and what was read; the pair may have become s and r
pub record Answers (wide : Bool) (pair s base more r : ℕ) (fresh : Bool) (before after : List ℕ) : Type 0 where
  pub joined : r ≡ union base more
  pub left : (after ≡ before) ⊎ ((fresh ≡ true) × (pair < pair_count wide) × Refreshed wide pair s r before after)

-- Which labels of s are still to be given x: those of which the kept meet does not say that their rows hold it.
pub data Leaves (wide : Bool) (keeps : List ℕ) (pair s x rest : ℕ) : Bool → Type 0 where
  some : pair < pair_count wide → Subset x (kept_with wide keeps pair) → rest ≡ difference s (kept_set wide keeps pair) → Leaves wide keeps pair s x rest true
  every : rest ≡ s → Leaves wide keeps pair s x rest false

-- what is kept after the rows of `rest` were given x, all of which then hold `least`
pub data Learns (wide : Bool) (pair s rest least : ℕ) (before after : List ℕ) : Bool → Type 0 where
  same : {skip : Bool} → after ≡ before → Learns wide pair s rest least before after skip
  wider : pair < pair_count wide → Refreshed wide pair (union (kept_set wide before pair) rest) (bit_and (kept_with wide before pair) least) before after
      → Learns wide pair s rest least before after true
  anew : pair < pair_count wide → Refreshed wide pair s least before after → Learns wide pair s rest least before after false
