-- Unions over the labels of a set. F says what a label tells in a table: the labels of a row, or of several. Assumes nothing.
use Rattle.std.specs.Prelude.{◌≡◌, ◌⊎◌, ℕ, ◌+◌}
use Rattle.words.specs.Words.{bit}
use Rattle.rows.specs.Row.{number, property}
use Rattle.rules.specs.Table.{Table, Has}

-- the labels of row base + l
abbrev pub row_from : ℕ → Table → ℕ → ℕ → Type 0
row_from base t l m = Has t (base + l) m

-- the labels of the properties of l under the names of a word
abbrev pub under_names : ℕ → Table → ℕ → ℕ → Type 0
under_names names t l m = (n : ℕ) × (bit names n ≡ 1) × Has t (number 256 (property l n)) m

-- r has nothing but what the labels of s tell in t, and all that they told in `old`, an earlier t or t itself: where the two are the same, r is the union
pub record Gathered (F : Table → ℕ → ℕ → Type 0) (old t : Table) (s r : ℕ) : Type 0 where
  pub source : (m : ℕ) → bit r m ≡ 1 → (l : ℕ) × (bit s l ≡ 1) × F t l m
  pub all : (l m : ℕ) → bit s l ≡ 1 → F old l m → bit r m ≡ 1

-- r is `start` with what the labels of s tell
pub record Added (F : Table → ℕ → ℕ → Type 0) (t : Table) (s start r : ℕ) : Type 0 where
  pub source : (m : ℕ) → bit r m ≡ 1 → (bit start m ≡ 1) ⊎ ((l : ℕ) × (bit s l ≡ 1) × F t l m)
  pub keeps : (m : ℕ) → bit start m ≡ 1 → bit r m ≡ 1
  pub all : (l m : ℕ) → bit s l ≡ 1 → F t l m → bit r m ≡ 1
