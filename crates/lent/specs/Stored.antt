-- What a store does to the lent words: the contracts of `write` and `join`. Assumes nothing.
use Rattle.std.specs.Prelude.{◌≡◌, ◌⊎◌, Bool, true, false, List, ℕ, ◌+◌, ◌*◌, ◌≤◌, ◌<◌, length, get_or}
use Rattle.rows.specs.Run.{number, view}
use Rattle.rules.specs.Table.{Has}
use Rattle.rules.specs.Round.{join}

-- the k words of t from place i on became the number v, and the others stayed
pub record Stored (k i v : ℕ) (t u : List ℕ) : Type 0 where
  pub same_length : length u ≡ length t
  pub here : number k u i ≡ v
  pub apart : (j : ℕ) → (j < i) ⊎ (i + k ≤ j) → get_or u j 0 ≡ get_or t j 0

-- The set s was joined to row r of the table at o, a table of rows of k words and of any number n of them, and `grew` says whether that added a label.
-- No other word changed. So one contract serves both uses: with o = 0 the table read is the table joined to, and with o behind the table read that one
-- stays.
pub record Joined (k o r s : ℕ) (t u : List ℕ) (grew : Bool) : Type 0 where
  pub same_length : length u ≡ length t
  pub here : (n : ℕ) → r < n → view k n o u ≡ join r s (view k n o t)
  pub apart : (j : ℕ) → (j < o + k * r) ⊎ (o + k * r + k ≤ j) → get_or u j 0 ≡ get_or t j 0
  pub still : grew ≡ false → u ≡ t
  pub grown : grew ≡ true → (n : ℕ) → r < n → (l : ℕ) × Has (view k n o u) r l × (Has (view k n o t) r l → ⊥)
