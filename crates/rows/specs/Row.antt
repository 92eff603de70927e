-- The rows of the table, and the number of each in a table for L labels (document 01, "Table and sheet"). Rows are named here by
-- what they hold; only `number`, `row_count` and `InTable` know the layout and depend on the number of labels. Assumes nothing.
use Rattle.std.specs.Prelude.{ℕ, ◌+◌, ◌*◌, ◌<◌}

-- document 01's S(v), H(l,n), P(l) and T(k)
pub data Row : Type 0 where
  variable : ℕ → Row  -- the labels that variable v may hold
  property : ℕ → ℕ → Row  -- the labels in property n of label l
  chain : ℕ → Row  -- the labels on the prototype chain of label l
  thrown : ℕ → Row  -- the labels thrown in scope k

-- the number of a row: the variables first, then 32 rows for each label, then the chains, then the scopes;
-- for 64 labels the chains begin at 2304 and the scopes at 2368, for 256 at 8448 and 8704
abbrev pub number : ℕ → Row → ℕ
number L (variable v) = v
number L (property l n) = 256 + 32 * l + n
number L (chain l) = 256 + 32 * L + l
number L (thrown k) = 256 + 33 * L + k

-- how many rows there are; for 64 labels 2432, for 256 8960
abbrev pub row_count : ℕ → ℕ
row_count L = 256 + 34 * L

-- the row is one of a table for L labels: 256 variables, 32 names
abbrev pub InTable : ℕ → Row → Type 0
InTable L (variable v) = v < 256
InTable L (property l n) = (l < L) × (n < 32)
InTable L (chain l) = l < L
InTable L (thrown k) = k < L
