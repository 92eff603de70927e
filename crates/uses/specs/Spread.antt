-- A set joined to many rows: to those that the labels of another set take. G says which rows a label takes. Assumes nothing.
use Rattle.std.specs.Prelude.{◌≡◌, Bool, List, ℕ, ◌+◌, ◌*◌, ◌<◌, get_or}
use Rattle.words.specs.Words.{bit}
use Rattle.rows.specs.Row.{number, property}
use Rattle.rules.specs.Table.{Table, Has}
use Rattle.lent.specs.Table.{table_at}
use Rattle.uses.specs.Use.{Used}

-- row base + n, for name n
abbrev pub row_after : ℕ → ℕ → ℕ → Type 0
row_after base n r = r ≡ base + n

-- the properties of l under the names of a word
abbrev pub named_rows : ℕ → ℕ → ℕ → Type 0
named_rows names l r = (n : ℕ) × (bit names n ≡ 1) × (r ≡ number 256 (property l n))

-- the j-th input of function f: this, then six formals
abbrev pub formal_row : List ℕ → ℕ → ℕ → ℕ → Type 0
formal_row formals j f r = r ≡ get_or formals (7 * f + j) 0

-- the labels of x, to the rows that H has; nothing goes to row 0
abbrev pub given_to : (ℕ → Type 0) → ℕ → Table → ℕ → ℕ → Type 0
given_to H x t r l = H r × (0 < r) × (bit x l ≡ 1)

-- the labels of x, to the rows that the labels of s take
abbrev pub given : (ℕ → ℕ → Type 0) → ℕ → ℕ → Table → ℕ → ℕ → Type 0
given G s x t r l = (m : ℕ) × (bit s m ≡ 1) × given_to (G m) x t r l

-- x was joined to the rows that H has, and all of them hold `least`
pub record SpreadTo (wide : Bool) (o : ℕ) (H : ℕ → Type 0) (x : ℕ) (t u : List ℕ) (grew : Bool) (least : ℕ) : Type 0 where
  pub used : Used wide o (given_to H x) t t u grew
  pub holds : (r m : ℕ) → H r → 0 < r → bit least m ≡ 1 → Has (table_at wide o u) r m

-- the rows that the labels of s take
abbrev pub taken_by : (ℕ → ℕ → Type 0) → ℕ → ℕ → Type 0
taken_by G s r = (m : ℕ) × (bit s m ≡ 1) × G m r
