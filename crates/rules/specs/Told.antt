-- What a rule means: the facts that it tells of a table, the tables that already hold all of these, and the facts that follow
-- from a table by using the rule again and again. A conclusion in row 0 is dropped: nothing is told of that row. Assumes nothing.
use Rattle.std.specs.Prelude.{◌≡◌, ◌⊎◌, ℕ, ◌<◌}
use mathlib.Core.List.{Memᴰ}
use Rattle.rows.specs.Row.{number, InTable}
use Rattle.rules.specs.Table.{Table, Has}
use Rattle.rules.specs.Rule.{Rule, none, give, include, each, over, both}

-- one use of the rule on t, a table for L labels, says that row r holds label l
abbrev pub Told : ℕ → Table → Rule → ℕ → ℕ → Type 0
Told L t none r l = ⊥
Told L t (give y m) r l = (0 < number L y) × (r ≡ number L y) × (l ≡ m)
Told L t (include y x) r l = (0 < number L y) × (r ≡ number L y) × Has t (number L x) l
Told L t (each x k) r l = (m : ℕ) × Has t (number L x) m × Told L t (k m) r l
Told L t (over xs k) r l = (x : ℕ) × Memᴰ x xs × Told L t (k x) r l
Told L t (both p q) r l = Told L t p r l ⊎ Told L t q r l

-- the table already holds all that the rule says of it
abbrev pub Closed : ℕ → Table → Rule → Type 0
Closed L t none = Unit {0}
Closed L t (give y m) = 0 < number L y → Has t (number L y) m
Closed L t (include y x) = 0 < number L y → (l : ℕ) → Has t (number L x) l → Has t (number L y) l
Closed L t (each x k) = (m : ℕ) → Has t (number L x) m → Closed L t (k m)
Closed L t (over xs k) = (x : ℕ) → Memᴰ x xs → Closed L t (k x)
Closed L t (both p q) = Closed L t p × Closed L t q

-- every row that the rule names is one of the table's, and every label that it gives is below L
abbrev pub Fits : ℕ → Rule → Type 0
Fits L none = Unit {0}
Fits L (give y m) = InTable L y × (m < L)
Fits L (include y x) = InTable L y × InTable L x
Fits L (each x k) = InTable L x × ((m : ℕ) → m < L → Fits L (k m))
Fits L (over xs k) = (x : ℕ) → Memᴰ x xs → Fits L (k x)
Fits L (both p q) = Fits L p × Fits L q

-- what the rule derives from the start table t: a fact of t, or what one use of the rule tells of derived facts
pub data Derives (L : ℕ) (rule : Rule) (t : Table) : ℕ → ℕ → Type 0 where
  started : {r l : ℕ} → Has t r l → Derives L rule t r l
  follows : {r l : ℕ} (u : Table) → ((x m : ℕ) → Has u x m → Derives L rule t x m) → Told L u rule r l → Derives L rule t r l
