-- Rules as data. A rule says which labels a table's rows hold, given those that they hold already; what it means is in Told.antt,
-- and how it is used on a table in Round.antt. Assumes nothing.
use Rattle.std.specs.Prelude.{List, [], ◌∷◌, ◌++◌, Bool, true, false, ℕ, zero, suc}
use Rattle.rows.specs.Row.{Row}

pub data Rule : Type 0 where
  none : Rule  -- nothing
  give : Row → ℕ → Rule  -- the row holds the label
  include : Row → Row → Rule  -- the first row holds what the second holds
  each : Row → (ℕ → Rule) → Rule  -- the rule of l, for each label l that the row holds
  over : List ℕ → (ℕ → Rule) → Rule  -- the rule of x, for each number x of the list
  both : Rule → Rule → Rule  -- the one and the other

infixr 30 ◌also◌
abbrev pub ◌also◌ : Rule → Rule → Rule
◌also◌ a b = both a b

-- the rule, where the test holds
abbrev pub when : Bool → Rule → Rule
when true a = a
when false a = none

-- every rule of the list
abbrev pub every : List Rule → Rule
every [] = none
every (a ∷ rules) = a also every rules

-- the numbers below n that pass the test, lowest first
unfoldable pub chosen : (ℕ → Bool) → ℕ → List ℕ
chosen f zero = []
chosen f (suc n) = elim (f n) [ true ↦ chosen f n ++ (n ∷ []) | false ↦ chosen f n ]
