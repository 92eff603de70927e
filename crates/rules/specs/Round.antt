-- Rules used on a table: one round, in which every rule reads the table as it was when the round began, and rounds until one
-- changes nothing. These definitions are computed on closed files, hence the care about words that do not change. Assumes nothing.
use Rattle.std.specs.Prelude.{List, [], ◌∷◌, Bool, true, false, ℕ, zero, suc, ◌*◌, ◌/◌, ◌%◌, ◌^◌, eqb, get_or, set}
use Rattle.words.specs.Words.{union}
use Rattle.rows.specs.Row.{number, row_count}
use Rattle.rules.specs.Table.{Table}
use Rattle.rules.specs.Rule.{Rule, none, give, include, each, over, both}

-- i and then xs, where the bit b is set
abbrev pub keep : ℕ → ℕ → List ℕ → List ℕ
keep zero i xs = xs
keep (suc b) i xs = i ∷ xs

-- the places of the bits that are set among the d lowest of w, counted from i
unfoldable pub places : ℕ → ℕ → ℕ → List ℕ
places zero i w = []
places (suc d) i zero = []
places (suc d) i (suc w) = keep (suc w % 2) i (places d (suc i) (suc w / 2))

-- the labels below d that the word holds, lowest first
unfoldable pub labels : ℕ → ℕ → List ℕ
unfolding places
labels d w = places d 0 w

-- row r set to v, where it is not v already
abbrev pub update : Table → ℕ → ℕ → Table
update a r v = elim (eqb v (get_or a r 0)) [ true ↦ a | false ↦ set a r v ]

-- row r with the labels of w added, and row 0 as it is
unfoldable pub join : ℕ → ℕ → Table → Table
unfolding union
join zero w a = a
join (suc r) zero a = a
join (suc r) (suc w) a = update a (suc r) (union (suc w) (get_or a (suc r) 0))

-- a step for each number of a list, from the left
abbrev pub fold_over : {A : Type 0} → (ℕ → A → A) → List ℕ → A → A
fold_over f [] a = a
fold_over f (x ∷ xs) a = fold_over f xs (f x a)

-- every conclusion that the rule draws from t, added to a
unfoldable pub fire : ℕ → Table → Rule → Table → Table
unfolding labels join
fire L t none a = a
fire L t (give y m) a = join (number L y) (2 ^ m) a
fire L t (include y x) a = join (number L y) (get_or t (number L x) 0) a
fire L t (each x k) a = fold_over (λ m b. fire L t (k m) b) (labels L (get_or t (number L x) 0)) a
fire L t (over xs k) a = fold_over (λ x b. fire L t (k x) b) xs a
fire L t (both p q) a = fire L t q (fire L t p a)

-- one use of the rule on t, added to t
unfoldable pub round : ℕ → Rule → Table → Table
unfolding fire
round L rule t = fire L t rule t

-- n rounds
unfoldable pub rounds : ℕ → ℕ → Rule → Table → Table
unfolding round
rounds zero L rule t = t
rounds (suc n) L rule t = rounds n L rule (round L rule t)

-- the two tables are equal
abbrev pub same_table : Table → Table → Bool
same_table [] [] = true
same_table [] (y ∷ ys) = false
same_table (x ∷ xs) [] = false
same_table (x ∷ xs) (y ∷ ys) = elim (eqb x y) [ true ↦ same_table xs ys | false ↦ false ]

-- rounds until one changes nothing, at most n
unfoldable pub settle : ℕ → ℕ → Rule → Table → Table
unfolding round
settle zero L rule t = t
settle (suc n) L rule t = let u = round L rule t in elim (same_table u t) [ true ↦ t | false ↦ settle n L rule u ]

-- so many rounds are enough: there is room for L facts in each row, and a round that changes something adds a fact
abbrev pub enough_rounds : ℕ → ℕ
enough_rounds L = L * row_count L

-- the least table that holds t and all that the rule says of it
unfoldable pub least_above : ℕ → Rule → Table → Table
unfolding settle
least_above L rule t = settle (enough_rounds L) L rule t
