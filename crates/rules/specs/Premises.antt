-- From which facts a rule says a fact: the sets of premises, in the order of the rule's own loops. Assumes nothing.
use Rattle.std.specs.Prelude.{List, [], ◌∷◌, ◌++◌, Bool, true, false, ◌&&◌, ℕ, eqb, ltb, get_or}
use Rattle.words.specs.Words.{bit}
use Rattle.rows.specs.Row.{number}
use Rattle.rules.specs.Table.{Table, Has}
use Rattle.rules.specs.Rule.{Rule, none, give, include, each, over, both}
use Rattle.rules.specs.Round.{labels}

-- facts (row, label), which are premises together
abbrev pub PremiseSet : Type 0
PremiseSet = List (ℕ × ℕ)

-- the table holds every one of them
abbrev pub AllHeld : Table → PremiseSet → Type 0
AllHeld t [] = Unit {0}
AllHeld t (f ∷ fs) = Has t f.0 f.1 × AllHeld t fs

-- these sets, where the test holds
abbrev pub only_if : Bool → List PremiseSet → List PremiseSet
only_if true xs = xs
only_if false xs = []

-- each of the sets with one fact more, in front
abbrev pub after : ℕ × ℕ → List PremiseSet → List PremiseSet
after f [] = []
after f (x ∷ xs) = (f ∷ x) ∷ after f xs

-- the sets of each number of the list, one after another
abbrev pub gather : (ℕ → List PremiseSet) → List ℕ → List PremiseSet
gather f [] = []
gather f (x ∷ xs) = f x ++ gather f xs

-- the sets of facts of t from which one use of the rule says that row r holds label l
unfoldable pub premises : ℕ → Table → Rule → ℕ → ℕ → List PremiseSet
unfolding labels bit
premises L t none r l = []
premises L t (give y m) r l = only_if (ltb 0 (number L y) && (eqb r (number L y) && eqb l m)) ([] ∷ [])
premises L t (include y x) r l =
    only_if (ltb 0 (number L y) && (eqb r (number L y) && eqb (bit (get_or t (number L x) 0) l) 1)) (((number L x, l) ∷ []) ∷ [])
premises L t (each x k) r l = gather (λ m. after (number L x, m) (premises L t (k m) r l)) (labels L (get_or t (number L x) 0))
premises L t (over xs k) r l = gather (λ x. premises L t (k x) r l) xs
premises L t (both p q) r l = premises L t p r l ++ premises L t q r l
