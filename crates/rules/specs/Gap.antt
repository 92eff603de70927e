-- The lowest row that one use of a rule would enlarge: what the check's refusal 10 names. No second table is made. Assumes nothing.
use Rattle.std.specs.Prelude.{◌≡◌, ◌⊎◌, Bool, true, false, not, ℕ, zero, suc, ◌^◌, ◌≤◌, min, eqb, get_or}
use Rattle.words.specs.Words.{union}
use Rattle.rows.specs.Row.{number, row_count}
use Rattle.rules.specs.Table.{Table, Has}
use Rattle.rules.specs.Rule.{Rule, none, give, include, each, over, both}
use Rattle.rules.specs.Told.{Told}
use Rattle.rules.specs.Round.{labels, fold_over}

-- one use of the rule on t would put a new label into row r
abbrev pub Enlarges : ℕ → Table → Rule → ℕ → Type 0
Enlarges L t rule r = (l : ℕ) × Told L t rule r l × (Has t r l → ⊥)

-- row y does not hold every label of w; row 0 takes none
unfoldable pub grows : ℕ → ℕ → Table → Bool
unfolding union
grows zero w t = false
grows (suc y) w t = not (eqb (union w (get_or t (suc y) 0)) (get_or t (suc y) 0))

-- the lower of y and a, where the test holds, else a
abbrev pub lower : Bool → ℕ → ℕ → ℕ
lower true y a = min y a
lower false y a = a

-- the lowest row that one use would enlarge, if it is below a, else a
unfoldable pub gap_below : ℕ → Table → Rule → ℕ → ℕ
unfolding labels grows
gap_below L t none a = a
gap_below L t (give y m) a = lower (grows (number L y) (2 ^ m) t) (number L y) a
gap_below L t (include y x) a = lower (grows (number L y) (get_or t (number L x) 0) t) (number L y) a
gap_below L t (each x k) a = fold_over (λ m b. gap_below L t (k m) b) (labels L (get_or t (number L x) 0)) a
gap_below L t (over xs k) a = fold_over (λ x b. gap_below L t (k x) b) xs a
gap_below L t (both p q) a = gap_below L t q (gap_below L t p a)

-- the lowest row that one use would enlarge, and the number of rows where there is none
unfoldable pub gap : ℕ → Table → Rule → ℕ
unfolding gap_below
gap L t rule = gap_below L t rule (row_count L)

-- b is the lowest row that one use of the rule on t would enlarge, if that is below a, else a: what code promises that looks
-- for the gap, in any order
pub record Finds (L : ℕ) (t : Table) (rule : Rule) (a b : ℕ) : Type 0 where
  pub not-higher : b ≤ a
  pub found : (b ≡ a) ⊎ Enlarges L t rule b
  pub lowest : (r : ℕ) → Enlarges L t rule r → b ≤ r
