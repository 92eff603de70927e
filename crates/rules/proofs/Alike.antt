-- Rules that are used alike: one that says nothing can be left out of a list, and rules whose rounds are the same have the same least table.
-- Assumes nothing.
use mathlib.Core.Path.{◌≡◌, refl, ap, ◌∙◌}
use mathlib.Core.List.{List, [], ◌∷◌, ◌++◌}
use mathlib.Core.Bool.{Bool, true, false}
use Prim.Native.Nat.{ℕ, zero, suc}
use Rattle.rules.specs.Table.{Table}
use Rattle.rules.specs.Rule.{Rule, none, every}
use Rattle.rules.specs.Round.{fire, round, same_table, settle}
use Rattle.rules.specs.Gap.{gap_below}

pub fire-none : (L : ℕ) (t : Table) (xs ys : List Rule) (a : Table) → fire L t (every (xs ++ (none ∷ ys))) a ≡ fire L t (every (xs ++ ys)) a
unfolding fire
fire-none L t [] ys a = refl
fire-none L t (x ∷ xs) ys a = fire-none L t xs ys (fire L t x a)

pub gap-none : (L : ℕ) (t : Table) (xs ys : List Rule) (a : ℕ) → gap_below L t (every (xs ++ (none ∷ ys))) a ≡ gap_below L t (every (xs ++ ys)) a
unfolding gap_below
gap-none L t [] ys a = refl
gap-none L t (x ∷ xs) ys a = gap-none L t xs ys (gap_below L t x a)

-- rules whose rounds are the same settle in the same table
pub settle-same : (L : ℕ) (a b : Rule) → ((t : Table) → round L a t ≡ round L b t) → (n : ℕ) (t : Table) → settle n L a t ≡ settle n L b t
unfolding settle
settle-same L a b h zero t = refl
settle-same L a b h (suc n) t = ap again (h t) ∙ go (round L b t) (same_table (round L b t) t) (settle-same L a b h n (round L b t))
  where
    again : Table → Table
    again u = elim (same_table u t) [ true ↦ t | false ↦ settle n L a u ]

    go : (u : Table) (c : Bool) → settle n L a u ≡ settle n L b u
        → ◌≡◌ {A = Table} (elim c [ true ↦ t | false ↦ settle n L a u ]) (elim c [ true ↦ t | false ↦ settle n L b u ])
    go u true e = refl
    go u false e = e
