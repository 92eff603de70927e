-- What closes the check: the lowest row in which the second table holds more than the first is the gap. Assumes nothing.
use mathlib.Core.Path.{◌≡◌, refl, sym, ◌∙◌, subst}
use Rattle.std.specs.Prelude.{Option, None, Some}
use Rattle.std.specs.Option.{unwrap_or}
use mathlib.Core.Logic.{◌⊎◌, inl, inr}
use mathlib.Core.Bool.{Bool}
use mathlib.Core.List.{List}
use Prim.Native.Nat.{ℕ, ◌≤◌, ◌<◌}
use native.Mathlib.Decide.{dec_lt}
use native.Mathlib.Omega.{arith}
use Rattle.rows.specs.Edition.{labels, word_count}
use Rattle.rows.specs.Row.{row_count}
use Rattle.rules.specs.Table.{Table, Has, Small}
use Rattle.rules.specs.Rule.{Rule}
use Rattle.rules.specs.Told.{Told, Fits}
use Rattle.rules.specs.Gap.{Enlarges, gap}
use Rattle.rules.proofs.Gap.{finds-gap}
use Rattle.format.specs.Sheet.{Sheet}
use Rattle.verdicts.specs.Check.{cleaned}
use Rattle.verdicts.proofs.Cleaned.{cleaned-small}
use Rattle.lent.specs.Table.{table_at}
use Rattle.uses.specs.Use.{tells, Used}
use Rattle.uses.proofs.Use.{reached-apart, apart-only}
use Rattle.cleaning.specs.Copies.{Both, SameBelow, GrownAt, Grown}

pub grown-gap : {wide : Bool} (p : Rule) → Fits (labels wide) p → {c : Table} {t u : List ℕ} (r : Option ℕ) {grew : Bool} → Small (labels wide) c → Both wide c t
    → Used wide (word_count wide) (tells wide p) t t u grew → Grown wide u r → unwrap_or r (row_count (labels wide)) ≡ gap (labels wide) c p
grown-gap {wide} p f {c} {t} {u} r small both used grown = go r grown
  where
    L : ℕ
    L = labels wide

    o : ℕ
    o = word_count wide

    -- the first table is c still
    stays : table_at wide 0 u ≡ c
    stays = reached-apart (omega arith) used.only ∙ both.first

    held : (q l : ℕ) → Has (table_at wide 0 u) q l → Has c q l
    held q l h = subst (λ (x : Table). Has x q l) stays h

    added : (q l : ℕ) → Has (table_at wide o u) q l → Has c q l ⊎ Told L c p q l
    added q l h = go (apart-only (omega arith) used.only q l h)
      where
        go : Has (table_at wide o t) q l ⊎ Told L (table_at wide 0 t) p q l → Has c q l ⊎ Told L c p q l
        go (inl a) = inl (subst (λ (x : Table). Has x q l) both.second a)
        go (inr a) = inr (subst (λ (x : Table). Told L x p q l) both.first a)

    found : (r : ℕ) → GrownAt wide u r → Enlarges L c p r
    found r g = go (added r m.0 m.1)
      where
        m : (l : ℕ) × Has (table_at wide o u) r l × (Has (table_at wide 0 u) r l → ⊥)
        m = g.here

        lacks : Has c r m.0 → ⊥
        lacks h = m.2 (subst (λ (x : Table). Has x r m.0) (sym stays) h)

        go : Has c r m.0 ⊎ Told L c p r m.0 → Enlarges L c p r
        go (inl a) = absurd (lacks a)
        go (inr a) = (m.0, a, lacks)

    lowest : (r : ℕ) → SameBelow wide u r → (q : ℕ) → Enlarges L c p q → Dec (q < r) → r ≤ q
    lowest r below q e (no d) = omega (arith, d)
    lowest r below q e (yes h) =
        let told : Told L (table_at wide 0 t) p q e.0 = subst (λ (x : Table). Told L x p q e.0) (sym both.first) e.1 in
        absurd (e.2 (held q e.0 (below q e.0 h (used.all q e.0 told))))

    go : (r : Option ℕ) → Grown wide u r → unwrap_or r (row_count L) ≡ gap L c p
    go None g = finds-gap L c small p f (row_count L) (record { not-higher = omega arith; found = inl refl; lowest = λ q e. lowest (row_count L) g q e (dec_lt q (row_count L)) })
    go (Some r) g = finds-gap L c small p f r (record { not-higher = omega (arith, g.bound); found = inr (found r g); lowest = λ q e. lowest r g.below q e (dec_lt q r) })

-- of the given table, cleaned
pub cleaned-gap : {wide : Bool} (p : Rule) → Fits (labels wide) p → (s : Sheet) (given : Table) {t u : List ℕ} (r : Option ℕ) {grew : Bool}
    → Both wide (cleaned (labels wide) s given) t → Used wide (word_count wide) (tells wide p) t t u grew → Grown wide u r
    → unwrap_or r (row_count (labels wide)) ≡ gap (labels wide) (cleaned (labels wide) s given) p
cleaned-gap {wide} p f s given r both used grown = grown-gap p f r (cleaned-small (labels wide) s given) both used grown
