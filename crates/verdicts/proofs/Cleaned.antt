-- The cleaned table holds of the given one the facts of declared labels in the rows from 1 up, and no others. Assumes nothing.
use mathlib.Core.Path.{◌≡◌, refl, sym, ap, subst, ◌∙◌}
use mathlib.Core.Logic.{◌⊎◌, inl, inr}
use mathlib.Core.List.{[], ◌∷◌}
use mathlib.Core.Bool.{Bool, true, false, cond, true≢false}
use Prim.Native.Nat.{ℕ, zero, suc, ◌+◌, ◌^◌, ◌<◌, ◌≤◌}
use native.Mathlib.Decide.{dec_lt, ℕ_discrete}
use native.Mathlib.Omega.{arith}
use lib.ListN.{get_or, take, drop, length-take, get_or-eq_default}
use lib.Seq.{get_or-take, get_or-drop}
use lib.Bits.{bit_and, and_le_r}
use lib.Pow.{pow_pos, pow-lt}
use Rattle.words.specs.Words.{union}
use Rattle.words.proofs.Laws.{union-lt}
use Rattle.words.proofs.Bits.{On, empty-off, on-left, on-right, on-union, on-single, single-only}
use Rattle.rows.specs.Row.{row_count}
use Rattle.rules.specs.Table.{Table, Has, Small}
use Rattle.format.specs.Sheet.{Sheet, declared}
use Rattle.analysis.proofs.Stated.{Declared}
use Rattle.analysis.proofs.Held.{on_both}
use Rattle.verdicts.specs.Check.{declared_word, masked, cleaned, Counts}

-- ---- the word of the declared labels

pub word-declared : (L : ℕ) (s : Sheet) (l : ℕ) → On (declared_word L s) l → (l < L) × Declared s l
unfolding declared_word
word-declared zero s l o = absurd (empty-off l o)
word-declared (suc k) s l o = go (declared s k) refl o (word-declared k s l)
  where
    go : (b : Bool) → declared s k ≡ b → On (cond b (union (declared_word k s) (2 ^ k)) (declared_word k s)) l
        → (On (declared_word k s) l → (l < k) × Declared s l) → (l < suc k) × Declared s l
    go false e q rest = let r = rest q in (omega (arith, r.0), r.1)
    go true e q rest = either (on-union (declared_word k s) (2 ^ k) l q)
      where
        either : On (declared_word k s) l ⊎ On (2 ^ k) l → (l < suc k) × Declared s l
        either (inl a) = let r = rest a in (omega (arith, r.0), r.1)
        either (inr a) = let same = single-only k l a in (omega arith, subst (Declared s) (sym same) e)

pub declared-word : (L : ℕ) (s : Sheet) (l : ℕ) → l < L → Declared s l → On (declared_word L s) l
unfolding declared_word
declared-word zero s l h d = absurd (omega arith)
declared-word (suc k) s l h d = go (declared s k) refl (ℕ_discrete l k) (λ i. declared-word k s l i d)
  where
    go : (b : Bool) → declared s k ≡ b → Dec (l ≡ k) → (l < k → On (declared_word k s) l)
        → On (cond b (union (declared_word k s) (2 ^ k)) (declared_word k s)) l
    go true e (yes q) rest = on-right (declared_word k s) (2 ^ k) l (subst (On (2 ^ k)) (sym q) (on-single k))
    go true e (no q) rest = on-left (declared_word k s) (2 ^ k) l (rest (omega arith))
    go false e (yes q) rest = absurd (true≢false (sym d ∙ ap (declared s) q ∙ e))
    go false e (no q) rest = rest (omega arith)

pub word_below : (L : ℕ) (s : Sheet) → declared_word L s < 2 ^ L
unfolding declared_word
word_below zero s = omega arith
word_below (suc k) s = go (declared s k) (word_below k s)
  where
    go : (b : Bool) → declared_word k s < 2 ^ k → cond b (union (declared_word k s) (2 ^ k)) (declared_word k s) < 2 ^ suc k
    go true h = let q : 2 ^ k < 2 ^ suc k = pow-lt (omega arith) in union-lt (suc k) (declared_word k s) (2 ^ k) (omega arith) q
    go false h = let q : 2 ^ k < 2 ^ suc k = pow-lt (omega arith) in omega arith

-- ---- the table

masked_row : (w : ℕ) (t : Table) (r : ℕ) → get_or (masked w t) r 0 ≡ bit_and (get_or t r 0) w
unfolding masked
masked_row w [] r = refl
masked_row w (x ∷ t) zero = refl
masked_row w (x ∷ t) (suc r) = masked_row w t r

-- row r of the rows from 1 on
rows_at : (L : ℕ) (t : Table) (r : ℕ) → suc r < row_count L → get_or (drop 1 (take (row_count L) t)) r 0 ≡ get_or t (suc r) 0
rows_at L t r h =
    let e : 1 + r ≡ suc r = omega arith in
    get_or-drop 1 (take (row_count L) t) r 0 ∙ get_or-take (row_count L) t (1 + r) 0 (omega arith) ∙ ap (λ (n : ℕ). get_or t n 0) e

beyond-rows : (L : ℕ) (t : Table) (r : ℕ) → row_count L ≤ suc r → get_or (drop 1 (take (row_count L) t)) r 0 ≡ 0
beyond-rows L t r h =
    get_or-drop 1 (take (row_count L) t) r 0 ∙ get_or-eq_default (take (row_count L) t) 0 {n = 1 + r} (rw length-take (omega arith))

-- the cleaned table has exactly the facts that count
pub cleaned-has : (L : ℕ) (s : Sheet) (t : Table) (r l : ℕ) → Counts L s t r l → Has (cleaned L s t) r l
unfolding cleaned
cleaned-has L s t zero l c = absurd (omega (arith, c.positive))
cleaned-has L s t (suc r) l c =
    rw (masked_row (declared_word L s) (drop 1 (take (row_count L) t)) r, rows_at L t r c.row)
    ((on_both (get_or t (suc r) 0) (declared_word L s) l).1 (c.given, declared-word L s l c.label c.declared-label))

pub has-cleaned : (L : ℕ) (s : Sheet) (t : Table) (r l : ℕ) → Has (cleaned L s t) r l → Counts L s t r l
unfolding cleaned
has-cleaned L s t zero l h = absurd (empty-off l h)
has-cleaned L s t (suc r) l h = go (dec_lt (suc r) (row_count L))
  where
    both-on : On (get_or (drop 1 (take (row_count L) t)) r 0) l × On (declared_word L s) l
    both-on = (on_both (get_or (drop 1 (take (row_count L) t)) r 0) (declared_word L s) l).0 (rw (masked_row (declared_word L s) (drop 1 (take (row_count L) t)) r) at h)

    go : Dec (suc r < row_count L) → Counts L s t (suc r) l
    go (yes i) =
        let d = word-declared L s l both-on.1 in
        record { positive = omega arith; row = i; declared-label = d.1; label = d.0; given = rw (rows_at L t r i) at both-on.0 }
    go (no i) = absurd (empty-off l (rw (beyond-rows L t r (omega arith)) at both-on.0))

pub cleaned-small : (L : ℕ) (s : Sheet) (t : Table) → Small L (cleaned L s t)
unfolding cleaned
cleaned-small L s t zero = pow_pos L
cleaned-small L s t (suc r) =
    rw (masked_row (declared_word L s) (drop 1 (take (row_count L) t)) r)
    (omega (arith, and_le_r (get_or (drop 1 (take (row_count L) t)) r 0) (declared_word L s), word_below L s))
