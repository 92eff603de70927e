-- Tables: two tables with the same facts are equal, and how many facts a table holds. Assumes nothing.
use mathlib.Core.Path.{◌≡◌, refl, ap, ap₂, sym, ◌∙◌}
use mathlib.Core.List.{List, [], ◌∷◌, ◌++◌}
use Prim.Native.Nat.{ℕ, zero, suc, ◌+◌, ◌*◌, ◌≤◌, ◌<◌}
use native.Mathlib.Decide.{dec_lt}
use native.Mathlib.Numerals.{add-one}
use native.Mathlib.Omega.{arith}
use lib.ListN.{length, get_or, take, length-replicate, length-take, get_or-replicate, get_or-eq_default}
use lib.Seq.{take-suc, ext_get_or, get_or-take}
use lib.Pow.{pow_pos}
use Rattle.words.specs.Words.{count_below}
use Rattle.words.proofs.Laws.{count-le}
use Rattle.words.proofs.Bits.{empty-off, on_below, same-labels, subset-count, count-equal}
use Rattle.rows.specs.Row.{row_count}
use Rattle.rules.specs.Table.{Table, Has, Within, empty_table, Small, Shaped, total, facts}

pub has-label : (L : ℕ) (t : Table) → Small L t → (r l : ℕ) → Has t r l → l < L
has-label L t s r l h = on_below L (get_or t r 0) l (s r) h

-- ---- the same facts, the same table

-- a row of two tables with the same labels
pub same_row : (L : ℕ) (t u : Table) → Small L t → Small L u → (r : ℕ) → ((l : ℕ) → Has t r l → Has u r l)
    → ((l : ℕ) → Has u r l → Has t r l) → get_or t r 0 ≡ get_or u r 0
same_row L t u st su r a b = same-labels L (get_or t r 0) (get_or u r 0) (st r) (su r) a b

pub same-facts : (L : ℕ) (t u : Table) → length t ≡ length u → Small L t → Small L u → Within t u → Within u t → t ≡ u
same-facts L t u e st su a b = ext_get_or 0 t u e (λ r i. same_row L t u st su r (a r) (b r))

-- ---- the empty table

pub empty-row : (L r : ℕ) → get_or (empty_table L) r 0 ≡ 0
empty-row L r =
    elim (dec_lt r (row_count L)) [
      | yes i ↦ get_or-replicate (row_count L) r 0 0 i
      | no d ↦ get_or-eq_default (empty_table L) 0 (rw length-replicate (omega arith))
    ]

pub empty-has : (L r l : ℕ) → Has (empty_table L) r l → ⊥
empty-has L r l h = empty-off l (rw (empty-row L r) at h)

pub empty-shaped : (L : ℕ) → Shaped L (empty_table L)
empty-shaped L = record { long = rw length-replicate (omega arith); small = λ r. rw (empty-row L r) (pow_pos L) }

-- ---- the number of facts

total-room : (L : ℕ) (ws : List ℕ) → total L ws ≤ L * length ws
unfolding total
total-room L [] = omega arith
total-room L (w ∷ ws) = omega (arith, count-le w L, total-room L ws)

room-below : (L n m : ℕ) → n ≤ m → L * n ≤ L * m
room-below zero n m h = omega arith
room-below (suc L) n m h = omega (arith, room-below L n m h)

-- no table holds more than L facts a row
pub facts-room : (L : ℕ) (t : Table) → facts L t ≤ L * row_count L
unfolding facts
facts-room L t =
    omega (arith, total-room L (take (row_count L) t), room-below L (length (take (row_count L) t)) (row_count L) (rw length-take (omega arith)))

total-within : (L n : ℕ) (t u : Table) → length t ≡ length u → Within t u → total L (take n t) ≤ total L (take n u)
unfolding total
total-within L zero t u e w = omega arith
total-within L (suc n) [] [] e w = omega arith
total-within L (suc n) [] (y ∷ u) e w = omega arith
total-within L (suc n) (x ∷ t) [] e w = absurd (omega arith)
total-within L (suc n) (x ∷ t) (y ∷ u) e w =
    omega (arith, subset-count L x y (w 0), total-within L n t u (omega arith) (λ r l h. w (suc r) l h))

-- more facts, a larger number of them
pub facts-within : (L : ℕ) (t u : Table) → length t ≡ length u → Within t u → facts L t ≤ facts L u
unfolding facts
facts-within L t u e w = total-within L (row_count L) t u e w

total-equal : (L n : ℕ) (t u : Table) → length t ≡ length u → Small L t → Small L u → Within t u
    → total L (take n u) ≤ total L (take n t) → take n t ≡ take n u
unfolding total
total-equal L zero t u e st su w c = refl
total-equal L (suc n) [] [] e st su w c = refl
total-equal L (suc n) [] (y ∷ u) e st su w c = absurd (omega arith)
total-equal L (suc n) (x ∷ t) [] e st su w c = absurd (omega arith)
total-equal L (suc n) (x ∷ t) (y ∷ u) e st su w c =
    let up : Within t u = λ r l h. w (suc r) l h in
    let a = subset-count L x y (w 0) in
    let b = total-within L n t u (omega arith) up in
    ap₂ ◌∷◌ (count-equal L x y (st 0) (su 0) (w 0) (omega arith))
    (total-equal L n t u (omega arith) (λ r. st (suc r)) (λ r. su (suc r)) up (omega arith))

-- a table that holds t, differs from it and not beyond the rows, has more facts
pub facts-more : (L : ℕ) (t u : Table) → length t ≡ length u → Small L t → Small L u → Within t u
    → ((r : ℕ) → row_count L ≤ r → get_or u r 0 ≡ get_or t r 0) → (u ≡ t → ⊥) → facts L t < facts L u
unfolding facts
facts-more L t u e st su w past d = go (dec_lt (facts L t) (facts L u))
  where
    n : ℕ
    n = row_count L

    row : take n t ≡ take n u → (r : ℕ) → Dec (r < n) → get_or t r 0 ≡ get_or u r 0
    row p r (yes i) = sym (get_or-take n t r 0 i) ∙ ap (λ (s : Table). get_or s r 0) p ∙ get_or-take n u r 0 i
    row p r (no i) = sym (past r (omega arith))

    go : Dec (facts L t < facts L u) → facts L t < facts L u
    go (yes h) = h
    go (no h) =
        let p = total-equal L n t u e st su w (omega arith) in
        absurd (d (sym (ext_get_or 0 t u e (λ r i. row p r (dec_lt r n)))))

total-append : (L : ℕ) (xs ys : List ℕ) → total L (xs ++ ys) ≡ total L xs + total L ys
unfolding total
total-append L [] ys = omega arith
total-append L (x ∷ xs) ys = omega (arith, total-append L xs ys)

-- one row more, as a loop that counts goes on
pub total-none : (L : ℕ) (t : Table) → total L (take 0 t) ≡ 0
unfolding total
total-none L t = refl

pub total-next : (L r : ℕ) (t : Table) → r < length t → total L (take (r + 1) t) ≡ total L (take r t) + count_below (get_or t r 0) L
unfolding total
total-next L r t h =
    rw (add-one, take-suc t r 0, total-append) (omega arith)
