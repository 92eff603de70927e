-- Laws of the two cleaned tables: the declared labels, one row more of both, and all rows. Assumes nothing.
use mathlib.Core.Path.{◌≡◌, refl, sym, ap, ◌∙◌, subst}
use mathlib.Core.Logic.{inl, inr}
use mathlib.Core.Bool.{Bool, true, false, cond, not}
use mathlib.Core.List.{List, [], ◌∷◌}
use Prim.Native.Nat.{ℕ, zero, suc, ◌+◌, ◌*◌, ◌^◌, ◌≤◌, ◌<◌}
use native.Mathlib.Decide.{ℕ_discrete}
use borrow.Author.Tests.{eq-eqb, ne_eqb}
use native.Mathlib.Numerals.{add-one}
use native.Mathlib.Omega.{arith}
use lib.Bits.{bit_and}
use lib.Dec.{eqb}
use lib.ListN.{length, get_or, set, take, drop, length-drop}
use lib.Seq.{ext_get_or, get_or-set_same, get_or-set_other, get_or-take, get_or-drop, take_all}
use Rattle.words.specs.Words.{union}
use Rattle.rows.specs.Edition.{labels, words, word_count}
use Rattle.rows.specs.Row.{row_count}
use Rattle.rules.specs.Table.{Table}
use Rattle.rows.specs.Run.{number, rows_of}
use Rattle.format.specs.Sheet.{Sheet}
use Rattle.verdicts.specs.Check.{declared_word, masked, cleaned}
use Rattle.lent.specs.Table.{table_at, place}
use Rattle.lent.specs.Stored.{Stored}
use Rattle.rows.proofs.Run.{view-same}
use Rattle.lent.proofs.Views.{view-stored}
use Rattle.uses.proofs.Rows.{row_is}
use Rattle.whole.proofs.Tables.{table-length}
use Rattle.whole.proofs.Rows.{table-rows}
use Rattle.cleaning.specs.Copies.{Both, BothStored}

-- ---- the declared labels

-- w has those below l
abbrev pub DeclaresBelow : Bool → List ℕ → ℕ → ℕ → Type 0
DeclaresBelow wide types l w = (s : Sheet) → s.types ≡ take (labels wide) types → w ≡ declared_word l s

pub declares-none : {w : ℕ} (wide : Bool) (types : List ℕ) → w ≡ 0 → DeclaresBelow wide types 0 w
unfolding declared_word
declares-none wide types e s is = e

declares-next : {v : ℕ} (wide : Bool) (types : List ℕ) (l w : ℕ) → l < labels wide
    → v ≡ cond (not (eqb (get_or types l 0) 0)) (union w (2 ^ l)) w → DeclaresBelow wide types l w → DeclaresBelow wide types (l + 1) v
unfolding declared_word
declares-next {v} wide types l w h e below s is =
    let kind : get_or s.types l 0 ≡ get_or types l 0 = ap (λ (x : List ℕ). get_or x l 0) is ∙ get_or-take (labels wide) types l 0 h in
    rw (add-one, kind) (e ∙ ap (λ (x : ℕ). cond (not (eqb (get_or types l 0) 0)) (union x (2 ^ l)) x) (below s is))

pub declares-here : {v x : ℕ} (wide : Bool) (types : List ℕ) (l w : ℕ) → l < labels wide → (get_or types l 0 ≡ 0 → ⊥) → x ≡ 2 ^ l → v ≡ union w x
    → DeclaresBelow wide types l w → DeclaresBelow wide types (l + 1) v
declares-here wide types l w h some e u = declares-next wide types l w h (rw (ne_eqb (get_or types l 0) 0 some, ← e) u)

pub declares-over : (wide : Bool) (types : List ℕ) (l w : ℕ) → l < labels wide → get_or types l 0 ≡ 0 → DeclaresBelow wide types l w
    → DeclaresBelow wide types (l + 1) w
declares-over wide types l w h none = declares-next wide types l w h (rw (eq-eqb (get_or types l 0) 0 none))

-- ---- both tables at once

tables-apart : (wide : Bool) (r : ℕ) → r < row_count (labels wide) → 0 + words wide * r + words wide ≤ word_count wide
tables-apart true r h = omega arith
tables-apart false r h = omega arith

-- the row of the one, and then that of the other
pub both_stored : {v : ℕ} {t u x : List ℕ} (wide : Bool) (o r : ℕ) → o ≡ word_count wide → r < row_count (labels wide)
    → Stored (words wide) (place wide 0 r) v t u → Stored (words wide) (place wide o r) v u x → BothStored wide r v t x
both_stored {v} {t} {u} {x} wide o r e h one other =
    record {
      same_length = other.same_length ∙ one.same_length;
      first =
          view-same (words wide) n 0 u x (λ i a b. other.apart i (inl (omega (arith, e, b)))) ∙ view-stored n 0 r h one;
      second =
          subst (λ (o : ℕ). table_at wide o x ≡ set (table_at wide o u) r v) e (view-stored n o r h other)
          ∙ ap (λ (a : Table). set a r v) (view-same (words wide) n (word_count wide) t u (λ i a b. one.apart i (inr (omega (arith, a, tables-apart wide r h)))));
    }
  where
    n : ℕ
    n = row_count (labels wide)

-- ---- row by row

-- row r of the cleaned table
abbrev pub cleaned_row : ℕ → Table → ℕ → ℕ
cleaned_row w t zero = 0
cleaned_row w t (suc r) = bit_and (get_or t (suc r) 0) w

-- the rows below r of both tables are those of the given one, cleaned
pub record CleansBelow (wide : Bool) (w : ℕ) (given : Table) (r : ℕ) (u : List ℕ) : Type 0 where
  pub first : (q : ℕ) → q < r → get_or (table_at wide 0 u) q 0 ≡ cleaned_row w given q
  pub second : (q : ℕ) → q < r → get_or (table_at wide (word_count wide) u) q 0 ≡ cleaned_row w given q

set_next : (a b : Table) (f : ℕ → ℕ) (r v : ℕ) → r < length a → b ≡ set a r v → v ≡ f r → ((q : ℕ) → q < r → get_or a q 0 ≡ f q)
    → (q : ℕ) → q < r + 1 → get_or b q 0 ≡ f q
set_next a b f r v long e is below q h = rw e (go (ℕ_discrete q r))
  where
    go : Dec (q ≡ r) → get_or (set a r v) q 0 ≡ f q
    go (yes s) = rw s (get_or-set_same a r v 0 long ∙ is)
    go (no d) = get_or-set_other a r q v 0 d ∙ below q (omega (arith, d))

cleans_more : {w v : ℕ} {given : Table} {t u : List ℕ} (wide : Bool) (r : ℕ) → r < row_count (labels wide) → v ≡ cleaned_row w given r
    → BothStored wide r v t u → CleansBelow wide w given r t → CleansBelow wide w given (r + 1) u
cleans_more {w} {v} {given} {t} {u} wide r h e st below =
    record {
      first = set_next (table_at wide 0 t) (table_at wide 0 u) (cleaned_row w given) r v (rw (table-length wide 0 t) h) st.first e below.first;
      second =
          set_next (table_at wide o t) (table_at wide o u) (cleaned_row w given) r v (rw (table-length wide o t) h) st.second e below.second;
    }
  where
    o : ℕ
    o = word_count wide

row_zero : (wide : Bool) → 0 < row_count (labels wide)
row_zero wide = omega arith

pub cleans-first : {w v : ℕ} {given : Table} {t u : List ℕ} (wide : Bool) → v ≡ 0 → BothStored wide 0 v t u → CleansBelow wide w given 1 u
cleans-first wide e st = cleans_more wide 0 (row_zero wide) e st (record { first = λ q h. absurd (omega arith); second = λ q h. absurd (omega arith) })

pub cleans-next : {w v x : ℕ} {t u : List ℕ} (wide : Bool) (given : List ℕ) (r : ℕ) → 1 ≤ r → r < row_count (labels wide)
    → x ≡ number (words wide) given (place wide 0 r) → v ≡ bit_and x w → BothStored wide r v t u → CleansBelow wide w (table_at wide 0 given) r t
    → CleansBelow wide w (table_at wide 0 given) (r + 1) u
cleans-next {w} {v} {x} wide given r z h is e st below = cleans_more wide r h (row r z (row_is wide 0 given r h is)) st below
  where
    row : (r : ℕ) → 1 ≤ r → x ≡ get_or (table_at wide 0 given) r 0 → v ≡ cleaned_row w (table_at wide 0 given) r
    row zero z i = absurd (omega arith)
    row (suc r) z i = e ∙ ap (λ (y : ℕ). bit_and y w) i

-- ---- all rows

masked-length : (w : ℕ) (t : Table) → length (masked w t) ≡ length t
unfolding masked
masked-length w [] = refl
masked-length w (x ∷ t) = ap suc (masked-length w t)

masked_row : (w : ℕ) (t : Table) (r : ℕ) → get_or (masked w t) r 0 ≡ bit_and (get_or t r 0) w
unfolding masked
masked_row w [] r = refl
masked_row w (x ∷ t) zero = refl
masked_row w (x ∷ t) (suc r) = masked_row w t r

cleaned-length : (L : ℕ) (s : Sheet) (t : Table) → length t ≡ row_count L → length (cleaned L s t) ≡ row_count L
unfolding cleaned
cleaned-length L s t e =
    let all = take_all (row_count L) t (omega (arith, e)) in
    let n = masked-length (declared_word L s) (drop 1 (take (row_count L) t)) ∙ ap (λ (x : Table). length (drop 1 x)) all ∙ length-drop 1 t in
    omega (arith, n, e)

cleaned-row : (L : ℕ) (s : Sheet) (t : Table) → length t ≡ row_count L → (r : ℕ) → get_or (cleaned L s t) r 0 ≡ cleaned_row (declared_word L s) t r
unfolding cleaned
cleaned-row L s t e zero = refl
cleaned-row L s t e (suc r) =
    let all = take_all (row_count L) t (omega (arith, e)) in
    let next : 1 + r ≡ suc r = omega arith in
    masked_row (declared_word L s) (drop 1 (take (row_count L) t)) r
    ∙ ap (λ (x : ℕ). bit_and x (declared_word L s)) (ap (λ (x : Table). get_or (drop 1 x) r 0) all ∙ get_or-drop 1 t r 0 ∙ ap (λ (i : ℕ). get_or t i 0) next)

pub cleans-all : {w : ℕ} {u : List ℕ} (wide : Bool) (given : List ℕ) (r : ℕ) → r ≡ row_count (labels wide)
    → CleansBelow wide w (table_at wide 0 given) r u → (s : Sheet) → w ≡ declared_word (labels wide) s
    → Both wide (cleaned (labels wide) s (table_at wide 0 given)) u
cleans-all {w} {u} wide given r e below s is =
    record { first = same 0 below.first; second = same (word_count wide) below.second }
  where
    L : ℕ
    L = labels wide

    c : Table
    c = table_at wide 0 given

    same : (o : ℕ) → ((q : ℕ) → q < r → get_or (table_at wide o u) q 0 ≡ cleaned_row w c q) → table_at wide o u ≡ cleaned L s c
    same o rows =
        ext_get_or 0 (table_at wide o u) (cleaned L s c) (table-length wide o u ∙ sym (cleaned-length L s c (table-length wide 0 given)))
        (λ q i. rows q (rw (table-length wide o u, ← e) at i) ∙ ap (λ (x : ℕ). cleaned_row x c q) is ∙ sym (cleaned-row L s c (table-length wide 0 given) q))

-- ---- rows beyond the table do not count

pub cleaned-rows : (wide : Bool) (s : Sheet) (t : List ℕ) → word_count wide ≤ length t
    → cleaned (labels wide) s (table_at wide 0 t) ≡ cleaned (labels wide) s (rows_of (words wide) t)
unfolding cleaned
cleaned-rows wide s t h =
    ap (λ (x : Table). 0 ∷ masked (declared_word (labels wide) s) (drop 1 x))
    (take_all (row_count (labels wide)) (table_at wide 0 t) (rw (table-length wide 0 t) (omega arith)) ∙ sym (table-rows wide t h))
