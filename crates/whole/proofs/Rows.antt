-- The lent words as rows of the edition: the table at 0 is the first of them, and once it became x they are x and the rows beyond it as they were.
-- Assumes nothing.
use mathlib.Core.Path.{◌≡◌, refl, sym, ap, ap₂, ◌∙◌}
use mathlib.Core.Bool.{Bool, true, false}
use mathlib.Core.List.{List, ◌++◌}
use Prim.Native.Nat.{ℕ, ◌+◌, ◌-◌, ◌*◌, ◌≤◌, ◌<◌}
use native.Mathlib.Nat.{mul-le-mul_left}
use native.Mathlib.Omega.{arith}
use lib.ListN.{length, get_or, take, drop, length-drop}
use lib.Seq.{ext_get_or, get_or-take, get_or-drop, take_at, drop_at}
use Rattle.rows.specs.Edition.{labels, words, word_count}
use Rattle.rows.specs.Row.{row_count}
use Rattle.rows.specs.Run.{view, room_for, rows_of}
use Rattle.rows.proofs.Run.{view-length, view-add, view-same, room-less, room-enough}
use Rattle.lent.specs.Table.{table_at}

-- ---- rows of k words, the first a of them a table

module _ (k a : ℕ) (t : List ℕ) (room : a ≤ room_for k t) where
  abbrev more : ℕ
  more = room_for k t - a

  both : (u : List ℕ) → view k (room_for k t) 0 u ≡ view k a 0 u ++ view k more (0 + k * a) u
  both u = let e : room_for k t ≡ a + more = omega (arith, room) in ap (λ (n : ℕ). view k n 0 u) e ∙ view-add k a more 0 u

  pub first_rows : take a (rows_of k t) ≡ view k a 0 t
  first_rows = ap (take a) (both t) ∙ take_at (view k a 0 t) (view k more (0 + k * a) t) a (view-length k a 0 t)

  module _ (u x : List ℕ) (same : length u ≡ length t) (is : view k a 0 u ≡ x) (beyond : (i : ℕ) → k * a ≤ i → get_or u i 0 ≡ get_or t i 0) where
    pub same-room : room_for k u ≡ room_for k t
    same-room = rw same refl

    pub rows_left : rows_of k u ≡ x ++ drop a (rows_of k t)
    rows_left =
        ap (λ (n : ℕ). view k n 0 u) same-room ∙ both u
        ∙ ap₂ ◌++◌ is (view-same k more (0 + k * a) t u (λ i p q. beyond i (omega arith)) ∙ sym rest)
      where
        rest : drop a (rows_of k t) ≡ view k more (0 + k * a) t
        rest = ap (drop a) (both t) ∙ drop_at (view k a 0 t) (view k more (0 + k * a) t) a (view-length k a 0 t)

    pub rest-left : drop (k * room_for k t) u ≡ drop (k * room_for k t) t
    rest-left =
        let n = k * room_for k t in
        let far : k * a ≤ k * room_for k t = mul-le-mul_left k room in
        ext_get_or 0 (drop n u) (drop n t) (length-drop n u ∙ ap (λ (m : ℕ). m - n) same ∙ sym (length-drop n t))
        (λ i q. get_or-drop n u i 0 ∙ beyond (n + i) (omega (arith, far)) ∙ sym (get_or-drop n t i 0))

-- ---- the two editions

pub some_words : (wide : Bool) → 0 < words wide
some_words true = omega arith
some_words false = omega arith

pub short-rows : (wide : Bool) (t : List ℕ) → length t < word_count wide → length (rows_of (words wide) t) < row_count (labels wide)
short-rows wide t h = rw (view-length (words wide) (room_for (words wide) t) 0 t) (room-less (words wide) (row_count (labels wide)) t (some_words wide) h)

pub full-rows : (wide : Bool) (t : List ℕ) → word_count wide ≤ length t → row_count (labels wide) ≤ length (rows_of (words wide) t)
full-rows wide t h = rw (view-length (words wide) (room_for (words wide) t) 0 t) (room-enough (words wide) (row_count (labels wide)) t (some_words wide) h)

pub table-rows : (wide : Bool) (t : List ℕ) → word_count wide ≤ length t → take (row_count (labels wide)) (rows_of (words wide) t) ≡ table_at wide 0 t
table-rows wide t h = first_rows (words wide) (row_count (labels wide)) t (room-enough (words wide) (row_count (labels wide)) t (some_words wide) h)

-- row 1 of the lent rows is the table's
pub bag-row : (wide : Bool) (t : List ℕ) → word_count wide ≤ length t → get_or (table_at wide 0 t) 1 0 ≡ get_or (rows_of (words wide) t) 1 0
bag-row wide t h =
    ap (λ (x : List ℕ). get_or x 1 0) (sym (table-rows wide t h)) ∙ get_or-take (row_count (labels wide)) (rows_of (words wide) t) 1 0 (omega arith)
