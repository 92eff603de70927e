-- Tables in the lent words: their rows are sets of the edition's labels, and where the words are 0 the table is empty. Assumes nothing.
use mathlib.Core.Path.{◌≡◌, refl, ap, ap₂, ◌∙◌}
use mathlib.Core.Bool.{Bool, true, false}
use mathlib.Core.List.{List, ◌∷◌, ◌++◌}
use Prim.Native.Nat.{ℕ, zero, suc, ◌+◌, ◌-◌, ◌*◌, ◌^◌, ◌≤◌, ◌<◌}
use native.Mathlib.Decide.{dec_lt}
use native.Mathlib.Omega.{arith}
use lib.ListN.{length, get_or, take, drop, replicate, length-append, length-drop, length-take, length-replicate, get_or-append, get_or-eq_default}
use lib.Seq.{get_or-append_right, get_or-drop}
use Rattle.std.proofs.lemmas.List.{get_or-replicate}
use lib.Pow.{pow_pos}
use Rattle.rows.specs.Edition.{labels, words, word_count}
use Rattle.rows.specs.Row.{row_count}
use Rattle.rules.specs.Table.{Small, Shaped}
use Rattle.rows.specs.Run.{Words, number, view}
use Rattle.sets.proofs.Values.{word-labels}
use Rattle.lent.specs.Table.{table_at}
use Rattle.rows.proofs.Run.{number_lt, view-length, view-row}
use Rattle.whole.specs.Cleared.{Cleared}

-- ---- rows are sets of labels

pub table-length : (wide : Bool) (o : ℕ) (t : List ℕ) → length (table_at wide o t) ≡ row_count (labels wide)
table-length wide o t = view-length (words wide) (row_count (labels wide)) o t

pub table-past : (wide : Bool) (o : ℕ) (t : List ℕ) (r : ℕ) → row_count (labels wide) ≤ r → get_or (table_at wide o t) r 0 ≡ 0
table-past wide o t r h = get_or-eq_default (table_at wide o t) 0 (rw (table-length wide o t) h)

pub table-small : (wide : Bool) (o : ℕ) (t : List ℕ) → Words t → Small (labels wide) (table_at wide o t)
table-small wide o t s r = go (dec_lt r (row_count (labels wide)))
  where
    go : Dec (r < row_count (labels wide)) → get_or (table_at wide o t) r 0 < 2 ^ labels wide
    go (yes i) =
        rw (view-row (words wide) (row_count (labels wide)) o t r i, ← word-labels wide) (number_lt (words wide) t (o + words wide * r) s)
    go (no d) = rw (table-past wide o t r (omega (arith, d))) (pow_pos (labels wide))

pub table-shaped : (wide : Bool) (o : ℕ) (t : List ℕ) → Small (labels wide) (table_at wide o t) → Shaped (labels wide) (table_at wide o t)
table-shaped wide o t s = record { long = rw (table-length wide o t) (omega arith); small = s }

-- ---- words that are 0

number-none : (k : ℕ) (t : List ℕ) (i : ℕ) → ((m : ℕ) → i ≤ m → m < i + k → get_or t m 0 ≡ 0) → number k t i ≡ 0
unfolding number
number-none zero t i h = refl
number-none (suc k) t i h =
    let a = number-none k t (i + 1) (λ m p q. h m (omega arith) (omega arith)) in
    let b = h i (omega arith) (omega arith) in
    omega (arith, a, b)

view-none : (k n o : ℕ) (t : List ℕ) → ((i : ℕ) → o ≤ i → i < o + k * n → get_or t i 0 ≡ 0) → view k n o t ≡ replicate n 0
unfolding view
view-none k zero o t h = refl
view-none k (suc n) o t h =
    ap₂ ◌∷◌ (number-none k t o (λ m p q. h m p (omega arith))) (view-none k n (o + k) t (λ i a b. h i (omega arith) (omega arith)))

-- what clearing the first n words leaves: xs and the words beyond
pub cleared : (wide : Bool) (t xs : List ℕ) {n : ℕ} → n ≡ word_count wide → n ≤ length t → xs ≡ replicate (length (take n t)) 0 → Cleared wide t (xs ++ drop n t)
cleared wide t xs {n} e room is =
    record {
      same_length = omega (arith, length-append xs (drop n t), length-drop n t, long);
      none = view-none (words wide) (row_count (labels wide)) 0 (xs ++ drop n t) (λ j a b. zero j (omega (arith, b, e)));
      beyond = λ i h. get_or-append_right xs (drop n t) i 0 (omega (arith, long, e, h)) ∙ get_or-drop n t (i - length xs) 0 ∙ ap (λ (m : ℕ). get_or t m 0) (back i (omega (arith, e, h)));
    }
  where
    size : length (take n t) ≡ n
    size = omega (arith, length-take n t)

    long : length xs ≡ n
    long = ap length is ∙ length-replicate (length (take n t)) 0 ∙ size

    zero : (j : ℕ) → j < n → get_or (xs ++ drop n t) j 0 ≡ 0
    zero j h =
        get_or-append xs (drop n t) 0 j (rw long h) ∙ ap (λ (ys : List ℕ). get_or ys j 0) is ∙ get_or-replicate (length (take n t)) j 0 0 (rw size h)

    back : (i : ℕ) → n ≤ i → n + (i - length xs) ≡ i
    back i h = omega (arith, long, h)
