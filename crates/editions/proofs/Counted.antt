-- Two tables with the same rows, the larger empty in all others, have as many facts. The rows are counted part by part: variables, properties, chains and
-- scopes; each part of the larger table is that of the smaller with empty rows behind it. Assumes nothing.
use mathlib.Core.Path.{◌≡◌, refl, sym, ap, ap₂, ◌∙◌}
use Prim.Native.Nat.{ℕ, zero, suc, ◌+◌, ◌-◌, ◌*◌, ◌/◌, ◌%◌, ◌^◌, ◌<◌, ◌≤◌}
use native.Mathlib.Decide.{dec_lt}
use native.Mathlib.Nat.{add-zero, add-suc, le_trans}
use native.Mathlib.Numerals.{add-one}
use native.Mathlib.Omega.{arith}
use lib.Count.{count_trailing_zeros}
use lib.ListN.{length, get_or, take}
use lib.Pow.{pow_mono}
use Rattle.words.specs.Words.{bit, count_below}
use Rattle.words.proofs.Laws.{Lowest, lowest, ones-count}
use Rattle.rows.specs.Row.{Row, variable, property, chain, thrown, number, row_count, InTable}
use Rattle.rules.specs.Table.{Table, Small, total, facts}
use Rattle.rules.proofs.Table.{total-none, total-next}

-- ---- words

-- a word below 2 ^ L has no label from L up to count
count-wide : (L M w : ℕ) → L ≤ M → w < 2 ^ L → count_below w M ≡ count_below w L
count-wide L M w h small = sym (ones-count M w (le_trans small (pow_mono h))) ∙ ones-count L w small

count_none : (M : ℕ) → count_below 0 M ≡ 0
unfolding count_below
count_none M = count-wide 0 M 0 (omega arith) (omega arith)

-- nor to find the lowest of
pub lowest-wide : (L M w : ℕ) → L ≤ M → w < 2 ^ L → 0 < w → count_trailing_zeros M w ≡ count_trailing_zeros L w
lowest-wide L M w h small some =
    let a = lowest L w small some in
    let b = lowest M w (le_trans small (pow_mono h)) some in
    let x : count_trailing_zeros L w ≤ count_trailing_zeros M w = not_lower (count_trailing_zeros M w) b.«in» a in
    let y : count_trailing_zeros M w ≤ count_trailing_zeros L w = not_lower (count_trailing_zeros L w) a.«in» b in
    omega arith
  where
    not_lower : {k t : ℕ} (m : ℕ) → bit w m ≡ 1 → Lowest w k t → t ≤ m
    not_lower {k} {t} m on low = go (dec_lt m t)
      where
        go : Dec (m < t) → t ≤ m
        go (yes i) = absurd (omega (arith, low.least m i))
        go (no d) = omega arith

-- ---- sums

sum : (ℕ → ℕ) → ℕ → ℕ
sum f zero = 0
sum f (suc n) = sum f n + f n

sum-add : (f : ℕ → ℕ) (a b : ℕ) → sum f (a + b) ≡ sum f a + sum (λ i. f (a + i)) b
unfolding sum
sum-add f a zero = ap (sum f) (add-zero a) ∙ sym (add-zero (sum f a))
sum-add f a (suc b) = rw add-suc (omega (arith, sum-add f a b))

sum_same : (f g : ℕ → ℕ) (n : ℕ) → ((i : ℕ) → i < n → f i ≡ g i) → sum f n ≡ sum g n
unfolding sum
sum_same f g zero h = refl
sum_same f g (suc n) h = ap₂ ◌+◌ (sum_same f g n (λ i j. h i (omega arith))) (h n (omega arith))

sum-none : (f : ℕ → ℕ) (n : ℕ) → ((i : ℕ) → i < n → f i ≡ 0) → sum f n ≡ 0
unfolding sum
sum-none f zero h = refl
sum-none f (suc n) h = omega (arith, sum-none f n (λ i j. h i (omega arith)), h n (omega arith))

-- with zeros behind
sum-padded : (f g : ℕ → ℕ) (a b : ℕ) → a ≤ b → ((i : ℕ) → i < a → f i ≡ g i) → ((i : ℕ) → a ≤ i → i < b → f i ≡ 0) → sum f b ≡ sum g a
sum-padded f g a b h same zeros =
    let e : b ≡ a + (b - a) = omega arith in
    let rest = sum-none (λ i. f (a + i)) (b - a) (λ i j. zeros (a + i) (omega arith) (omega arith)) in
    ap (sum f) e ∙ sum-add f a (b - a) ∙ omega (arith, rest, sum_same f g a same)

total-sum : (A : ℕ) (t : Table) (n : ℕ) → n ≤ length t → total A (take n t) ≡ sum (λ r. count_below (get_or t r 0) A) n
unfolding sum
total-sum A t zero h = total-none A t
total-sum A t (suc n) h =
    let e : total A (take (n + 1) t) ≡ total A (take n t) + count_below (get_or t n 0) A = total-next A n t (omega arith) in
    (rw add-one at e) ∙ ap (λ (k : ℕ). k + count_below (get_or t n 0) A) (total-sum A t n (omega arith))

-- ---- the parts of a table

parts : (w : ℕ → ℕ) (A : ℕ)
    → sum w (row_count A) ≡ sum w 256 + sum (λ i. w (256 + i)) (32 * A) + sum (λ i. w (256 + 32 * A + i)) A + sum (λ i. w (256 + 33 * A + i)) A
parts w A =
    let e : row_count A ≡ 256 + 32 * A + A + A = omega arith in
    let d : 256 + 32 * A + A ≡ 256 + 33 * A = omega arith in
    ap (sum w) e
    ∙ sum-add w (256 + 32 * A + A) A
    ∙ ap (λ (k : ℕ). sum w (256 + 32 * A + A) + sum (λ i. w (k + i)) A) d
    ∙ ap (λ (k : ℕ). k + sum (λ i. w (256 + 33 * A + i)) A)
    (sum-add w (256 + 32 * A) A ∙ ap (λ (k : ℕ). k + sum (λ i. w (256 + 32 * A + i)) A) (sum-add w 256 (32 * A)))

module _ (L M : ℕ) (more : L ≤ M) (t u : Table) (small : Small L t)
    (same : (y : Row) → InTable L y → get_or u (number M y) 0 ≡ get_or t (number L y) 0)
    (empty : (y : Row) → InTable M y → (InTable L y → ⊥) → get_or u (number M y) 0 ≡ 0) where
  count_same : (y : Row) → InTable L y → count_below (get_or u (number M y) 0) M ≡ count_below (get_or t (number L y) 0) L
  count_same y i = ap (λ (w : ℕ). count_below w M) (same y i) ∙ count-wide L M (get_or t (number L y) 0) more (small (number L y))

  count-empty : (y : Row) → InTable M y → (InTable L y → ⊥) → count_below (get_or u (number M y) 0) M ≡ 0
  count-empty y i out = ap (λ (w : ℕ). count_below w M) (empty y i out) ∙ count_none M

  -- the row of a property by its place among them
  placed : (i : ℕ) → 256 + 32 * (i / 32) + i % 32 ≡ 256 + i
  placed i = omega arith

  pub facts-same : row_count L ≤ length t → row_count M ≤ length u → facts M u ≡ facts L t
  unfolding facts
  facts-same full room =
      total-sum M u (row_count M) room ∙ parts (λ r. count_below (get_or u r 0) M) M
      ∙ ap₂ ◌+◌ (ap₂ ◌+◌ (ap₂ ◌+◌ variables properties) chains) scopes
      ∙ sym (total-sum L t (row_count L) full ∙ parts (λ r. count_below (get_or t r 0) L) L)
    where
      variables : sum (λ i. count_below (get_or u i 0) M) 256 ≡ sum (λ i. count_below (get_or t i 0) L) 256
      variables = sum_same _ _ 256 (λ i h. count_same (variable i) h)

      properties : sum (λ i. count_below (get_or u (256 + i) 0) M) (32 * M) ≡ sum (λ i. count_below (get_or t (256 + i) 0) L) (32 * L)
      properties =
          sum-padded _ _ (32 * L) (32 * M) (omega arith)
          (λ i h. rw placed at (count_same (property (i / 32) (i % 32)) (omega arith, omega arith)))
          (λ i h k. rw placed at (count-empty (property (i / 32) (i % 32)) (omega arith, omega arith) (λ o. omega (arith, o.0))))

      chains : sum (λ i. count_below (get_or u (256 + 32 * M + i) 0) M) M ≡ sum (λ i. count_below (get_or t (256 + 32 * L + i) 0) L) L
      chains = sum-padded _ _ L M more (λ i h. count_same (chain i) h) (λ i h k. count-empty (chain i) k (λ o. omega arith))

      scopes : sum (λ i. count_below (get_or u (256 + 33 * M + i) 0) M) M ≡ sum (λ i. count_below (get_or t (256 + 33 * L + i) 0) L) L
      scopes = sum-padded _ _ L M more (λ i h. count_same (thrown i) h) (λ i h k. count-empty (thrown i) k (λ o. omega arith))
