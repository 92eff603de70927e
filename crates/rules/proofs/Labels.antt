-- Lists that loops go through: the labels of a word, and the numbers that pass a test. Each has exactly what it says, and grows
-- at its end as a loop goes on; a word's list is as long as the word's count. Assumes nothing.
use mathlib.Core.Path.{◌≡◌, refl, ap, ap₂, sym, ◌∙◌, subst}
use mathlib.Core.Logic.{◌⊎◌, inl, inr}
use mathlib.Core.List.Memᴰ
use mathlib.Core.List.{List, [], ◌∷◌, ◌++◌, append-nil, Memᴰ}
use mathlib.Core.Bool.{Bool, true, false}
use Prim.Native.Nat.{ℕ, zero, suc, ◌+◌, ◌/◌, ◌%◌, ◌≤◌, ◌<◌}
use native.Mathlib.Decide.{ℕ_discrete}
use native.Mathlib.Nat.{zero-add, add-zero, add-suc, suc-add}
use native.Mathlib.Numerals.{add-one}
use native.Mathlib.Omega.{arith}
use lib.ListN.{length, length-append}
use Rattle.words.specs.Words.{bit, count_below}
use Rattle.words.proofs.Laws.{bit-low, bit-half, bit-zero}
use Rattle.words.proofs.Bits.{On, on?, empty-off, off}
use Rattle.rules.specs.Rule.{chosen}
use Rattle.rules.specs.Round.{keep, places, labels}

-- ---- what is in the list

keep-cases : (b i x : ℕ) (xs : List ℕ) → Memᴰ x (keep b i xs) → ((x ≡ i) × (1 ≤ b)) ⊎ Memᴰ x xs
keep-cases zero i x xs m = inr m
keep-cases (suc b) i x xs m = elim (Memᴰ.cases_cons m) [ inl e ↦ inl (e, omega arith) | inr h ↦ inr h ]

keep-head : (b i : ℕ) (xs : List ℕ) → 1 ≤ b → Memᴰ i (keep b i xs)
keep-head zero i xs h = absurd (omega arith)
keep-head (suc b) i xs h = Memᴰ.head refl

keep-tail : (b i x : ℕ) (xs : List ℕ) → Memᴰ x xs → Memᴰ x (keep b i xs)
keep-tail zero i x xs m = m
keep-tail (suc b) i x xs m = Memᴰ.tail m

place-on : (d i w x : ℕ) → Memᴰ x (places d i w) → (k : ℕ) × (x ≡ i + k) × (k < d) × On w k
unfolding places
place-on zero i w x m = absurd (Memᴰ.not-nil m)
place-on (suc d) i zero x m = absurd (Memᴰ.not-nil m)
place-on (suc d) i (suc w) x m =
    elim (keep-cases (suc w % 2) i x (places d (suc i) (suc w / 2)) m) [
      | inl e ↦ (0, omega arith, omega arith, omega (arith, bit-low (suc w)))
      | inr h ↦ (let r = place-on d (suc i) (suc w / 2) x h in (suc r.0, omega (arith, r.1), omega (arith, r.2), bit-half (suc w) r.0 ∙ r.3))
    ]

on-place : (d i w k : ℕ) → k < d → On w k → Memᴰ (i + k) (places d i w)
unfolding places
on-place zero i w k h e = absurd (omega arith)
on-place (suc d) i zero k h e = absurd (empty-off k e)
on-place (suc d) i (suc w) zero h e =
    rw add-zero (keep-head (suc w % 2) i (places d (suc i) (suc w / 2)) (omega (arith, bit-low (suc w))))
on-place (suc d) i (suc w) (suc k) h e =
    rw (add-suc, ← suc-add)
    (keep-tail (suc w % 2) i (suc i + k) (places d (suc i) (suc w / 2))
    (on-place d (suc i) (suc w / 2) k (omega arith) (sym (bit-half (suc w) k) ∙ e)))

pub label-on : (d w m : ℕ) → Memᴰ m (labels d w) → (m < d) × On w m
unfolding labels
label-on d w m i =
    let r = place-on d 0 w m i in
    let e : r.0 ≡ m = omega (arith, r.1) in
    (rw e at r.2, subst (λ (n : ℕ). On w n) e r.3)

pub on-label : (d w m : ℕ) → m < d → On w m → Memᴰ m (labels d w)
unfolding labels
on-label d w m i o = rw zero-add at (on-place d 0 w m i o)

-- ---- one label more, at the end

keep_append : (b i : ℕ) (xs ys : List ℕ) → keep b i (xs ++ ys) ≡ keep b i xs ++ ys
keep_append zero i xs ys = refl
keep_append (suc b) i xs ys = refl

places-next : (d i w : ℕ) → places (suc d) i w ≡ places d i w ++ keep (bit w d) (i + d) []
unfolding places
places-next zero i zero = rw bit-zero
places-next zero i (suc w) = rw (bit-low, add-zero)
places-next (suc d) i zero = rw bit-zero
places-next (suc d) i (suc w) =
    ap (λ (xs : List ℕ). keep (suc w % 2) i xs) (places-next d (suc i) (suc w / 2))
    ∙ keep_append (suc w % 2) i (places d (suc i) (suc w / 2)) (keep (bit (suc w / 2) d) (suc i + d) [])
    ∙ ap₂ (λ (b k : ℕ). keep (suc w % 2) i (places d (suc i) (suc w / 2)) ++ keep b k []) (sym (bit-half (suc w) d)) (omega arith)

pub labels-none : (w : ℕ) → labels 0 w ≡ []
unfolding labels places
labels-none w = refl

pub labels-on : (d w : ℕ) → On w d → labels (d + 1) w ≡ labels d w ++ (d ∷ [])
unfolding labels
labels-on d w o =
    ap (λ (k : ℕ). places k 0 w) (add-one d) ∙ places-next d 0 w ∙ ap₂ (λ (b k : ℕ). places d 0 w ++ keep b k []) o (zero-add d)

pub labels-off : (d w : ℕ) → (On w d → ⊥) → labels (d + 1) w ≡ labels d w
unfolding labels
labels-off d w n =
    ap (λ (k : ℕ). places k 0 w) (add-one d) ∙ places-next d 0 w
    ∙ ap (λ (b : ℕ). places d 0 w ++ keep b (0 + d) []) (off w d n) ∙ append-nil (places d 0 w)

-- ---- how many

-- the number of a word's labels is the length of their list
pub labels-count : (d w : ℕ) → length (labels d w) ≡ count_below w d
unfolding count_below
labels-count zero w = ap length (labels-none w)
labels-count (suc d) w = go (on? w d) (labels-count d w)
  where
    next : labels (suc d) w ≡ labels (d + 1) w
    next = ap (λ (k : ℕ). labels k w) (sym (add-one d))

    go : Dec (On w d) → length (labels d w) ≡ count_below w d → length (labels (suc d) w) ≡ count_below w d + bit w d
    go (yes o) e = rw (next, labels-on d w o, length-append, e, o)
    go (no n) e = rw (next, labels-off d w n, e, off w d n) (sym (add-zero (count_below w d)))

-- ---- the numbers that pass a test

pub chosen-off : (f : ℕ → Bool) (n : ℕ) → f n ≡ false → chosen f (n + 1) ≡ chosen f n
unfolding chosen
chosen-off f n e = rw (add-one, e, chosen)

pub chosen-passes : (f : ℕ → Bool) (n x : ℕ) → Memᴰ x (chosen f n) → (x < n) × (f x ≡ true)
unfolding chosen
chosen-passes f zero x m = absurd (Memᴰ.not-nil m)
chosen-passes f (suc n) x m = go (f n) refl (chosen-passes f n x)
  where
    step : (Memᴰ x (chosen f n) → (x < n) × (f x ≡ true)) → f n ≡ true → Memᴰ x (chosen f n) ⊎ Memᴰ x (n ∷ []) → (x < suc n) × (f x ≡ true)
    step rest e (inl i) = let r = rest i in (omega (arith, r.0), r.1)
    step rest e (inr i) = let q = Memᴰ.eq_of_singleton i in (omega arith, ap f q ∙ e)

    go : (b : Bool) → f n ≡ b → (Memᴰ x (chosen f n) → (x < n) × (f x ≡ true)) → (x < suc n) × (f x ≡ true)
    go true e rest = step rest e (Memᴰ.append_cases (chosen f n) (rw (e, chosen) at m))
    go false e rest = let r = rest (rw (e, chosen) at m) in (omega (arith, r.0), r.1)

pub passes-chosen : (f : ℕ → Bool) (n x : ℕ) → x < n → f x ≡ true → Memᴰ x (chosen f n)
unfolding chosen
passes-chosen f zero x h e = absurd (omega arith)
passes-chosen f (suc n) x h e = go (f n) refl (ℕ_discrete x n) (λ i. passes-chosen f n x i e)
  where
    go : (b : Bool) → f n ≡ b → Dec (x ≡ n) → (x < n → Memᴰ x (chosen f n)) → Memᴰ x (chosen f (suc n))
    go true d (yes q) rest = rw (d, chosen) (Memᴰ.append_right (chosen f n) (Memᴰ.head q))
    go true d (no q) rest = rw (d, chosen) (Memᴰ.append_left (n ∷ []) (rest (omega arith)))
    go false d (yes q) rest = let r = sym d ∙ sym (ap f q) ∙ e in let z : ◌≡◌ {A = ℕ} 0 1 = cc in absurd (omega arith)
    go false d (no q) rest = rw (d, chosen) (rest (omega arith))

-- tests that say the same below n choose the same
pub chosen-alike : (f g : ℕ → Bool) (n : ℕ) → ((x : ℕ) → x < n → f x ≡ g x) → chosen f n ≡ chosen g n
unfolding chosen
chosen-alike f g zero e = refl
chosen-alike f g (suc n) e =
    ap₂ (λ (b : Bool) (xs : List ℕ). elim b [ true ↦ xs ++ (n ∷ []) | false ↦ xs ]) (e n (omega arith)) (chosen-alike f g n (λ x h. e x (omega arith)))
