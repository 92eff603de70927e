-- Laws of runs of words: equal words are equal numbers, what a row of a table is, and that words and rows carry one another: words read as rows and
-- laid out again are the same, and rows laid out and read again. Assumes nothing.
use mathlib.Core.Path.{◌≡◌, refl, sym, ap, ap₂, ◌∙◌}
use mathlib.Core.List.{List, [], ◌∷◌, ◌++◌, append_assoc}
use Prim.Native.Nat.{ℕ, zero, suc, ◌+◌, ◌*◌, ◌/◌, ◌%◌, ◌^◌, ◌≤◌, ◌<◌}
use native.Mathlib.Nat.{zero-add, add-zero, mul-add-div, div-eq_of_lt, div-one, mul-div-le, div-lt_iff_lt-mul, le-div_iff_mul-le}
use native.Mathlib.Omega.{arith}
use lib.ListN.{length, get_or, take, drop, length-append, take-append-drop}
use lib.Pow.{pow-add, shr_lt, split, high, low}
use lib.Seq.{drop-cons, take-add, drop-drop, get_or-append-add, ext_get_or}
use Rattle.rows.specs.Run.{Words, number, view, room_for, rows_of, cut, laid}

next_place : (i m : ℕ) → i + 1 + m ≡ i + suc m
next_place i m = omega arith

-- ---- equal words

pub number_same : (k : ℕ) (t u : List ℕ) (i j : ℕ) → ((m : ℕ) → m < k → get_or t (i + m) 0 ≡ get_or u (j + m) 0) → number k t i ≡ number k u j
unfolding number
number_same zero t u i j h = refl
number_same (suc k) t u i j h =
    ap₂ (λ (x y : ℕ). x * 2 ^ 64 + y)
    (number_same k t u (i + 1) (j + 1) (λ m q. rw (next_place i m, next_place j m) (h (suc m) (omega arith))))
    (rw (add-zero i, add-zero j) at (h 0 (omega arith)))

-- ---- the number is below 2 ^ (64 * k)

cat-lt : (b : ℕ) (n w : ℕ) → n < b → w < 2 ^ 64 → n * 2 ^ 64 + w < b * 2 ^ 64
cat-lt b n w h i = omega arith

one_more : (k : ℕ) → 64 * suc k ≡ 64 * k + 64
one_more k = omega arith

pub number_lt : (k : ℕ) (t : List ℕ) (i : ℕ) → Words t → number k t i < 2 ^ (64 * k)
unfolding number
number_lt zero t i s = omega arith
number_lt (suc k) t i s =
    rw (one_more k, pow-add) (cat-lt (2 ^ (64 * k)) (number k t (i + 1)) (get_or t i 0) (number_lt k t (i + 1) s) (s i))

-- ---- rows

pub view-length : (k n o : ℕ) (t : List ℕ) → length (view k n o t) ≡ n
unfolding view
view-length k zero o t = refl
view-length k (suc n) o t = ap suc (view-length k n (o + k) t)

pub view-row : (k n o : ℕ) (t : List ℕ) (r : ℕ) → r < n → get_or (view k n o t) r 0 ≡ number k t (o + k * r)
unfolding view
view-row k zero o t r h = absurd (omega arith)
view-row k (suc n) o t zero h = ap (λ (i : ℕ). number k t i) (omega arith)
view-row k (suc n) o t (suc r) h = view-row k n (o + k) t r (omega arith) ∙ ap (λ (i : ℕ). number k t i) (omega arith)

-- tables with the same words are the same
pub view-same : (k n o : ℕ) (t u : List ℕ) → ((i : ℕ) → o ≤ i → i < o + k * n → get_or u i 0 ≡ get_or t i 0) → view k n o u ≡ view k n o t
unfolding view
view-same k zero o t u h = refl
view-same k (suc n) o t u h =
    ap₂ ◌∷◌ (number_same k u t o o (λ m q. h (o + m) (omega arith) (omega arith)))
    (view-same k n (o + k) t u (λ i a b. h i (omega arith) (omega arith)))

-- rows one behind the other
pub view-add : (k a b o : ℕ) (t : List ℕ) → view k (a + b) o t ≡ view k a o t ++ view k b (o + k * a) t
unfolding view
view-add k zero b o t = ap₂ (λ (n i : ℕ). view k n i t) (zero-add b) (omega arith)
view-add k (suc a) b o t =
    let e : suc a + b ≡ suc (a + b) = omega arith in
    let f : o + k + k * a ≡ o + k * suc a = omega arith in
    rw (e, ← f) (ap (λ (x : List ℕ). number k t o ∷ x) (view-add k a b (o + k) t))

-- ---- words read as rows and laid out again

pub number_cut : (k : ℕ) (t : List ℕ) (i : ℕ) → Words t → i + k ≤ length t → cut k (number k t i) ≡ take k (drop i t)
unfolding number cut
number_cut zero t i s h = refl
number_cut (suc k) t i s h =
    let e : i + 1 ≡ suc i = omega arith in
    ap₂ ◌∷◌ (low (number k t (i + 1)) 64 (s i))
    (ap (cut k) (high (number k t (i + 1)) 64 (s i)) ∙ number_cut k t (i + 1) s (omega arith) ∙ ap (λ (j : ℕ). take k (drop j t)) e)
    ∙ sym (ap (take (suc k)) (drop-cons t i 0 (omega arith)))

pub laid-view : (k n o : ℕ) (t : List ℕ) → Words t → o + k * n ≤ length t → laid k (view k n o t) ≡ take (k * n) (drop o t)
unfolding view laid
laid-view k zero o t s h = let e : k * 0 ≡ 0 = omega arith in rw e refl
laid-view k (suc n) o t s h =
    let e : k * suc n ≡ k + k * n = omega arith in
    ap₂ ◌++◌ (number_cut k t o s (omega (arith, h)))
    (laid-view k n (o + k) t s (omega (arith, h)) ∙ ap (take (k * n)) (sym (drop-drop k o t)))
    ∙ sym (rw e (take-add k (k * n) (drop o t)))

-- ---- rows laid out and read again

pub cut-length : (k n : ℕ) → length (cut k n) ≡ k
unfolding cut
cut-length zero n = refl
cut-length (suc k) n = ap suc (cut-length k (n / 2 ^ 64))

pub laid-length : (k : ℕ) (rows : List ℕ) → length (laid k rows) ≡ k * length rows
unfolding laid
laid-length k [] = omega arith
laid-length k (n ∷ rows) = length-append (cut k n) (laid k rows) ∙ omega (arith, cut-length k n, laid-length k rows)

-- a word in front is passed over
number-tail : (k v i : ℕ) (t : List ℕ) → number k (v ∷ t) (i + 1) ≡ number k t i
number-tail k v i t = number_same k (v ∷ t) t (i + 1) i (λ m h. let e : i + 1 + m ≡ suc (i + m) = omega arith in ap (λ (j : ℕ). get_or (v ∷ t) j 0) e)

pub cut-number : (k n : ℕ) (rest : List ℕ) → n < 2 ^ (64 * k) → number k (cut k n ++ rest) 0 ≡ n
unfolding number cut
cut-number zero n rest h = omega arith
cut-number (suc k) n rest h =
    let q : n < 2 ^ (64 * k + 64) = rw (one_more k) at h in
    ap (λ (x : ℕ). x * 2 ^ 64 + n % 2 ^ 64)
    (number-tail k (n % 2 ^ 64) 0 (cut k (n / 2 ^ 64) ++ rest) ∙ cut-number k (n / 2 ^ 64) rest (shr_lt (64 * k) 64 q))
    ∙ split n 64

-- words in front are passed over
view-behind : (k n o : ℕ) (ys t : List ℕ) → view k n (length ys + o) (ys ++ t) ≡ view k n o t
unfolding view
view-behind k zero o ys t = refl
view-behind k (suc n) o ys t =
    let e : length ys + o + k ≡ length ys + (o + k) = omega arith in
    ap₂ ◌∷◌ (number_same k (ys ++ t) t (length ys + o) o (λ m h. place m ∙ get_or-append-add ys t (o + m) 0))
    (rw e (view-behind k n (o + k) ys t))
  where
    place : (m : ℕ) → get_or (ys ++ t) (length ys + o + m) 0 ≡ get_or (ys ++ t) (length ys + (o + m)) 0
    place m = ap (λ (j : ℕ). get_or (ys ++ t) j 0) (omega arith)

pub view-laid : (k : ℕ) (rows rest : List ℕ) → ((r : ℕ) → get_or rows r 0 < 2 ^ (64 * k)) → view k (length rows) 0 (laid k rows ++ rest) ≡ rows
unfolding view laid
view-laid k [] rest h = refl
view-laid k (n ∷ rows) rest h =
    let e : 0 + k ≡ length (cut k n) + 0 = omega (arith, cut-length k n) in
    rw (append_assoc (cut k n) (laid k rows) rest)
    (ap₂ ◌∷◌ (cut-number k n (laid k rows ++ rest) (h 0))
    (rw e (view-behind k (length rows) 0 (cut k n) (laid k rows ++ rest)) ∙ view-laid k rows rest (λ r. h (suc r))))

pub laid-append : (k : ℕ) (xs ys : List ℕ) → laid k (xs ++ ys) ≡ laid k xs ++ laid k ys
unfolding laid
laid-append k [] ys = refl
laid-append k (n ∷ xs) ys = ap (λ (x : List ℕ). cut k n ++ x) (laid-append k xs ys) ∙ sym (append_assoc (cut k n) (laid k xs) (laid k ys))

-- ---- whole tables

-- so many rows are in the words exactly if their words are
pub room-less : (k n : ℕ) (t : List ℕ) → 0 < k → length t < k * n → room_for k t < n
room-less k n t h q = (div-lt_iff_lt-mul h).1 (omega arith)

pub room-enough : (k n : ℕ) (t : List ℕ) → 0 < k → k * n ≤ length t → n ≤ room_for k t
room-enough k n t h q = (le-div_iff_mul-le h).1 (omega arith)

-- the words are their rows, laid out, and what is left over
pub laid-rows : (k : ℕ) (t : List ℕ) → Words t → laid k (rows_of k t) ++ drop (k * room_for k t) t ≡ t
laid-rows k t s =
    ap (λ (x : List ℕ). x ++ drop (k * room_for k t) t) (laid-view k (room_for k t) 0 t s (omega (arith, mul-div-le (length t) k)))
    ∙ take-append-drop (k * room_for k t) t

-- the rows are those of their words, where less than a row is left over
pub rows-laid : (k : ℕ) (rows rest : List ℕ) → length rest < k → ((r : ℕ) → get_or rows r 0 < 2 ^ (64 * k)) → rows_of k (laid k rows ++ rest) ≡ rows
rows-laid k rows rest h small = ap (λ (n : ℕ). view k n 0 (laid k rows ++ rest)) room ∙ view-laid k rows rest small
  where
    long : length (laid k rows ++ rest) ≡ k * length rows + length rest
    long = length-append (laid k rows) rest ∙ ap (λ (n : ℕ). n + length rest) (laid-length k rows)

    room : room_for k (laid k rows ++ rest) ≡ length rows
    room = ap (λ (n : ℕ). n / k) long ∙ mul-add-div (omega arith) (length rows) (length rest) ∙ rw (div-eq_of_lt h) (omega arith)

-- rows of one word are the words
pub number-one : (t : List ℕ) (i : ℕ) → number 1 t i ≡ get_or t i 0
unfolding number
number-one t i = omega arith

pub rows-one : (t : List ℕ) → rows_of 1 t ≡ t
rows-one t =
    ext_get_or 0 (rows_of 1 t) t long (λ i q. row i (rw long at q))
  where
    long : length (rows_of 1 t) ≡ length t
    long = view-length 1 (room_for 1 t) 0 t ∙ div-one (length t)

    row : (i : ℕ) → i < length t → get_or (rows_of 1 t) i 0 ≡ get_or t i 0
    row i q =
        let e : 0 + 1 * i ≡ i = omega arith in
        view-row 1 (room_for 1 t) 0 t i (rw (div-one (length t)) q) ∙ number-one t (0 + 1 * i) ∙ ap (λ (j : ℕ). get_or t j 0) e
