-- Laws of sets: the laws of runs of words, at the four words of a set. Assumes nothing.
use mathlib.Core.Path.{◌≡◌, refl, sym, ap, ◌∙◌}
use mathlib.Core.Bool.{Bool, true, false}
use Prim.Native.Nat.{ℕ, zero, suc, ◌+◌, ◌*◌, ◌/◌, ◌%◌, ◌^◌, ◌≤◌, ◌<◌}
use native.Mathlib.Decide.{ℕ_discrete}
use native.Mathlib.Nat.{zero-add}
use native.Mathlib.Omega.{arith}
use borrow.Author.Tests.{eq-eqb, ne_eqb, eqb-true, eqb-false}
use lib.Bits.{bit_or, or_add_and, and_le_l, and_le_r}
use lib.Dec.{eqb}
use lib.ListN.{get_or}
use lib.Pow.{pow-add}
use Rattle.words.specs.Words.{bit, count_below, Taken}
use Rattle.words.proofs.Laws.{ones-on}
use Rattle.rows.specs.Run.{Words, number}
use Rattle.rows.proofs.Run.{number_lt}
use Rattle.rows.specs.Edition.{words, labels}
use Rattle.sets.specs.Value.{words_of, value}
use Rattle.sets.specs.Each.{EachWord}
use Rattle.sets.specs.declared.Set.{Set}
use Rattle.sets.proofs.Numbers.{Bitwise, number_of, number_bit, number-count, count_none, taken_here, taken-later}

-- the words of a set are words
abbrev pub Good : Set → Type 0
Good s = (s.a < 2 ^ 64) × (s.b < 2 ^ 64) × (s.c < 2 ^ 64) × (s.d < 2 ^ 64)

pub good-small : {s : Set} → Good s → Words (words_of s)
good-small g zero = g.0
good-small g (suc zero) = g.1
good-small g (suc (suc zero)) = g.2
good-small g (suc (suc (suc zero))) = g.3
good-small g (suc (suc (suc (suc i)))) = omega arith

-- a set made word by word by an operation on bits
pub each-value : {f : ℕ → ℕ → ℕ} {R : ℕ → ℕ → ℕ → Type 0} → Bitwise f → (wide : Bool) (x y r : Set) → Good x → Good y
    → EachWord wide R x y r → ((m n k : ℕ) → R m n k → k ≡ f m n) → value wide r ≡ f (value wide x) (value wide y)
unfolding value
each-value {f} {R} o wide x y r gx gy e is =
    number_of o (words wide) (words_of x) (words_of y) (words_of r) 0 0 0 (good-small gx) (good-small gy) (word wide e)
  where
    word : (b : Bool) → EachWord b R x y r → (m : ℕ) → m < words b → get_or (words_of r) (0 + m) 0 ≡ f (get_or (words_of x) (0 + m) 0) (get_or (words_of y) (0 + m) 0)
    word true e zero h = is _ _ _ e.0
    word true e (suc zero) h = is _ _ _ e.1
    word true e (suc (suc zero)) h = is _ _ _ e.2
    word true e (suc (suc (suc zero))) h = is _ _ _ e.3
    word true e (suc (suc (suc (suc m)))) h = absurd (omega arith)
    word false e zero h = is _ _ _ e
    word false e (suc m) h = absurd (omega arith)

pub value-lt : (wide : Bool) (x : Set) → Good x → value wide x < 2 ^ (64 * words wide)
unfolding value
value-lt wide x g = number_lt (words wide) (words_of x) 0 (good-small g)

pub word-labels : (wide : Bool) → 64 * words wide ≡ labels wide
word-labels true = refl
word-labels false = refl

pub value-below : (wide : Bool) (x : Set) → Good x → value wide x < 2 ^ labels wide
value-below wide x g = rw (← word-labels wide) (value-lt wide x g)

-- ---- no label

pub value_none : (wide : Bool) → value wide (record { a = 0; b = 0; c = 0; d = 0 }) ≡ 0
unfolding value number
value_none true = refl
value_none false = refl

-- two tests for 0 that agree
pub same_test : (m n : ℕ) → (m ≡ 0 → n ≡ 0) → (n ≡ 0 → m ≡ 0) → eqb m 0 ≡ eqb n 0
same_test m n f g = go (ℕ_discrete m 0)
  where
    go : Dec (m ≡ 0) → eqb m 0 ≡ eqb n 0
    go (yes e) = eq-eqb m 0 e ∙ sym (eq-eqb n 0 (f e))
    go (no d) = ne_eqb m 0 d ∙ sym (ne_eqb n 0 (λ e. d (g e)))

-- the bounds of a union
record Bounds (a b : ℕ) : Type 0 where
  left : a ≤ bit_or a b
  right : b ≤ bit_or a b
  sum : bit_or a b ≤ a + b

bounds : (a b : ℕ) → Bounds a b
bounds a b =
    let e = or_add_and a b in
    let l = and_le_l a b in
    let r = and_le_r a b in
    record { left = omega arith; right = omega arith; sum = omega arith }

-- what a test for an empty set says
pub is_none : (v : ℕ) {b : Bool} → b ≡ eqb v 0 → b ≡ true → v ≡ 0
is_none v e h = eqb-true v 0 (sym e ∙ h)

-- a run is 0 where its words are
cat-zero : (n w : ℕ) → n * 2 ^ 64 + w ≡ 0 → (n ≡ 0) × (w ≡ 0)
cat-zero n w e = omega arith

zero-cat : (n w : ℕ) → n ≡ 0 → w ≡ 0 → n * 2 ^ 64 + w ≡ 0
zero-cat n w e h = omega arith

pub empty-wide : {wide : Bool} (x : Set) → wide ≡ true → eqb (bit_or (bit_or (bit_or x.a x.b) x.c) x.d) 0 ≡ eqb (value wide x) 0
unfolding value number
empty-wide x is = rw is (same_test (bit_or (bit_or (bit_or x.a x.b) x.c) x.d) (number 4 (words_of x) 0) all-zero words-zero)
  where
    ab : Bounds x.a x.b
    ab = bounds x.a x.b

    abc : Bounds (bit_or x.a x.b) x.c
    abc = bounds (bit_or x.a x.b) x.c

    abcd : Bounds (bit_or (bit_or x.a x.b) x.c) x.d
    abcd = bounds (bit_or (bit_or x.a x.b) x.c) x.d

    all-zero : bit_or (bit_or (bit_or x.a x.b) x.c) x.d ≡ 0 → number 4 (words_of x) 0 ≡ 0
    all-zero e =
        zero-cat (number 3 (words_of x) 1) x.a
        (zero-cat (number 2 (words_of x) 2) x.b
        (zero-cat (number 1 (words_of x) 3) x.c (zero-cat 0 x.d refl (omega (arith, abcd))) (omega (arith, abc, abcd)))
        (omega (arith, ab, abc, abcd))) (omega (arith, ab, abc, abcd))

    words-zero : number 4 (words_of x) 0 ≡ 0 → bit_or (bit_or (bit_or x.a x.b) x.c) x.d ≡ 0
    words-zero e =
        let a = cat-zero (number 3 (words_of x) 1) x.a e in
        let b = cat-zero (number 2 (words_of x) 2) x.b a.0 in
        let c = cat-zero (number 1 (words_of x) 3) x.c b.0 in
        let d = cat-zero 0 x.d c.0 in
        omega (arith, ab, abc, abcd, a.1, b.1, c.1, d.1)

pub empty-narrow : {wide : Bool} (x : Set) → wide ≡ false → eqb x.a 0 ≡ eqb (value wide x) 0
unfolding value number
empty-narrow x is = rw is (same_test x.a (number 1 (words_of x) 0) (λ e. omega arith) (λ e. omega arith))

-- ---- label l, which is one of word m

word_counts : (wide : Bool) (m l : ℕ) → l < labels wide → 64 * m ≤ l → m < words wide
word_counts true m l h q = omega arith
word_counts false m l h q = omega arith

pub value-bit : (wide : Bool) (x : Set) (m j : ℕ) {l : ℕ} → Good x → l < labels wide → l ≡ 64 * m + j → j < 64
    → bit (value wide x) l ≡ bit (get_or (words_of x) m 0) j
unfolding value
value-bit wide x m j {l} g h e q =
    rw e
    (number_bit (words wide) (words_of x) 0 m j (good-small g) (word_counts wide m l h (omega arith)) q
    ∙ ap (λ (y : ℕ). bit (get_or (words_of x) y 0) j) (zero-add m))

-- what the word of a label says of it
pub word-contains : (wide : Bool) (x : Set) {n l w : ℕ} {b : Bool} → Good x → l < labels wide → n ≡ l → w ≡ get_or (words_of x) (n / 64) 0
    → b ≡ eqb (bit w (n % 64)) 1 → b ≡ eqb (bit (value wide x) l) 1
word-contains wide x {n} {l} g h e f a =
    a
    ∙ ap (λ (w : ℕ). eqb (bit w (n % 64)) 1) f
    ∙ ap (λ (d : ℕ). eqb d 1) (sym (value-bit wide x (n / 64) (n % 64) g h (omega arith) (omega arith)))

-- ---- a single label

-- word m, and nothing in the other words
abbrev pub only : ℕ → ℕ → Set
only zero w = record { a = w; b = 0; c = 0; d = 0 }
only (suc zero) w = record { a = 0; b = w; c = 0; d = 0 }
only (suc (suc zero)) w = record { a = 0; b = 0; c = w; d = 0 }
only (suc (suc (suc m))) w = record { a = 0; b = 0; c = 0; d = w }

only-value : (wide : Bool) (m w : ℕ) → m < words wide → value wide (only m w) ≡ w * 2 ^ (64 * m)
unfolding value number
only-value true zero w h = omega arith
only-value true (suc zero) w h = omega arith
only-value true (suc (suc zero)) w h = omega arith
only-value true (suc (suc (suc zero))) w h = omega arith
only-value true (suc (suc (suc (suc m)))) w h = absurd (omega arith)
only-value false zero w h = omega arith
only-value false (suc m) w h = absurd (omega arith)

pub single-value : (wide : Bool) (m : ℕ) {n l w : ℕ} → n ≡ l → l < labels wide → n / 64 ≡ m → w ≡ 2 ^ (n % 64) → value wide (only m w) ≡ 2 ^ l
single-value wide m {n} {l} e h q f =
    let p : n % 64 + 64 * m ≡ l = omega arith in
    only-value wide m _ (word_counts wide m l h (omega arith))
    ∙ ap (λ (x : ℕ). x * 2 ^ (64 * m)) f
    ∙ sym (pow-add 2 (n % 64) (64 * m))
    ∙ ap (λ (x : ℕ). 2 ^ x) p

-- ---- how many labels

pub size-wide : {wide : Bool} (x : Set) → wide ≡ true → Good x
    → count_below (value wide x) (labels wide) ≡ count_below x.a 64 + count_below x.b 64 + count_below x.c 64 + count_below x.d 64
unfolding value number
size-wide x is g =
    let s = good-small g in
    let none : count_below (number 0 (words_of x) 4) 0 ≡ 0 = count_none (number 0 (words_of x) 4) in
    rw is
    (omega (arith, number-count 3 (words_of x) 0 s, number-count 2 (words_of x) 1 s, number-count 1 (words_of x) 2 s, number-count 0 (words_of x) 3 s, none))

pub size-narrow : {wide : Bool} (x : Set) → wide ≡ false → Good x → count_below (value wide x) (labels wide) ≡ count_below x.a 64
unfolding value number
size-narrow x is g =
    let none : count_below (number 0 (words_of x) 1) 0 ≡ 0 = count_none (number 0 (words_of x) 1) in
    rw is (omega (arith, number-count 0 (words_of x) 0 (good-small g), none))

-- ---- the lowest label: it is in the first word that is not empty

pub take-a : (wide : Bool) (x : Set) {l rest : ℕ} → Good x → Taken 64 x.a l rest
    → Taken (labels wide) (value wide x) l (value wide (record { a = rest; b = x.b; c = x.c; d = x.d }))
unfolding value number
take-a true x g t = taken_here 192 (number 3 (words_of x) 1) g.0 t
take-a false x g t = taken_here 0 0 g.0 t

-- a word that was empty, and stays so
abbrev pub Empty : ℕ → ℕ → Type 0
Empty w v = (w ≡ 0) × (v ≡ 0)

pub take-none : (wide : Bool) (x y : Set) → Empty x.a y.a → Empty x.b y.b → Empty x.c y.c → Empty x.d y.d → Empty (value wide x) (value wide y)
take-none wide x y a b c d = rw (a.0, a.1, b.0, b.1, c.0, c.1, d.0, d.1) (value_none wide, value_none wide)

pub take-none-narrow : {wide : Bool} (x y : Set) → wide ≡ false → Empty x.a y.a → Empty (value wide x) (value wide y)
unfolding value number
take-none-narrow x y is a = rw (is, a.0, a.1) (refl, refl)

pub take-b : {wide : Bool} (x : Set) {l a rest : ℕ} → wide ≡ true → Good x → Empty x.a a → Taken 64 x.b l rest
    → Taken (labels wide) (value wide x) (64 + l) (value wide (record { a = a; b = rest; c = x.c; d = x.d }))
unfolding value number
take-b x is g a t = rw (is, a.0, a.1) (taken-later 192 (taken_here 128 (number 2 (words_of x) 2) g.1 t))

pub take-c : {wide : Bool} (x : Set) {l a b rest : ℕ} → wide ≡ true → Good x → Empty x.a a → Empty x.b b → Taken 64 x.c l rest
    → Taken (labels wide) (value wide x) (128 + l) (value wide (record { a = a; b = b; c = rest; d = x.d }))
unfolding value number
take-c x {l} is g a b t =
    let e : 128 + l ≡ 64 + (64 + l) = omega arith in
    rw (is, a.0, a.1, b.0, b.1, e) (taken-later 192 (taken-later 128 (taken_here 64 (number 1 (words_of x) 3) g.2 t)))

pub take-d : {wide : Bool} (x : Set) {l a b c rest : ℕ} → wide ≡ true → Good x → Empty x.a a → Empty x.b b → Empty x.c c → Taken 64 x.d l rest
    → Taken (labels wide) (value wide x) (192 + l) (value wide (record { a = a; b = b; c = c; d = rest }))
unfolding value number
take-d x {l} is g a b c t =
    let e : 192 + l ≡ 64 + (64 + (64 + l)) = omega arith in
    rw (is, a.0, a.1, b.0, b.1, c.0, c.1, e) (taken-later 192 (taken-later 128 (taken-later 64 (taken_here 0 0 g.3 t))))

-- ---- every label

pub full-on : (wide : Bool) (l : ℕ) → l < labels wide
    → bit (value wide (record { a = 18446744073709551615; b = 18446744073709551615; c = 18446744073709551615; d = 18446744073709551615 })) l ≡ 1
unfolding value number
full-on true l h = ones-on 256 l h
full-on false l h = ones-on 64 l h
