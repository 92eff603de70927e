-- Bits where records begin. Assumes nothing.
use mathlib.Core.Path.{◌≡◌, refl, sym, ap, ◌∙◌, subst}
use mathlib.Core.Bool.{Bool, true, false}
use mathlib.Core.Logic.{◌⊎◌, inl, inr, ⊎_elim}
use mathlib.Core.List.{List, []}
use Prim.Native.Nat.{ℕ, ◌+◌, ◌-◌, ◌*◌, ◌/◌, ◌%◌, ◌^◌, ◌<◌}
use native.Mathlib.Decide.{ℕ_discrete, dec_lt}
use native.Mathlib.Omega.{arith}
use lib.ListN.{length, get_or, set, replicate}
use lib.Seq.{get_or-set_same, get_or-set_other, set_out}
use lib.Dec.{ltb, eqb}
use Rattle.std.proofs.Common.{cond}
use Rattle.std.proofs.lemmas.Bool.{ltb-false, eqb-true}
use Rattle.format.proofs.Arrays.{padded}
use Rattle.words.specs.Words.{bit, union}
use Rattle.words.proofs.Bits.{On, on-union, single-only, empty-off}
use Rattle.indexing.specs.declared.starts.Starts.{Starts}
use Rattle.indexing.specs.Begins.{BeginsAt, Begins, More, word_at}

-- no bits
zero-word : (b c : Bool) (x y : ℕ) → x ≡ 0 → y ≡ 0 → cond b x (cond c y 0) ≡ 0
zero-word true c x y e f = e
zero-word false true x y e f = f
zero-word false false x y e f = refl

pub begins-none : (L : ℕ) (file : List ℕ) (s : Starts) → s.low ≡ replicate 256 0 → s.high ≡ replicate 256 0 → Begins L file s
begins-none L file s e f w i o =
    let zeros : (k : ℕ) → get_or (replicate 256 0) k 0 ≡ 0 = padded [] 256 0 in
    let low : get_or s.low w 0 ≡ 0 = rw e (zeros w) in
    let high : get_or s.high (w - 256) 0 ≡ 0 = rw f (zeros (w - 256)) in
    absurd (empty-off i (subst (λ (x : ℕ). On x i) (zero-word (ltb w 256) (ltb w 512) (get_or s.low w 0) (get_or s.high (w - 256) 0) low high) o))

-- one bit more, q bits from the first
pub one-bit-more : (starts : List ℕ) (q b i : ℕ)
    → bit (get_or (set starts (q / 64) (union (get_or starts (q / 64) 0) (2 ^ (q % 64)))) b 0) i ≡ 1 → (64 * b + i ≡ q) ⊎ (bit (get_or starts b 0) i ≡ 1)
one-bit-more starts q b i o = choose (dec_lt (q / 64) (length starts))
  where
    word : ℕ
    word = union (get_or starts (q / 64) 0) (2 ^ (q % 64))

    go : q / 64 < length starts → Dec (b ≡ q / 64) → (64 * b + i ≡ q) ⊎ (bit (get_or starts b 0) i ≡ 1)
    go h (yes e) =
        ⊎_elim (λ a. inr (subst (λ (k : ℕ). On (get_or starts k 0) i) (sym e) a)) (λ a. inl (omega (arith, e, single-only (q % 64) i a)))
        (on-union (get_or starts (q / 64) 0) (2 ^ (q % 64)) i
        (subst (λ (w : ℕ). On w i) (ap (λ (k : ℕ). get_or (set starts (q / 64) word) k 0) e ∙ get_or-set_same starts (q / 64) word 0 h) o))
    go h (no d) = inr (subst (λ (w : ℕ). On w i) (get_or-set_other starts (q / 64) b word 0 d) o)

    choose : Dec (q / 64 < length starts) → (64 * b + i ≡ q) ⊎ (bit (get_or starts b 0) i ≡ 1)
    choose (yes h) = go h (ℕ_discrete b (q / 64))
    choose (no n) = inr (subst (λ (s : List ℕ). On (get_or s b 0) i) (set_out starts (q / 64) word (omega (arith, n))) o)

-- one bit more in one half: that of position `at`, counted from `half`
abbrev pub MoreFrom : ℕ → ℕ → List ℕ → List ℕ → Type 0
MoreFrom half at starts later = (b i : ℕ) → bit (get_or later b 0) i ≡ 1 → (half + (64 * b + i) ≡ at) ⊎ (bit (get_or starts b 0) i ≡ 1)

pub more-halves : (at : ℕ) (s u : Starts) → MoreFrom 0 at s.low u.low → MoreFrom 16384 at s.high u.high → More at s u
more-halves at s u low high w i o = go (ltb w 256) (ltb w 512) refl o
  where
    go : (b c : Bool) → ltb w 256 ≡ b → bit (cond b (get_or u.low w 0) (cond c (get_or u.high (w - 256) 0) 0)) i ≡ 1
        → (64 * w + i ≡ at) ⊎ (bit (cond b (get_or s.low w 0) (cond c (get_or s.high (w - 256) 0) 0)) i ≡ 1)
    go true c e on = ⊎_elim (λ p. inl (omega (arith, p))) inr (low w i on)
    go false true e on = ⊎_elim (λ p. inl (omega (arith, p, ltb-false w 256 e))) inr (high (w - 256) i on)
    go false false e on = absurd (empty-off i on)

-- with the bit of a record
pub begins-more : {L : ℕ} {file : List ℕ} {at : ℕ} (s u : Starts) → BeginsAt L file at → Begins L file s → More at s u → Begins L file u
begins-more {L} {file} {at} s u here begins more w i o =
    ⊎_elim (λ e. subst (λ (k : ℕ). BeginsAt L file k) (sym e) here) (λ a. begins w i a) (more w i o)

-- a record begins at a place whose bit is set
pub begins-here : (L : ℕ) (file : List ℕ) (s : Starts) (at : ℕ) → Begins L file s → eqb (bit (word_at s (at / 64)) (at % 64)) 1 ≡ true → BeginsAt L file at
begins-here L file s at begins e =
    let p : 64 * (at / 64) + at % 64 ≡ at = omega arith in
    subst (λ (k : ℕ). BeginsAt L file k) p (begins (at / 64) (at % 64) (eqb-true (bit (word_at s (at / 64)) (at % 64)) 1 e))
