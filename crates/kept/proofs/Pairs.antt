-- Pairs in the array: each has its two rows. Assumes nothing.
use mathlib.Core.Path.{◌≡◌, refl, sym, ap, ◌∙◌}
use mathlib.Core.Bool.{Bool, true, false}
use mathlib.Core.List.{List}
use Prim.Native.Nat.{ℕ, zero, suc, ◌+◌, ◌*◌, ◌≤◌, ◌<◌}
use native.Mathlib.Decide.{ℕ_discrete}
use native.Mathlib.Omega.{arith}
use lib.Bits.{bit_and}
use lib.Dec.{eqb}
use lib.ListN.{get_or}
use borrow.Author.Tests.{eqb-true}
use Rattle.words.specs.Words.{bit, union, difference}
use Rattle.words.proofs.Laws.{bit-small, bit-zero, bit-difference}
use Rattle.rows.specs.Edition.{words}
use Rattle.rows.specs.Run.{number}
use Rattle.lent.specs.Table.{place}
use Rattle.lent.specs.Stored.{Stored}
use Rattle.lent.proofs.Views.{other_row}
use Rattle.kept.specs.Pairs.{kept_set, kept_with, Holds, Stays, Refreshed, Cleared, Subset, Asks, part, held, Spares, fewer, Leaves, some, Learns, wider}

pub refreshed : {s v : ℕ} {t u w : List ℕ} (wide : Bool) (pair : ℕ) → Stored (words wide) (place wide 0 (2 * pair)) s t u
    → Stored (words wide) (place wide 0 (2 * pair + 1)) v u w → Refreshed wide pair s v t w
refreshed wide pair a b =
    record {
      labels = other_row 0 (2 * pair + 1) (2 * pair) (λ e. omega arith) b ∙ a.here;
      with = b.here;
      others =
          λ q d. (
            other_row 0 (2 * pair + 1) (2 * q) (λ e. omega arith) b ∙ other_row 0 (2 * pair) (2 * q) (λ e. d (omega arith)) a,
            other_row 0 (2 * pair + 1) (2 * q + 1) (λ e. d (omega arith)) b ∙ other_row 0 (2 * pair) (2 * q + 1) (λ e. omega arith) a,
          );
    }

-- an array of words that are all 0
number-none : (k : ℕ) (t : List ℕ) (i : ℕ) → ((j : ℕ) → get_or t j 0 ≡ 0) → number k t i ≡ 0
unfolding number
number-none zero t i z = refl
number-none (suc k) t i z = let e = number-none k t (i + 1) z in omega (arith, z i)

pub kept-none : (wide : Bool) (keeps : List ℕ) (q : ℕ) → ((i : ℕ) → get_or keeps i 0 ≡ 0) → (kept_set wide keeps q ≡ 0) × (kept_with wide keeps q ≡ 0)
kept-none wide keeps q z = (number-none (words wide) keeps (place wide 0 (2 * q)) z, number-none (words wide) keeps (place wide 0 (2 * q + 1)) z)

-- ---- pairs emptied one by one

pub cleared-start : {wide : Bool} {from : ℕ} {t : List ℕ} → Cleared wide from from t t
cleared-start = record { empty = λ q a b. absurd (omega arith); below = λ q h. (refl, refl); above = λ q h. (refl, refl) }

pub cleared-next : {wide : Bool} {from pair s v : ℕ} {t u w : List ℕ} → from ≤ pair → s ≡ 0 → v ≡ 0 → Refreshed wide pair s v u w → Cleared wide from pair t u
    → Cleared wide from (pair + 1) t w
cleared-next {wide} {from} {pair} {s} {v} {t} {u} {w} h e f r c =
    record {
      empty = λ q a b. empty q a b (ℕ_discrete q pair);
      below = λ q i. stays q (λ d. omega arith) (c.below q i);
      above = λ q i. stays q (λ d. omega arith) (c.above q (omega arith));
    }
  where
    stays : (q : ℕ) → (q ≡ pair → ⊥) → Stays wide t u q → Stays wide t w q
    stays q d k = let o = r.others q d in (o.0 ∙ k.0, o.1 ∙ k.1)

    empty : (q : ℕ) → from ≤ q → q < pair + 1 → Dec (q ≡ pair) → (kept_set wide w q ≡ 0) × (kept_with wide w q ≡ 0)
    empty q a b (yes d) = rw d (r.labels ∙ e, r.with ∙ f)
    empty q a b (no d) =
        let o = r.others q d in
        let z = c.empty q a (omega (arith, d)) in
        (o.0 ∙ z.0, o.1 ∙ z.1)

-- ---- what was read and tested

pub never : {A : Type 0} → false ≡ true → A
never e = let z : ◌≡◌ {A = ℕ} 0 1 = cc in absurd (omega arith)

within-test : (x y : ℕ) {b : Bool} → b ≡ eqb (difference x y) 0 → b ≡ true → Subset x y
within-test x y e h l o =
    let z = ap (λ (n : ℕ). bit n l) (eqb-true (difference x y) 0 (sym e ∙ h)) in
    omega (arith, bit-difference x y l, bit-zero l, bit-small y l)

module _ {wide : Bool} {keeps : List ℕ} {pair a v : ℕ} (now : Holds wide keeps pair a v) where
  pub asks-part : {b : Bool} {s have rest : ℕ} → b ≡ eqb (difference a s) 0 → b ≡ true → rest ≡ difference s a → Asks wide keeps pair s have v rest true
  asks-part {s = s} test h r = part now.room (rw now.labels at (within-test a s test h)) now.with (rw (← now.labels) r)

  pub asks-held : {b : Bool} {s have base rest : ℕ} → b ≡ eqb (difference v have) 0 → b ≡ true → base ≡ 0 → rest ≡ difference s a
      → Asks wide keeps pair s have base rest false
  asks-held {s = s} {have = have} test h z r = held now.room (rw now.with at (within-test v have test h)) z (rw (← now.labels) r)

  pub spares-held : {b : Bool} {s have rest : ℕ} → b ≡ eqb (difference v have) 0 → b ≡ true → rest ≡ difference s a → Spares wide keeps pair s have rest
  spares-held {s = s} {have = have} test h r = fewer (rw now.with at (within-test v have test h)) (rw (← now.labels) r)

  pub leaves-some : {b : Bool} {s x rest : ℕ} → b ≡ eqb (difference x v) 0 → b ≡ true → rest ≡ difference s a → Leaves wide keeps pair s x rest true
  leaves-some {s = s} {x = x} test h r = some now.room (rw now.with at (within-test x v test h)) (rw (← now.labels) r)

  pub learns-wider : {s rest least x y : ℕ} {after : List ℕ} → x ≡ union a rest → y ≡ bit_and v least → Refreshed wide pair x y keeps after
      → Learns wide pair s rest least keeps after true
  learns-wider g h r = wider now.room (rw (g, h, now.labels, now.with) at r)
