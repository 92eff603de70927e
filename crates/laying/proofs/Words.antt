-- Words that hold the numbers which pass a test, one number more at a time, and the words of the classes. Assumes nothing.
use mathlib.Core.Path.{◌≡◌, refl, sym, ◌∙◌, subst}
use mathlib.Core.Logic.{◌⊎◌, inl, inr}
use mathlib.Core.Bool.{Bool, true, false, cond, true≢false}
use mathlib.Core.List.{List}
use Prim.Native.Nat.{ℕ, ◌+◌, ◌^◌, ◌<◌}
use native.Mathlib.Decide.{ℕ_discrete}
use native.Mathlib.Omega.{arith}
use lib.ListN.{length, get_or, set}
use lib.Seq.{get_or-set_same, get_or-set_other}
use Rattle.words.specs.Words.{union}
use Rattle.words.proofs.Bits.{On, empty-off, on-union, on-left, on-right, on-single, single-only}
use Rattle.laying.specs.Holds.{Holds, of_class, Classes}

pub holds-none : (test : ℕ → Bool) → Holds test 0 0
holds-none test l = (λ o. absurd (empty-off l o), λ h. absurd (omega (arith, h.0)))

pub holds_on : (test : ℕ → Bool) (n w : ℕ) → test n ≡ true → Holds test n w → Holds test (n + 1) (union w (2 ^ n))
holds_on test n w e s l = (λ o. into (on-union w (2 ^ n) l o), λ h. back h (ℕ_discrete l n))
  where
    into : On w l ⊎ On (2 ^ n) l → (l < n + 1) × (test l ≡ true)
    into (inl o) = let h = (s l).0 o in (omega (arith, h.0), h.1)
    into (inr o) = let q = single-only n l o in (omega arith, rw q e)

    back : (l < n + 1) × (test l ≡ true) → Dec (l ≡ n) → On (union w (2 ^ n)) l
    back h (yes q) = on-right w (2 ^ n) l (rw q (on-single n))
    back h (no q) = on-left w (2 ^ n) l ((s l).1 (omega (arith, q, h.0), h.1))

pub holds-off : (test : ℕ → Bool) (n w : ℕ) → (test n ≡ true → ⊥) → Holds test n w → Holds test (n + 1) w
holds-off test n w e s l = (λ o. (let h = (s l).0 o in (omega (arith, h.0), h.1)), λ h. back h (ℕ_discrete l n))
  where
    back : (l < n + 1) × (test l ≡ true) → Dec (l ≡ n) → On w l
    back h (yes q) = absurd (e (subst (λ (m : ℕ). test m ≡ true) q h.1))
    back h (no q) = (s l).1 (omega (arith, q, h.0), h.1)

-- one number more, tested
pub holds-next : (test : ℕ → Bool) (n w : ℕ) → Holds test n w → Holds test (n + 1) (cond (test n) (union w (2 ^ n)) w)
holds-next test n w s = go (test n) refl
  where
    go : (b : Bool) → test n ≡ b → Holds test (n + 1) (cond b (union w (2 ^ n)) w)
    go true e = holds_on test n w e s
    go false e = holds-off test n w (λ q. true≢false (sym q ∙ e)) s

-- ---- the names of each class

pub classes-none : (masks names : List ℕ) → Classes 0 masks names
classes-none masks names c h = absurd (omega arith)

pub classes-next : (masks names : List ℕ) (n w : ℕ) → n < length names → Classes n masks names → Holds (of_class masks n) 32 w
    → Classes (n + 1) masks (set names n w)
classes-next masks names n w long s here c h = go (ℕ_discrete c n)
  where
    go : Dec (c ≡ n) → Holds (of_class masks c) 32 (get_or (set names n w) c 0)
    go (yes e) = rw (e, get_or-set_same names n w 0 long) here
    go (no d) = rw (get_or-set_other names n c w 0 (λ e. d (omega arith))) (s c (omega (arith, d)))
