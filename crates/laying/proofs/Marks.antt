-- A variable marked among those that a function returns. Assumes nothing.
use mathlib.Core.Path.{◌≡◌, refl, sym, ap, ◌∙◌, subst}
use mathlib.Core.Logic.{◌⊎◌, inl, inr}
use mathlib.Core.List.{List}
use mathlib.Core.Bool.{Bool, true, false, cond}
use Prim.Native.Nat.{ℕ, zero, suc, ◌+◌, ◌*◌, ◌/◌, ◌%◌, ◌^◌, ◌<◌}
use native.Mathlib.Decide.{ℕ_discrete}
use native.Mathlib.Omega.{arith}
use lib.ListN.{length, get_or}
use lib.Seq.{get_or-set_same, get_or-set_other}
use lib.Dec.{ltb}
use borrow.Author.Tests.{ltb-true, ltb-false}
use Rattle.words.specs.Words.{union}
use Rattle.words.proofs.Bits.{On, on-union, on-left, on-right, on-single, single-only}
use Rattle.host.specs.declared.handed.Returns.{Returns}
use Rattle.host.specs.Lays.{returned_word, returns_for, HandsBack}
use Rattle.laying.specs.Marked.{with_mark, Marked}

-- ---- one array

-- the f-th function of the array returns x
abbrev Back : List ℕ → ℕ → ℕ → Type 0
Back ws f x = On (returned_word ws f (x / 64)) (x % 64)

module _ (ws : List ℕ) (g v : ℕ) (long : length ws ≡ 256) (low : g < 64) (small : v < 256) where
  abbrev word : ℕ
  word = get_or ws (4 * g + v / 64) 0

  same_word : (f x : ℕ) → 4 * f + x / 64 ≡ 4 * g + v / 64 → returned_word (with_mark ws g v) f (x / 64) ≡ union word (2 ^ (v % 64))
  same_word f x e =
      ap (λ (i : ℕ). get_or (with_mark ws g v) i 0) e
      ∙ get_or-set_same ws (4 * g + v / 64) (union word (2 ^ (v % 64))) 0 (omega arith)

  other_word : (f x : ℕ) → (4 * f + x / 64 ≡ 4 * g + v / 64 → ⊥) → returned_word (with_mark ws g v) f (x / 64) ≡ returned_word ws f (x / 64)
  other_word f x d = get_or-set_other ws (4 * g + v / 64) (4 * f + x / 64) (union word (2 ^ (v % 64))) 0 d

  pub with-source : (f x : ℕ) → x < 256 → Back (with_mark ws g v) f x → Back ws f x ⊎ ((f ≡ g) × (x ≡ v))
  with-source f x h o = go (ℕ_discrete (4 * f + x / 64) (4 * g + v / 64))
    where
      which : (4 * f + x / 64 ≡ 4 * g + v / 64) → On word (x % 64) ⊎ On (2 ^ (v % 64)) (x % 64) → Back ws f x ⊎ ((f ≡ g) × (x ≡ v))
      which e (inl q) = inl (subst (λ (i : ℕ). On (get_or ws i 0) (x % 64)) (sym e) q)
      which e (inr q) = let m = single-only (v % 64) (x % 64) q in inr (omega arith, omega arith)

      go : Dec (4 * f + x / 64 ≡ 4 * g + v / 64) → Back ws f x ⊎ ((f ≡ g) × (x ≡ v))
      go (yes e) = which e (on-union word (2 ^ (v % 64)) (x % 64) (rw (same_word f x e) at o))
      go (no d) = inl (rw (other_word f x d) at o)

  pub with-keeps : (f x : ℕ) → Back ws f x → Back (with_mark ws g v) f x
  with-keeps f x o = go (ℕ_discrete (4 * f + x / 64) (4 * g + v / 64))
    where
      go : Dec (4 * f + x / 64 ≡ 4 * g + v / 64) → Back (with_mark ws g v) f x
      go (yes e) = rw (same_word f x e) (on-left word (2 ^ (v % 64)) (x % 64) (subst (λ (i : ℕ). On (get_or ws i 0) (x % 64)) e o))
      go (no d) = rw (other_word f x d) o

  pub with-here : Back (with_mark ws g v) g v
  with-here = rw (same_word g v refl) (on-right word (2 ^ (v % 64)) (v % 64) (on-single (v % 64)))

-- ---- the four arrays

-- the q-th of them
abbrev pub quarter : Returns → ℕ → List ℕ
quarter r zero = r.first
quarter r (suc zero) = r.second
quarter r (suc (suc zero)) = r.third
quarter r (suc (suc (suc q))) = r.fourth

for-quarter : (r : Returns) (f : ℕ) → f < 256 → returns_for r f ≡ quarter r (f / 64)
for-quarter r f h = go (ltb f 64) refl (ltb f 128) refl (ltb f 192) refl
  where
    go : (a : Bool) → ltb f 64 ≡ a → (b : Bool) → ltb f 128 ≡ b → (c : Bool) → ltb f 192 ≡ c
        → cond a r.first (cond b r.second (cond c r.third r.fourth)) ≡ quarter r (f / 64)
    go true d b e c g = let i = ltb-true f 64 d in let q : f / 64 ≡ 0 = omega arith in rw q
    go false d true e c g = let i = ltb-false f 64 d in let j = ltb-true f 128 e in let q : f / 64 ≡ 1 = omega arith in rw q
    go false d false e true g = let i = ltb-false f 128 e in let j = ltb-true f 192 g in let q : f / 64 ≡ 2 = omega arith in rw q
    go false d false e false g = let i = ltb-false f 192 g in let q : f / 64 ≡ 3 = omega arith in rw q

-- each array but the q-th stays
abbrev pub Others : ℕ → Returns → Returns → Type 0
Others q r u =
    ((0 ≡ q → ⊥) → u.first ≡ r.first) × ((1 ≡ q → ⊥) → u.second ≡ r.second) × ((2 ≡ q → ⊥) → u.third ≡ r.third) × ((3 ≡ q → ⊥) → u.fourth ≡ r.fourth)

other-quarter : (q : ℕ) (r u : Returns) → Others q r u → (m : ℕ) → m < 4 → (m ≡ q → ⊥) → quarter u m ≡ quarter r m
other-quarter q r u s zero h d = s.0 d
other-quarter q r u s (suc zero) h d = s.1 d
other-quarter q r u s (suc (suc zero)) h d = s.2 d
other-quarter q r u s (suc (suc (suc zero))) h d = s.3 d
other-quarter q r u s (suc (suc (suc (suc m)))) h d = absurd (omega arith)

module _ {r u : Returns} (q g k v : ℕ) (is : k ≡ 64 * q + g) (few : q < 4) (low : g < 64) (small : v < 256) (long : length (quarter r q) ≡ 256)
    (here : quarter u q ≡ with_mark (quarter r q) g v) (others : Others q r u) where
  -- in the quarter of k, and in the others
  same-quarter : (f : ℕ) → f < 256 → f / 64 ≡ q → returns_for u f ≡ with_mark (quarter r q) g v
  same-quarter f h e = for-quarter u f h ∙ ap (quarter u) e ∙ here

  was-quarter : (f : ℕ) → f < 256 → f / 64 ≡ q → returns_for r f ≡ quarter r q
  was-quarter f h e = for-quarter r f h ∙ ap (quarter r) e

  other-same : (f : ℕ) → f < 256 → (f / 64 ≡ q → ⊥) → returns_for u f ≡ returns_for r f
  other-same f h d = for-quarter u f h ∙ other-quarter q r u others (f / 64) (omega arith) d ∙ sym (for-quarter r f h)

  mark-source : (f x : ℕ) → f < 256 → x < 256 → HandsBack u f x → HandsBack r f x ⊎ ((f ≡ k) × (x ≡ v))
  mark-source f x h i o = go (ℕ_discrete (f / 64) q)
    where
      which : f / 64 ≡ q → Back (quarter r q) (f % 64) x ⊎ ((f % 64 ≡ g) × (x ≡ v)) → HandsBack r f x ⊎ ((f ≡ k) × (x ≡ v))
      which e (inl b) = inl (rw (was-quarter f h e) b)
      which e (inr b) = inr (omega (arith, b.0), b.1)

      go : Dec (f / 64 ≡ q) → HandsBack r f x ⊎ ((f ≡ k) × (x ≡ v))
      go (yes e) = which e (with-source (quarter r q) g v long low small (f % 64) x i (rw (same-quarter f h e) at o))
      go (no d) = inl (rw (other-same f h d) at o)

  mark-keeps : (f x : ℕ) → f < 256 → HandsBack r f x → HandsBack u f x
  mark-keeps f x h o = go (ℕ_discrete (f / 64) q)
    where
      go : Dec (f / 64 ≡ q) → HandsBack u f x
      go (yes e) = rw (same-quarter f h e) (with-keeps (quarter r q) g v long low small (f % 64) x (rw (was-quarter f h e) at o))
      go (no d) = rw (other-same f h d) o

  mark-here : HandsBack u k v
  mark-here =
      let e : k % 64 ≡ g = omega arith in
      rw (same-quarter k (omega arith) (omega arith), e) (with-here (quarter r q) g v long low small)

  pub marked : Marked k v r u
  marked = record { source = mark-source; keeps = λ f x h i. mark-keeps f x h; here = mark-here }
