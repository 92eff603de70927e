-- The slots of the pairs, range by range. Assumes nothing.
use mathlib.Core.Path.{◌≡◌, refl, ◌∙◌}
use mathlib.Core.Logic.{◌⊎◌, inl, inr}
use mathlib.Core.Bool.{cond}
use Prim.Native.Nat.{ℕ, ◌+◌, ◌-◌, ◌≤◌, ◌<◌}
use native.Mathlib.Decide.{dec_lt}
use native.Mathlib.Omega.{arith}
use lib.Dec.{ltb}
use borrow.Author.Tests.{le-ltb, lt-ltb}
use Rattle.layout.specs.Key.{inside, outside}
use Rattle.kept.specs.Promise.{chains, throws, handed, under, input, stored, unused, slot_of, Union}

pub slot-chains : (q : ℕ) → q < 4 → slot_of q ≡ chains
unfolding slot_of
slot-chains q h = rw (lt-ltb q 4 h)

pub slot-throws : slot_of 4 ≡ throws
unfolding slot_of
slot-throws = refl

pub slot-handed : slot_of 5 ≡ handed
unfolding slot_of
slot-handed = refl

module _ (q : ℕ) where
  -- the classes, and the names 1 to 3
  pub slot-under-class : {key : ℕ} → 6 ≤ q → q < 14 → key ≡ inside + (q - 6) → slot_of q ≡ under key
  unfolding slot_of
  slot-under-class h i e = rw (le-ltb q 4 (omega arith), le-ltb q 5 (omega arith), le-ltb q 6 h, lt-ltb q 14 i, e)

  pub slot-under-often : {key : ℕ} → 14 ≤ q → q < 17 → key ≡ q - 13 → slot_of q ≡ under key
  unfolding slot_of
  slot-under-often h i e = rw (le-ltb q 4 (omega arith), le-ltb q 5 (omega arith), le-ltb q 6 (omega arith), le-ltb q 14 h, lt-ltb q 17 i, e)

  -- behind those
  behind : 17 ≤ q
      → slot_of q
      ≡ cond (ltb q 24) (input (q - 17))
      (cond (ltb q 32) (stored (inside + (q - 24)))
      (cond (ltb q 64) (under (q - 32))
      (cond (ltb q 72) (under (outside + (q - 64))) (cond (ltb q 80) (stored (outside + (q - 72))) (cond (ltb q 112) (stored (q - 80)) unused)))))
  unfolding slot_of
  behind h = rw (le-ltb q 4 (omega arith), le-ltb q 5 (omega arith), le-ltb q 6 (omega arith), le-ltb q 14 (omega arith), le-ltb q 17 h)

  pub slot-inputs : {j : ℕ} → 17 ≤ q → q < 24 → j ≡ q - 17 → slot_of q ≡ input j
  slot-inputs h i e = behind h ∙ rw (lt-ltb q 24 i, e)

  pub slot-stored-class : {key : ℕ} → 24 ≤ q → q < 32 → key ≡ inside + (q - 24) → slot_of q ≡ stored key
  slot-stored-class h i e = behind (omega arith) ∙ rw (le-ltb q 24 h, lt-ltb q 32 i, e)

  pub slot-under-name : {key : ℕ} → 32 ≤ q → q < 64 → key ≡ q - 32 → slot_of q ≡ under key
  slot-under-name h i e = behind (omega arith) ∙ rw (le-ltb q 24 (omega arith), le-ltb q 32 h, lt-ltb q 64 i, e)

  -- behind those, where there is room for more than 32 pairs
  far : 64 ≤ q → slot_of q ≡ cond (ltb q 72) (under (outside + (q - 64))) (cond (ltb q 80) (stored (outside + (q - 72))) (cond (ltb q 112) (stored (q - 80)) unused))
  far h = behind (omega arith) ∙ rw (le-ltb q 24 (omega arith), le-ltb q 32 (omega arith), le-ltb q 64 h)

  pub slot-under-outside : {key : ℕ} → 64 ≤ q → q < 72 → key ≡ outside + (q - 64) → slot_of q ≡ under key
  slot-under-outside h i e = far h ∙ rw (lt-ltb q 72 i, e)

  pub slot-stored-outside : {key : ℕ} → 72 ≤ q → q < 80 → key ≡ outside + (q - 72) → slot_of q ≡ stored key
  slot-stored-outside h i e = far (omega arith) ∙ rw (le-ltb q 72 h, lt-ltb q 80 i, e)

  pub slot-stored-name : {key : ℕ} → 80 ≤ q → q < 112 → key ≡ q - 80 → slot_of q ≡ stored key
  slot-stored-name h i e = far (omega arith) ∙ rw (le-ltb q 72 (omega arith), le-ltb q 80 h, lt-ltb q 112 i, e)

  slot-unused : 112 ≤ q → slot_of q ≡ unused
  slot-unused h = far (omega arith) ∙ rw (le-ltb q 72 (omega arith), le-ltb q 80 (omega arith), le-ltb q 112 h)

  -- the pairs that are not forgotten are no unions
  pub no-union : 17 ≤ q → (q < 32) ⊎ (72 ≤ q) → Union (slot_of q) → ⊥
  no-union h (inl i) u =
      elim (dec_lt q 24) [
        | yes a ↦ rw (slot-inputs h a refl) at u
        | no a ↦ rw (slot-stored-class (omega (arith, a)) i refl) at u
      ]
  no-union h (inr i) u = go (dec_lt q 80) (dec_lt q 112)
    where
      go : Dec (q < 80) → Dec (q < 112) → ⊥
      go (yes a) _ = rw (slot-stored-outside i a refl) at u
      go (no a) (yes b) = rw (slot-stored-name (omega (arith, a)) b refl) at u
      go (no a) (no b) = rw (slot-unused (omega (arith, b))) at u

pub slot-input : (j : ℕ) → j < 7 → slot_of (17 + j) ≡ input j
slot-input j h = slot-inputs (17 + j) (omega arith) (omega arith) (omega arith)
