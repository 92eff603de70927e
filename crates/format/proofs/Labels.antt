-- The types and flags of the labels, at the start and as records declare labels. Assumes nothing.
use mathlib.Core.Path.{◌≡◌, ◌∙◌}
use mathlib.Core.List.{List, [], ◌∷◌, ◌++◌}
use Prim.Native.Nat.{ℕ, zero, suc, ◌-◌, ◌<◌, ◌≤◌}
use native.Mathlib.Omega.{arith}
use lib.ListN.{length, get_or, set, get_or-eq_default}
use Rattle.format.specs.Sheet.{start}
use Rattle.format.specs.Records.{Record}
use Rattle.format.proofs.Arrays.{padded, after_store, after-stores}
use Rattle.format.proofs.Ready.{Among, start_types, start_flags, Labels}
use Rattle.format.proofs.Among.{followed, among-more, among-last}

start-type-is : (L l : ℕ) → get_or (start L).types l 0 ≡ get_or start_types l 0
unfolding start
start-type-is L l = padded start_types (L - 5) 0 l

start-flag-is : (L l : ℕ) → get_or (start L).flags l 0 ≡ get_or start_flags l 0
unfolding start
start-flag-is L l = padded start_flags (L - 5) 0 l

start-type-small : (l : ℕ) → get_or start_types l 0 ≤ 3
start-type-small zero = omega arith
start-type-small (suc zero) = omega arith
start-type-small (suc (suc zero)) = omega arith
start-type-small (suc (suc (suc zero))) = omega arith
start-type-small (suc (suc (suc (suc zero)))) = omega arith
start-type-small (suc (suc (suc (suc (suc l))))) = omega arith

pub labels-start : (L : ℕ) → Labels (start L).types (start L).flags []
labels-start L =
    record {
      type-small = λ l. rw (start-type-is L l) (start-type-small l);
      start-type = λ l h. start-type-is L l;
      start-flag = λ l h. start-flag-is L l;
      label-record = λ l h d. absurd (d (start-type-is L l ∙ get_or-eq_default start_types 0 h));
    }

pub labels-more : {types flags : List ℕ} {ps : List (ℕ × Record)} (qs : List (ℕ × Record)) → Labels types flags ps → Labels types flags (ps ++ qs)
labels-more qs x =
    record {
      type-small = x.type-small;
      start-type = x.start-type;
      start-flag = x.start-flag;
      label-record = λ l h d. among-more qs (x.label-record l h d);
    }

pub labels-declared : (types flags : List ℕ) (ps : List (ℕ × Record)) (at l t f : ℕ) → Labels types flags ps → l < length types → l < length flags
    → 5 ≤ l → t ≤ 3 → Labels (set types l t) (set flags l f) (followed ps at 2 (l ∷ t ∷ f ∷ []))
labels-declared types flags ps at l t f x ht hf h5 h3 =
    record {
      type-small = after_store (λ j a. a ≤ 3) types l t 0 ht h3 (λ j n. x.type-small j);
      start-type = after_store (λ j a. j < 5 → a ≡ get_or start_types j 0) types l t 0 ht (λ h. absurd (omega arith)) (λ j n. x.start-type j);
      start-flag = after_store (λ j a. j < 5 → a ≡ get_or start_flags j 0) flags l f 0 hf (λ h. absurd (omega arith)) (λ j n. x.start-flag j);
      label-record =
          after-stores (λ j a b. 5 ≤ j → (a ≡ 0 → ⊥) → Among 2 (j ∷ a ∷ b ∷ []) (followed ps at 2 (l ∷ t ∷ f ∷ []))) types flags l t f 0 0 ht hf
          (λ h d. among-last ps at 2 (l ∷ t ∷ f ∷ [])) (λ j n h d. among-more _ (x.label-record j h d));
    }
