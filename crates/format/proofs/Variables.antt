-- The owners and names of the variables, at the start and as records declare variables. Assumes nothing.
use mathlib.Core.Path.{◌≡◌, ◌∙◌}
use mathlib.Core.Logic.{◌⊎◌, inl, inr}
use mathlib.Core.List.{List, [], ◌∷◌, ◌++◌}
use Prim.Native.Nat.{ℕ, ◌<◌, ◌≤◌}
use native.Mathlib.Omega.{arith}
use lib.ListN.{length, get_or, set}
use Rattle.format.specs.Sheet.{start}
use Rattle.format.specs.Records.{Record}
use Rattle.format.proofs.Effect.{Function}
use Rattle.format.proofs.Arrays.{padded, after_store, after-stores}
use Rattle.format.proofs.Ready.{Among, Variables}
use Rattle.format.proofs.Among.{followed, among-more, among-last}

start-owner-is : (L v : ℕ) → get_or (start L).owners v 1 ≡ 1
unfolding start
start-owner-is L v = padded [] 256 1 v

start-name-is : (L v : ℕ) → get_or (start L).names v 255 ≡ 255
unfolding start
start-name-is L v = padded [] 256 255 v

pub variables-start : (L : ℕ) → Variables (start L).types (start L).owners (start L).names []
variables-start L =
    record {
      variable-range = λ v h. absurd (h (start-owner-is L v));
      owner-scope = λ v h. absurd (h (start-owner-is L v));
      variable-record = λ v h. absurd (h (start-owner-is L v));
      named = λ v h. absurd (h (start-name-is L v));
    }

-- a declared function label stays one as labels are declared
function-kept : (types types' : List ℕ) → ((l : ℕ) → (get_or types l 0 ≡ 0 → ⊥) → get_or types' l 0 ≡ get_or types l 0) → (l : ℕ)
    → Function types l → Function types' l
function-kept types types' k l f =
    record { from-five = f.from-five; is-function = k l (λ z. omega (arith, f.is-function)) ∙ f.is-function }

scope_kept : (types types' : List ℕ) → ((l : ℕ) → (get_or types l 0 ≡ 0 → ⊥) → get_or types' l 0 ≡ get_or types l 0) → (l : ℕ)
    → (l ≡ 0) ⊎ Function types l → (l ≡ 0) ⊎ Function types' l
scope_kept types types' k l (inl e) = inl e
scope_kept types types' k l (inr f) = inr (function-kept types types' k l f)

pub variables-more : (types types' owners names : List ℕ) (ps qs : List (ℕ × Record))
    → ((l : ℕ) → (get_or types l 0 ≡ 0 → ⊥) → get_or types' l 0 ≡ get_or types l 0)
    → Variables types owners names ps → Variables types' owners names (ps ++ qs)
variables-more types types' owners names ps qs k x =
    record {
      variable-range = x.variable-range;
      owner-scope = λ v h. scope_kept types types' k (get_or owners v 1) (x.owner-scope v h);
      variable-record = λ v h. among-more qs (x.variable-record v h);
      named = x.named;
    }

pub variables-declared : (types owners names : List ℕ) (ps : List (ℕ × Record)) (at v k n : ℕ) → Variables types owners names ps → v < length owners
    → v < length names → 2 ≤ v → v < 256 → (k ≡ 0) ⊎ Function types k → (n ≡ 255) ⊎ ((n < 32) × (k ≡ 0))
    → Variables types (set owners v k) (set names v n) (followed ps at 5 (v ∷ k ∷ n ∷ []))
variables-declared types owners names ps at v k n x ho hn h2 h256 hk name =
    record {
      variable-range = after_store (λ j o. (o ≡ 1 → ⊥) → (2 ≤ j) × (j < 256)) owners v k 1 ho (λ h. (h2, h256)) (λ j m. x.variable-range j);
      owner-scope = after_store (λ j o. (o ≡ 1 → ⊥) → (o ≡ 0) ⊎ Function types o) owners v k 1 ho (λ h. hk) (λ j m. x.owner-scope j);
      variable-record =
          after-stores (λ j o a. (o ≡ 1 → ⊥) → Among 5 (j ∷ o ∷ a ∷ []) (followed ps at 5 (v ∷ k ∷ n ∷ []))) owners names v k n 1 255 ho hn
          (λ h. among-last ps at 5 (v ∷ k ∷ n ∷ [])) (λ j m h. among-more _ (x.variable-record j h));
      named = after-stores (λ j o a. (a ≡ 255 → ⊥) → (a < 32) × (o ≡ 0)) owners names v k n 1 255 ho hn (has-name name) (λ j m. x.named j);
    }
  where
    has-name : (n ≡ 255) ⊎ ((n < 32) × (k ≡ 0)) → (n ≡ 255 → ⊥) → (n < 32) × (k ≡ 0)
    has-name (inl e) h = absurd (h e)
    has-name (inr e) h = e
