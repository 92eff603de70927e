-- The class masks of the names, at the start and as records give them. Assumes nothing.
use mathlib.Core.Path.{◌≡◌}
use mathlib.Core.List.{List, [], ◌∷◌, ◌++◌}
use Prim.Native.Nat.{ℕ, ◌%◌, ◌<◌}
use lib.ListN.{length, get_or, set}
use Rattle.format.specs.Sheet.{start}
use Rattle.format.specs.Records.{Record}
use Rattle.format.proofs.Arrays.{padded, after_store}
use Rattle.format.proofs.Ready.{Among, Masks}
use Rattle.format.proofs.Among.{followed, among-more, among-last}

start-mask-is : (L n : ℕ) → get_or (start L).masks n 0 ≡ 0
unfolding start
start-mask-is L n = padded [] 32 0 n

pub masks-start : (L : ℕ) → Masks (start L).masks []
masks-start L = record { mask-odd = λ n h. absurd (h (start-mask-is L n)); mask-record = λ n h. absurd (h (start-mask-is L n)) }

pub masks-more : {masks : List ℕ} {ps : List (ℕ × Record)} (qs : List (ℕ × Record)) → Masks masks ps → Masks masks (ps ++ qs)
masks-more qs x = record { mask-odd = x.mask-odd; mask-record = λ n h. among-more qs (x.mask-record n h) }

pub masks-given : (masks : List ℕ) (ps : List (ℕ × Record)) (at n m : ℕ) → Masks masks ps → n < length masks → m % 2 ≡ 1
    → Masks (set masks n m) (followed ps at 1 (n ∷ m ∷ []))
masks-given masks ps at n m x h odd =
    record {
      mask-odd = after_store (λ j a. (a ≡ 0 → ⊥) → a % 2 ≡ 1) masks n m 0 h (λ z. odd) (λ j k. x.mask-odd j);
      mask-record =
          after_store (λ j a. (a ≡ 0 → ⊥) → Among 1 (j ∷ a ∷ []) (followed ps at 1 (n ∷ m ∷ []))) masks n m 0 h (λ z. among-last ps at 1 (n ∷ m ∷ []))
          (λ j k z. among-more _ (x.mask-record j z));
    }
