-- Words of outcomes, computed. The tests of the C header and of the Rust package read this list (tests/c/run, packages/rust/tests/words.rs).
-- Assumes nothing.
use mathlib.Core.Path.{◌≡◌, refl}
use mathlib.Core.List.{List, [], ◌∷◌, map}
use Prim.Native.Nat.{ℕ}
use Rattle.answer.specs.Outcome.{Outcome, confined, leaks, accepted, refused, holds, choice, none_helps, packed}

examples : List (Outcome × ℕ)
examples =
    (confined 45, 193273528320)
    ∷ (confined 4194303, 18014394214514688)
    ∷ (leaks 5 3 148, 635655554320)
    ∷ (leaks 255 255 4194303, 18014394248003344)
    ∷ (accepted 0, 32)
    ∷ (accepted 4194303, 18014394214514720)
    ∷ (refused 1 0, 1)
    ∷ (refused 7 32768, 524295)
    ∷ (refused 13 1152921504606846975, 18446744073709551613)
    ∷ (refused 15 0, 15)
    ∷ (refused 16 0, 48)
    ∷ (refused 16 32767, 8388400)
    ∷ (holds 5 3, 393307)
    ∷ (holds 255 255, 33427451)
    ∷ (choice 0, 64)
    ∷ (choice 4095, 1048384)
    ∷ (none_helps, 80)
    ∷ []

packed-examples : map (λ (e : Outcome × ℕ). packed e.0) examples ≡ map (λ (e : Outcome × ℕ). e.1) examples
unfolding examples
packed-examples = refl
