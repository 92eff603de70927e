-- The names of a key, computed; and what they are in every file. Assumes nothing.
use mathlib.Core.Path.{◌≡◌, refl}
use mathlib.Core.Logic.{◌↔◌}
use mathlib.Core.List.{List, [], ◌∷◌, map, Memᴰ}
use mathlib.Core.Bool.{Bool, true, false, cond}
use Prim.Native.Nat.{ℕ, ◌+◌, ◌-◌, ◌/◌, ◌%◌, ◌^◌, ◌≤◌, ◌<◌}
use native.Mathlib.Nat.{div-one}
use native.Mathlib.Omega.{arith}
use borrow.Author.Tests.{le-ltb, lt-ltb, eq-eqb, eqb-false}
use Rattle.layout.specs.Key.{inside, outside}
use lib.ListN.{get_or}
use lib.Dec.{eqb}
use Rattle.format.specs.Sheet.{Sheet}
use Rattle.format.specs.Reading.{read_file, Readable}
use Rattle.format.proofs.Readable.{readable-ready}
use Rattle.format.proofs.Tests.{untrue, not-both}
use Rattle.rules.specs.Rule.{chosen}
use Rattle.rules.proofs.Labels.{chosen-passes, passes-chosen}
use Rattle.program.specs.Program.{in_class, outside_class, names_of}
use Rattle.program.proofs.File.{name, profile, reading}

-- name 4 is of class 1, name 9 of classes 1 and 3, name 31 of classes 3 and 7
abbrev file : List (List ℕ)
file = name 4 3 ∷ name 9 11 ∷ name 31 137 ∷ []

-- "all names of class c"
pub class-names : map (names_of (reading file).sheet) (129 ∷ 130 ∷ 131 ∷ 135 ∷ []) ≡ (4 ∷ 9 ∷ []) ∷ [] ∷ (9 ∷ 31 ∷ []) ∷ (31 ∷ []) ∷ []
unfolding reading names_of chosen
class-names = refl

-- "all names outside class c", "so 136 means no name"
pub outside-names : map (names_of (reading file).sheet) (136 ∷ 137 ∷ 139 ∷ 143 ∷ []) ≡
    []
    ∷ (0 ∷ 1 ∷ 2 ∷ 3 ∷ 5 ∷ 6 ∷ 7 ∷ 8 ∷ 10 ∷ 11 ∷ 12 ∷ 13 ∷ 14 ∷ 15 ∷ 16 ∷ 17 ∷ 18 ∷ 19 ∷ 20 ∷ 21 ∷ 22 ∷ 23 ∷ 24 ∷ 25 ∷ 26 ∷ 27 ∷ 28 ∷ 29 ∷ 30 ∷ 31 ∷ [])
    ∷ (0 ∷ 1 ∷ 2 ∷ 3 ∷ 4 ∷ 5 ∷ 6 ∷ 7 ∷ 8 ∷ 10 ∷ 11 ∷ 12 ∷ 13 ∷ 14 ∷ 15 ∷ 16 ∷ 17 ∷ 18 ∷ 19 ∷ 20 ∷ 21 ∷ 22 ∷ 23 ∷ 24 ∷ 25 ∷ 26 ∷ 27 ∷ 28 ∷ 29 ∷ 30 ∷ [])
    ∷ (0 ∷ 1 ∷ 2 ∷ 3 ∷ 4 ∷ 5 ∷ 6 ∷ 7 ∷ 8 ∷ 9 ∷ 10 ∷ 11 ∷ 12 ∷ 13 ∷ 14 ∷ 15 ∷ 16 ∷ 17 ∷ 18 ∷ 19 ∷ 20 ∷ 21 ∷ 22 ∷ 23 ∷ 24 ∷ 25 ∷ 26 ∷ 27 ∷ 28 ∷ 29 ∷ 30 ∷ [])
    ∷ []
unfolding reading names_of chosen
outside-names = refl

-- a profile holds the guest, and no key of the host means another name for it (request 04)
pub names-not-held :
    map (names_of (reading (profile 2 ∷ file)).sheet) (4 ∷ 128 ∷ 129 ∷ 131 ∷ 137 ∷ []) ≡ map (names_of (reading file).sheet) (4 ∷ 128 ∷ 129 ∷ 131 ∷ 137 ∷ [])
unfolding reading names_of chosen
names-not-held = refl

outside-chosen : (s : Sheet) (c n : ℕ) → n < 32 → Memᴰ n (chosen (outside_class s c) 32) ↔ (Memᴰ n (chosen (in_class s c) 32) → ⊥)
outside-chosen s c n h = (
  λ a b. not-both (in_class s c n) (chosen-passes (outside_class s c) 32 n a).1 (chosen-passes (in_class s c) 32 n b).1,
  λ f. passes-chosen (outside_class s c) 32 n h (untrue (in_class s c n) (λ e. f (passes-chosen (in_class s c) 32 n h e))),
)

-- in every sheet a name is outside class c exactly where it is not of class c
pub outside-apart : (s : Sheet) (c n : ℕ) → c < 8 → n < 32 → Memᴰ n (names_of s (outside + c)) ↔ (Memᴰ n (names_of s (inside + c)) → ⊥)
unfolding names_of
outside-apart s c n h i =
    let over : (outside + c) - outside ≡ c = omega arith in
    let within : (inside + c) - inside ≡ c = omega arith in
    rw (
      le-ltb (outside + c) inside (omega arith),
      le-ltb (outside + c) outside (omega arith),
      le-ltb (inside + c) inside (omega arith),
      lt-ltb (inside + c) outside (omega arith),
      over,
      within,
    ) (outside-chosen s c n i)

-- "A key byte is a name", whatever its classes
pub one_name : map (names_of (reading file).sheet) (0 ∷ 4 ∷ 31 ∷ []) ≡ (0 ∷ []) ∷ (4 ∷ []) ∷ (31 ∷ []) ∷ []
unfolding reading names_of chosen
one_name = refl

-- "Class 0 holds every name", with and without a record
pub class-zero-names : names_of (reading file).sheet 128 ≡
    0 ∷ 1 ∷ 2 ∷ 3 ∷ 4 ∷ 5 ∷ 6 ∷ 7 ∷ 8 ∷ 9 ∷ 10 ∷ 11 ∷ 12 ∷ 13 ∷ 14 ∷ 15 ∷ 16 ∷ 17 ∷ 18 ∷ 19 ∷ 20 ∷ 21 ∷ 22 ∷ 23 ∷ 24 ∷ 25 ∷ 26 ∷ 27 ∷ 28 ∷ 29 ∷ 30 ∷ 31 ∷ []
unfolding reading names_of chosen
class-zero-names = refl

-- and so it does in every file that can be read, so that "136 means no name"
module _ (L : ℕ) (xs : List ℕ) (five : 5 ≤ L) (readable : Readable L xs) where
  in-class-zero : (n : ℕ) → in_class (read_file L xs).sheet 0 n ≡ true
  in-class-zero n = go (eqb mask 0) refl
    where
      mask : ℕ
      mask = get_or (read_file L xs).sheet.masks n 0

      go : (b : Bool) → eqb mask 0 ≡ b → eqb (cond b 1 mask / 2 ^ 0 % 2) 1 ≡ true
      go true e = refl
      go false e = eq-eqb (mask / 1 % 2) 1 (rw (div-one mask) ((readable-ready L xs five readable).made.masks.mask-odd n (eqb-false mask 0 e)))

  pub every-name-inside : (n : ℕ) → n < 32 → Memᴰ n (names_of (read_file L xs).sheet inside)
  unfolding names_of
  every-name-inside n h = passes-chosen (in_class (read_file L xs).sheet 0) 32 n h (in-class-zero n)

  pub no-name-outside : (n : ℕ) → Memᴰ n (names_of (read_file L xs).sheet outside) → ⊥
  unfolding names_of
  no-name-outside n i =
      not-both (in_class (read_file L xs).sheet 0 n) (chosen-passes (outside_class (read_file L xs).sheet 0) 32 n i).1 (in-class-zero n)
