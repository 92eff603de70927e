-- What the words hold that the engine goes by: the labels whose byte is a given one, and the names of a class. Assumes nothing.
use Rattle.std.specs.Prelude.{◌≡◌, ◌↔◌, List, Bool, true, cond, ℕ, ◌<◌, get_or, eqb}
use Rattle.words.specs.Words.{bit}

-- the numbers below n that pass the test are in the word, and no others
abbrev pub Holds : (ℕ → Bool) → ℕ → ℕ → Type 0
Holds test n w = (l : ℕ) → (bit w l ≡ 1) ↔ ((l < n) × (test l ≡ true))

-- label l has byte b
abbrev pub has_byte : List ℕ → ℕ → ℕ → Bool
has_byte bytes b l = eqb (get_or bytes l 0) b

-- the mask of name n, 1 where no record gives one, and whether the name is of class c
abbrev pub mask_in : List ℕ → ℕ → ℕ
mask_in masks n = cond (eqb (get_or masks n 0) 0) 1 (get_or masks n 0)

abbrev pub of_class : List ℕ → ℕ → ℕ → Bool
of_class masks c n = eqb (bit (mask_in masks n) c) 1

-- the names of the classes below n
abbrev pub Classes : ℕ → List ℕ → List ℕ → Type 0
Classes n masks names = (c : ℕ) → c < n → Holds (of_class masks c) 32 (get_or names c 0)
