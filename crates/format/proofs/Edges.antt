-- Small files and what is refused of them, computed: each number, in a field of each sort, and document 01's edges, for 64 labels; and for 256
-- that every label byte can be declared, owned and a scope. Assumes nothing.
use mathlib.Core.Path.{◌≡◌, refl}
use mathlib.Core.List.{List, [], ◌∷◌, ◌++◌, map}
use Prim.Native.Nat.{ℕ}
use lib.ListN.{replicate}
use Rattle.words.specs.Words.{union}
use Rattle.format.specs.Sheet.{start}
use Rattle.format.specs.Fields.{good, refusal_of, first_bad}
use Rattle.format.specs.Records.{misnamed, twice, after, whole_refusal, body_refusal}
use Rattle.format.specs.Reading.{record_refusal, read_on, read_from, lacking, finished, read_file}

-- the number of the refusal, 0 where there is none, and the position
unfoldable pub said_of : ℕ → List ℕ → ℕ × ℕ
unfolding read_file finished read_from read_on record_refusal lacking body_refusal whole_refusal misnamed twice after first_bad good refusal_of start union
said_of L xs = let d = read_file L xs in (d.refusal, d.position)

abbrev pub Says : List (List ℕ) → List (ℕ × ℕ) → Type 0
Says files outcomes = map (said_of 64) files ≡ outcomes

-- ---- what the files are made of

abbrev pub plain : List ℕ
plain = 2 ∷ 5 ∷ 1 ∷ 0 ∷ []

abbrev pub function : List ℕ
function = 2 ∷ 6 ∷ 2 ∷ 0 ∷ 4 ∷ 6 ∷ 0 ∷ 0 ∷ 0 ∷ 0 ∷ 0 ∷ 0 ∷ 0 ∷ []

abbrev pub variable : List ℕ
variable = 5 ∷ 2 ∷ 0 ∷ 255 ∷ []

-- a load with key k
abbrev pub load : ℕ → List ℕ
load k = plain ++ 17 ∷ 0 ∷ 0 ∷ 0 ∷ k ∷ 5 ∷ []

-- and a store
abbrev pub store : ℕ → List ℕ
store k = 18 ∷ 0 ∷ 0 ∷ k ∷ 0 ∷ []

-- ---- by number

pub nothing-refused : Says ([] ∷ plain ∷ function ∷ variable ∷ (3 ∷ 3 ∷ 3 ∷ 3 ∷ []) ∷ []) ((0, 0) ∷ (0, 4) ∷ (0, 13) ∷ (0, 4) ∷ (0, 4) ∷ [])
unfolding said_of
nothing-refused = refl

-- 1: a kind that is no kind, behind a good record too
pub unknown-kinds : Says ((0 ∷ []) ∷ (27 ∷ 0 ∷ []) ∷ (3 ∷ 3 ∷ 0 ∷ []) ∷ []) ((1, 0) ∷ (1, 0) ∷ (1, 2) ∷ [])
unfolding said_of
unknown-kinds = refl

-- 2: before any bad byte
pub cut-records : Says ((3 ∷ []) ∷ (2 ∷ 64 ∷ 1 ∷ []) ∷ (3 ∷ 3 ∷ 2 ∷ 5 ∷ 1 ∷ []) ∷ []) ((2, 0) ∷ (2, 0) ∷ (2, 2) ∷ [])
unfolding said_of
cut-records = refl

-- 3: variable 1, in a declaration and in a grant; one that is not declared
pub bad-variables : Says ((5 ∷ 1 ∷ 0 ∷ 255 ∷ []) ∷ (6 ∷ 1 ∷ []) ∷ (16 ∷ 0 ∷ 2 ∷ 0 ∷ []) ∷ []) ((3, 0) ∷ (3, 0) ∷ (3, 0) ∷ [])
unfolding said_of
bad-variables = refl

-- 4: label 63 is good and 64 is not; a label declared beforehand; one that is not declared; a scope that is none; a label of the wrong type
pub bad-labels :
    Says ((2 ∷ 63 ∷ 1 ∷ 0 ∷ []) ∷ (2 ∷ 64 ∷ 1 ∷ 0 ∷ []) ∷ (2 ∷ 4 ∷ 1 ∷ 0 ∷ []) ∷ (3 ∷ 5 ∷ []) ∷ (16 ∷ 5 ∷ 0 ∷ 0 ∷ []) ∷ (plain ++ 16 ∷ 5 ∷ 0 ∷ 0 ∷ []) ∷ (function ++ 19 ∷ 0 ∷ 0 ∷ 6 ∷ []) ∷ [])
    ((0, 4) ∷ (4, 0) ∷ (4, 0) ∷ (4, 0) ∷ (4, 0) ∷ (4, 4) ∷ (4, 13) ∷ [])
unfolding said_of
bad-labels = refl

-- 5: keys 31, 128 and 143 are good, 32, 127 and 144 are not (request 01: "136 now reads and 144 is refused 5")
pub bad-keys : Says (load 31 ∷ load 32 ∷ load 127 ∷ load 128 ∷ load 135 ∷ load 136 ∷ load 143 ∷ load 144 ∷ store 31 ∷ store 32 ∷ store 143 ∷ store 144 ∷ [])
    ((0, 10) ∷ (5, 4) ∷ (5, 4) ∷ (0, 10) ∷ (0, 10) ∷ (0, 10) ∷ (0, 10) ∷ (5, 4) ∷ (0, 5) ∷ (5, 0) ∷ (0, 5) ∷ (5, 0) ∷ [])
unfolding said_of
bad-keys = refl

-- 5 and 6: a class up to 7 is good, "A c above 7 is refused 5, a repeat 6" (request 04); a bad class comes before the repeat, and a record that is cut short
-- before both; the one record may stand anywhere, and what is declared behind it is declared
abbrev pub profiles : List (List ℕ)
profiles =
    (9 ∷ 0 ∷ []) ∷ (9 ∷ 7 ∷ []) ∷ (9 ∷ 8 ∷ []) ∷ (9 ∷ 255 ∷ []) ∷ (9 ∷ 0 ∷ 9 ∷ 9 ∷ []) ∷ (9 ∷ 0 ∷ 9 ∷ 1 ∷ []) ∷ (9 ∷ 7 ∷ 9 ∷ 7 ∷ []) ∷ (9 ∷ 0 ∷ 9 ∷ [])
    ∷ (9 ∷ 1 ∷ plain ++ 9 ∷ 1 ∷ []) ∷ (plain ++ 9 ∷ 1 ∷ 1 ∷ 3 ∷ 3 ∷ []) ∷ (9 ∷ 1 ∷ 1 ∷ 3 ∷ 3 ∷ 1 ∷ 3 ∷ 3 ∷ []) ∷ []

abbrev pub profiles_say : List (ℕ × ℕ)
profiles_say = (0, 2) ∷ (0, 2) ∷ (5, 0) ∷ (5, 0) ∷ (5, 2) ∷ (6, 2) ∷ (6, 2) ∷ (2, 2) ∷ (6, 6) ∷ (0, 9) ∷ (6, 5) ∷ []

pub bad-profiles : Says profiles profiles_say
unfolding said_of
bad-profiles = refl

-- 4 and 3: a return in scope 0 is good, in scope 3 or 4, in a plain label's or in one that is not declared it is not; its value is judged where the scope
-- is 0 too (request 02: "It is to be read")
pub returns :
    Says (
    (23 ∷ 0 ∷ 0 ∷ []) ∷ (23 ∷ 0 ∷ 9 ∷ []) ∷ (23 ∷ 0 ∷ 1 ∷ []) ∷ (variable ++ 23 ∷ 0 ∷ 2 ∷ []) ∷ (23 ∷ 3 ∷ 0 ∷ []) ∷ (23 ∷ 4 ∷ 0 ∷ []) ∷ (23 ∷ 6 ∷ 9 ∷ [])
    ∷ (plain ++ 23 ∷ 5 ∷ 0 ∷ []) ∷ (function ++ 23 ∷ 6 ∷ 0 ∷ []) ∷ (function ++ 23 ∷ 6 ∷ 9 ∷ []) ∷ []
    )
    ((0, 3) ∷ (3, 0) ∷ (3, 0) ∷ (0, 7) ∷ (4, 0) ∷ (4, 0) ∷ (4, 0) ∷ (4, 4) ∷ (0, 16) ∷ (3, 13) ∷ [])
unfolding said_of
returns = refl

-- 5: a name, an even mask, a type, a flag; a name of a variable whose owner is a function, which comes before 6
pub bad-values :
    Says ((1 ∷ 32 ∷ 1 ∷ []) ∷ (1 ∷ 0 ∷ 2 ∷ []) ∷ (2 ∷ 5 ∷ 4 ∷ 0 ∷ []) ∷ (2 ∷ 5 ∷ 1 ∷ 2 ∷ []) ∷ (5 ∷ 2 ∷ 0 ∷ 32 ∷ []) ∷ (function ++ 5 ∷ 2 ∷ 6 ∷ 3 ∷ []) ∷ (function ++ variable ++ 5 ∷ 2 ∷ 6 ∷ 3 ∷ []) ∷ [])
    ((5, 0) ∷ (5, 0) ∷ (5, 0) ∷ (5, 0) ∷ (5, 0) ∷ (5, 13) ∷ (5, 17) ∷ [])
unfolding said_of
bad-values = refl

-- 6: a name, a label, a variable and a function declared twice
pub declared-again :
    Says ((1 ∷ 0 ∷ 1 ∷ 1 ∷ 0 ∷ 1 ∷ []) ∷ (plain ++ plain) ∷ (variable ++ variable) ∷ (function ++ 4 ∷ 6 ∷ replicate 7 0) ∷ [])
    ((6, 3) ∷ (6, 4) ∷ (6, 4) ∷ (6, 13) ∷ [])
unfolding said_of
declared-again = refl

-- 7: a function label without its record, at the length of the file
pub function-left-out : Says ((2 ∷ 6 ∷ 2 ∷ 0 ∷ []) ∷ (2 ∷ 6 ∷ 2 ∷ 0 ∷ 3 ∷ 6 ∷ []) ∷ []) ((7, 4) ∷ (7, 6) ∷ [])
unfolding said_of
function-left-out = refl

-- 9: from 32,769 bytes on; of 32,768 the first record is judged
pub long-files : Says (replicate 32768 0 ∷ replicate 32769 0 ∷ []) ((1, 0) ∷ (9, 0) ∷ [])
unfolding said_of
long-files = refl

-- ---- 256 labels

-- a function with the last label, and a variable that it owns
abbrev pub last_function : List ℕ
last_function = 2 ∷ 255 ∷ 2 ∷ 0 ∷ 4 ∷ 255 ∷ 0 ∷ 0 ∷ 0 ∷ 0 ∷ 0 ∷ 0 ∷ 0 ∷ []

abbrev pub owned : List ℕ
owned = 5 ∷ 2 ∷ 255 ∷ 255 ∷ []

-- a return in scope 255 and in scope 0 is good
pub large-returns :
    map (said_of 256) ((last_function ++ 23 ∷ 255 ∷ 0 ∷ []) ∷ (23 ∷ 0 ∷ 0 ∷ []) ∷ (23 ∷ 0 ∷ 9 ∷ []) ∷ (23 ∷ 255 ∷ 0 ∷ []) ∷ [])
    ≡ ((0, 16) ∷ (0, 3) ∷ (3, 0) ∷ (4, 0) ∷ [])
unfolding said_of
large-returns = refl

-- the same of classes
pub large-profiles : map (said_of 256) profiles ≡ profiles_say
unfolding said_of
large-profiles = refl

-- labels 64 and 255 are good, 4 is not; 255 owns a variable and is a scope, and the variable is declared by that
pub large-labels :
    map (said_of 256) (
    (2 ∷ 64 ∷ 1 ∷ 0 ∷ []) ∷ (2 ∷ 255 ∷ 1 ∷ 0 ∷ []) ∷ (2 ∷ 4 ∷ 1 ∷ 0 ∷ [])
    ∷ (last_function ++ owned) ∷ (last_function ++ owned ++ 16 ∷ 255 ∷ 2 ∷ 2 ∷ []) ∷ (last_function ++ owned ++ owned) ∷ []
    )
    ≡ ((0, 4) ∷ (0, 4) ∷ (4, 0) ∷ (0, 17) ∷ (0, 21) ∷ (6, 17) ∷ [])
unfolding said_of
large-labels = refl
