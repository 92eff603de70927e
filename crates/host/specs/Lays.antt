-- What the engine goes by beside the table: the labels of functions and of built-in objects, the names of each class, the guest's key, the formals of
-- functions and the variables that they hand back. Assumes nothing.
use Rattle.std.specs.Prelude.{◌≡◌, ◌⊎◌, ◌↔◌, Bool, true, cond, ℕ, ◌+◌, ◌-◌, ◌*◌, ◌/◌, ◌%◌, ◌^◌, ◌<◌, get_or, take, ltb}
use mathlib.Core.List.{List, Memᴰ}
use Rattle.words.specs.Words.{bit, difference}
use Rattle.rows.specs.Edition.{labels}
use Rattle.layout.specs.Key.{inside, outside, Key}
use Rattle.format.specs.Sheet.{built_in}
use Rattle.rules.specs.Table.{Table, Has}
use Rattle.program.specs.Program.{Program, names_of, guest_class, is_function, returns_of}
use Rattle.sets.specs.declared.Set.{Set}
use Rattle.sets.specs.Value.{value}
use Rattle.host.specs.declared.Host.{Host}
use Rattle.host.specs.declared.handed.Returns.{Returns}

-- the labels of functions, and those of built-in objects
abbrev pub functions_in : Bool → Host → ℕ
functions_in wide host = value wide host.functions

abbrev pub built_ins_in : Bool → Host → ℕ
built_ins_in wide host = value wide host.built_ins

-- the names of class c as the array has them
abbrev pub class_in : Host → ℕ → ℕ
class_in host c = get_or host.classes c 0

-- the guest's key: that of its class
abbrev pub guest_key_in : Host → ℕ
guest_key_in host = inside + host.guest_class

-- all 32 names
abbrev pub all_names : ℕ
all_names = 2 ^ 32 - 1

-- the names of a key as a word: bit n for name n
abbrev pub names_in : Host → ℕ → ℕ
names_in host key =
    cond (ltb key inside) (2 ^ key)
    (cond (ltb key outside) (class_in host (key - inside))
    (difference all_names (class_in host (key - outside))))

-- the word for the variables from 64 * q up of the f-th function of an array
abbrev pub returned_word : List ℕ → ℕ → ℕ → ℕ
returned_word ws f q = get_or ws (4 * f + q) 0

-- the array that has function f: each has 64, of every function four words, the variables
abbrev pub returns_for : Returns → ℕ → List ℕ
returns_for r f = cond (ltb f 64) r.first (cond (ltb f 128) r.second (cond (ltb f 192) r.third r.fourth))

-- the four words of function f
abbrev pub returned : Returns → ℕ → Set
returned r f =
    let ws = returns_for r f in
    record { a = returned_word ws (f % 64) 0; b = returned_word ws (f % 64) 1; c = returned_word ws (f % 64) 2; d = returned_word ws (f % 64) 3 }

-- function f hands back variable x
abbrev pub HandsBack : Returns → ℕ → ℕ → Type 0
HandsBack r f x = bit (returned_word (returns_for r f) (f % 64) (x / 64)) (x % 64) ≡ 1

-- no function hands anything back
abbrev pub ReturnsNothing : Returns → Type 0
ReturnsNothing r = (f x : ℕ) → HandsBack r f x → ⊥

-- the labels, names and class are those of program p
pub record Lays (wide : Bool) (p : Program) (host : Host) : Type 0 where
  pub functions : (f : ℕ) → (bit (functions_in wide host) f ≡ 1) ↔ (is_function p.sheet f ≡ true)
  pub built-ins : (l : ℕ) → (bit (built_ins_in wide host) l ≡ 1) ↔ (built_in p.sheet l ≡ true)
  pub names : (key n : ℕ) → Key key → (bit (names_in host key) n ≡ 1) ↔ Memᴰ n (names_of p.sheet key)
  pub guest-key : guest_key_in host ≡ inside + guest_class p.sheet

-- every label of s is a function's
abbrev pub Functions : Program → ℕ → Type 0
Functions p s = (f : ℕ) → bit s f ≡ 1 → is_function p.sheet f ≡ true

-- the array has the inputs of p's functions, seven of each
abbrev pub FormalsOf : Program → List ℕ → Type 0
FormalsOf p formals = (f j : ℕ) → is_function p.sheet f ≡ true → j < 7 → get_or p.sheet.formals (7 * f + j) 0 ≡ get_or formals (7 * f + j) 0

-- the arrays have the variables that p's functions return
abbrev pub ReturnsOf : Program → Returns → Type 0
ReturnsOf p r = (f x : ℕ) → is_function p.sheet f ≡ true → ((x < 256) × HandsBack r f x) ↔ Memᴰ x (returns_of p f)

-- what the rules of statements go by is that of program p
pub record Serves (wide : Bool) (p : Program) (host : Host) : Type 0 where
  pub lays : Lays wide p host
  pub formals-of : FormalsOf p host.sheet.now.formals
  pub returning : ReturnsOf p host.returns

-- and so are the types of labels
pub record Known (wide : Bool) (p : Program) (host : Host) : Type 0 where
  pub serves : Serves wide p host
  pub typed : p.sheet.types ≡ take (labels wide) host.sheet.now.types

-- what function f hands back: the labels of the variables that it returns
abbrev pub handed_back : Returns → Table → ℕ → ℕ → Type 0
handed_back r t f m = (x : ℕ) × (x < 256) × HandsBack r f x × Has t x m

-- z is `start` with the labels of the variables that function f returns
pub record Handing (r : Returns) (f : ℕ) (t : Table) (start z : ℕ) : Type 0 where
  pub source : (m : ℕ) → bit z m ≡ 1 → (bit start m ≡ 1) ⊎ handed_back r t f m
  pub keeps : (m : ℕ) → bit start m ≡ 1 → bit z m ≡ 1
  pub all : (m : ℕ) → handed_back r t f m → bit z m ≡ 1
