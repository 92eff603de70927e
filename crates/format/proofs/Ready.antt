-- What the rules and the machine ask of a readable file: how its sheet and its records hang together, array by array. That reading gives it is
-- proved in Readable.antt. Assumes nothing.
use mathlib.Core.Path.{◌≡◌}
use mathlib.Core.Logic.{◌↔◌, ◌⊎◌}
use mathlib.Core.List.{List, [], ◌∷◌, Memᴰ}
use Prim.Native.Nat.{ℕ, ◌+◌, ◌*◌, ◌%◌, ◌^◌, ◌<◌, ◌≤◌}
use lib.ListN.{get_or, take, drop}
use Rattle.words.specs.Words.{bit}
use Rattle.layout.specs.Key.{class_count}
use Rattle.layout.specs.Layout.{fields_of, body_length}
use Rattle.format.specs.Sheet.{Sheet, no_profile, type_of}
use Rattle.format.specs.Fields.{Fits}
use Rattle.format.specs.Records.{Record}
use Rattle.format.proofs.Effect.{Function}
use Rattle.format.proofs.Later.{Sized}

-- a record of kind k and body b is among the records ps
pub record Among (k : ℕ) (b : List ℕ) (ps : List (ℕ × Record)) : Type 0 where
  pub position : ℕ
  pub member : Memᴰ (position, record { kind = k; body = b }) ps

-- every record of ps has a known kind, and its body fits the kind's fields under the sheet s
abbrev pub AllFit : ℕ → Sheet → List (ℕ × Record) → Type 0
AllFit L s ps = (at : ℕ) (r : Record) → Memᴰ (at, r) ps → (0 < body_length r.kind) × Fits L s (fields_of r.kind) r.body

-- the types and flags that labels 0 to 4 start with
abbrev pub start_types : List ℕ
start_types = 1 ∷ 1 ∷ 1 ∷ 2 ∷ 1 ∷ []

abbrev pub start_flags : List ℕ
start_flags = 0 ∷ 1 ∷ 1 ∷ 0 ∷ 1 ∷ []

pub record Labels (types flags : List ℕ) (ps : List (ℕ × Record)) : Type 0 where
  -- a type is 0 to 3
  pub type-small : (l : ℕ) → get_or types l 0 ≤ 3
  -- labels 0 to 4 keep the types they start with
  pub start-type : (l : ℕ) → l < 5 → get_or types l 0 ≡ get_or start_types l 0
  -- and their flags
  pub start-flag : (l : ℕ) → l < 5 → get_or flags l 0 ≡ get_or start_flags l 0
  -- every other declared label has its record
  pub label-record : (l : ℕ) → 5 ≤ l → (get_or types l 0 ≡ 0 → ⊥) → Among 2 (l ∷ get_or types l 0 ∷ get_or flags l 0 ∷ []) ps

-- this and the six formals of label l
abbrev pub seven_of : List ℕ → ℕ → List ℕ
seven_of formals l = take 7 (drop (7 * l) formals)

-- 0, 1 or a declared variable
abbrev pub Held : List ℕ → ℕ → Type 0
Held owners v = (v ≤ 1) ⊎ (get_or owners v 1 ≡ 1 → ⊥)

pub record Functions (owners defined formals : List ℕ) (ps : List (ℕ × Record)) : Type 0 where
  -- the seven variables of label 3 are the guest's bag
  pub guest-formal : (j : ℕ) → j < 7 → get_or formals (21 + j) 0 ≡ 1
  -- an entry is 0, 1 or a declared variable
  pub formal-known : (i : ℕ) → Held owners (get_or formals i 0)
  -- a label from 5 up whose function is known has its record
  pub function-record : (l : ℕ) → 5 ≤ l → (get_or defined l 0 ≡ 0 → ⊥) → Among 4 (l ∷ seven_of formals l) ps

pub record Variables (types owners names : List ℕ) (ps : List (ℕ × Record)) : Type 0 where
  -- a declared variable is 2 to 255
  pub variable-range : (v : ℕ) → (get_or owners v 1 ≡ 1 → ⊥) → (2 ≤ v) × (v < 256)
  -- it belongs to the top level or to a function label
  pub owner-scope : (v : ℕ) → (get_or owners v 1 ≡ 1 → ⊥) → (get_or owners v 1 ≡ 0) ⊎ Function types (get_or owners v 1)
  -- it has its record
  pub variable-record : (v : ℕ) → (get_or owners v 1 ≡ 1 → ⊥) → Among 5 (v ∷ get_or owners v 1 ∷ get_or names v 255 ∷ []) ps
  -- a variable with a name is declared, at the top level, and its name is 0 to 31
  pub named : (v : ℕ) → (get_or names v 255 ≡ 255 → ⊥) → (get_or names v 255 < 32) × (get_or owners v 1 ≡ 0)

pub record Masks (masks : List ℕ) (ps : List (ℕ × Record)) : Type 0 where
  -- a mask that is not 0 has class 0
  pub mask-odd : (n : ℕ) → (get_or masks n 0 ≡ 0 → ⊥) → get_or masks n 0 % 2 ≡ 1
  -- and has its record
  pub mask-record : (n : ℕ) → (get_or masks n 0 ≡ 0 → ⊥) → Among 1 (n ∷ get_or masks n 0 ∷ []) ps

pub record Forbidden (L forbidden : ℕ) (ps : List (ℕ × Record)) : Type 0 where
  -- no label from L up is in the word
  pub forbidden-below : forbidden < 2 ^ L
  -- a label is forbidden exactly where a record says so
  pub forbidden-record : (l : ℕ) → (bit forbidden l ≡ 1) ↔ Among 3 (l ∷ []) ps

pub record Profile (profile : ℕ) (ps : List (ℕ × Record)) : Type 0 where
  -- it is a class, or none
  pub profile-range : (profile < class_count) ⊎ (profile ≡ no_profile)
  -- a record holds guests to a class exactly where that is the one
  pub profile-record : (c : ℕ) → ((c < class_count) × (profile ≡ c)) ↔ Among 9 (c ∷ []) ps

-- s is the sheet that the records ps make
pub record Made (L : ℕ) (s : Sheet) (ps : List (ℕ × Record)) : Type 0 where
  pub sized : Sized L s
  -- every record has a known kind, and its bytes are good under s
  pub all_fit : AllFit L s ps
  pub labels : Labels s.types s.flags ps
  pub functions : Functions s.owners s.defined s.formals ps
  pub variables : Variables s.types s.owners s.names ps
  pub masks : Masks s.masks ps
  pub forbidden : Forbidden L s.forbidden ps
  pub profile : Profile s.profile ps

-- and no function label is left without its function
pub record Ready (L : ℕ) (s : Sheet) (ps : List (ℕ × Record)) : Type 0 where
  pub made : Made L s ps
  pub all-defined : (l : ℕ) → type_of s l ≡ 2 → get_or s.defined l 0 ≡ 0 → ⊥
