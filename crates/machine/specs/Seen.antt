-- How the laws of the machine speak of a state (document 01, "The handset machine"): where a variable is found, what is found along the prototypes,
-- what a variable holds, what is read from it, and whether it can be written. Said by the file's declarations, the frames, the objects and the bags,
-- and by no function of the machine: a machine that looks less far leaves these as they are. Assumes nothing.
use Rattle.std.specs.Prelude.{◌≡◌, ◌⊎◌, ℕ, ◌<◌, length}
use mathlib.Core.List.{List, [], ◌∷◌, Memᴰ}
use Rattle.std.proofs.Math.Option.{Option, none, some}
use Rattle.format.specs.Sheet.{owner_of, name_of}
use Rattle.program.specs.Program.{Program, Guest}
use Rattle.machine.specs.State.{Value, primitive, object, State, object_at, frame_at}
use Rattle.machine.specs.Variable.{global_object}

-- ---- the two ways outward

-- "in the nearest frame, outward, of its owner scope": from frame f, the nearest of scope k, or none; outward frames are older
pub data Nearest (s : State) (k : ℕ) : ℕ → Option ℕ → Type 0 where
  itself : (f : ℕ) → f < length s.frames → (frame_at s f).scope ≡ k → Nearest s k f (some f)
  outward : (f g : ℕ) (r : Option ℕ) → f < length s.frames → ((frame_at s f).scope ≡ k → ⊥) → (frame_at s f).outward ≡ some g → g < f → Nearest s k g r
      → Nearest s k f r
  nowhere : (f : ℕ) → f < length s.frames → ((frame_at s f).scope ≡ k → ⊥) → (frame_at s f).outward ≡ none → Nearest s k f none

-- "outward along the prototypes": from object i, the first value under (n, j), or none; prototypes are older
pub data Finds (s : State) (n j : ℕ) : ℕ → Option Value → Type 0 where
  own : (i : ℕ) (u : Value) → i < length s.objects → (object_at s i).values n j ≡ some u → Finds s n j i (some u)
  inherited : (i q : ℕ) (r : Option Value) → i < length s.objects → (object_at s i).values n j ≡ none → (object_at s i).prototype ≡ object q → q < i
      → Finds s n j q r → Finds s n j i r
  lacking : (i : ℕ) → i < length s.objects → (object_at s i).values n j ≡ none → (object_at s i).prototype ≡ primitive → Finds s n j i none

-- ---- three sorts of variable; variable 0 is of none

pub record Bag (p : Program) (v : ℕ) : Type 0 where
  pub not_none : 0 < v
  pub guest : Guest
  pub among : Memᴰ guest p.guests
  pub its-bag : guest.bag ≡ v

abbrev pub NoBag : Program → ℕ → Type 0
NoBag p v = (g : Guest) → Memᴰ g p.guests → g.bag ≡ v → ⊥

-- a variable with name n
pub record Named (p : Program) (v n : ℕ) : Type 0 where
  pub not_none : 0 < v
  pub no-bag : NoBag p v
  pub name-is : name_of p.sheet v ≡ n
  pub is_name : n ≡ 255 → ⊥

-- a variable of owner scope k
pub record Local (p : Program) (v k : ℕ) : Type 0 where
  pub not_none : 0 < v
  pub no-bag : NoBag p v
  pub nameless : name_of p.sheet v ≡ 255
  pub owner-is : owner_of p.sheet v ≡ k

-- ---- what a variable holds for a statement in frame f

-- "The guest holds, and reads, any value ever put in its bag"; "a named one is the pair (name, 0) of the global object"; "A variable is found in the
-- nearest frame, outward, of its owner scope"
pub data Holds (p : Program) (s : State) (f v : ℕ) (x : Value) : Type 0 where
  in-bag : Bag p v → Memᴰ x (s.bags v) → Holds p s f v x
  in-global : (n : ℕ) → Named p v n → (object_at s global_object).values n 0 ≡ some x → Holds p s f v x
  in_frame : (k g : ℕ) → Local p v k → Nearest s k f (some g) → (frame_at s g).variables v ≡ x → Holds p s f v x

-- there is nothing to read: "Variable 0 is empty for ever"; "else nothing is read"
pub data Nothing (p : Program) (s : State) (f : ℕ) : ℕ → Type 0 where
  variable-none : Nothing p s f 0
  bag-empty : (v : ℕ) → Bag p v → s.bags v ≡ [] → Nothing p s f v
  no-pair : (v n : ℕ) → Named p v n → (object_at s global_object).values n 0 ≡ none → Nothing p s f v
  no-frame : (v k : ℕ) → Local p v k → Nearest s k f none → Nothing p s f v

-- a statement in frame f may read x from v; where there is nothing it reads a primitive
pub data Reads (p : Program) (s : State) (f v : ℕ) : Value → Type 0 where
  reads_held : (x : Value) → Holds p s f v x → Reads p s f v x
  reads_nothing : Nothing p s f v → Reads p s f v primitive

-- variables and what is read from each of them
pub data ReadsAll (p : Program) (s : State) (f : ℕ) : List ℕ → List Value → Type 0 where
  reads_none : ReadsAll p s f [] []
  reads_more : (v : ℕ) (x : Value) (vs : List ℕ) (xs : List Value) → Reads p s f v x → ReadsAll p s f vs xs → ReadsAll p s f (v ∷ vs) (x ∷ xs)

-- what a statement in frame f writes to v is not dropped
pub data Writable (p : Program) (s : State) (f v : ℕ) : Type 0 where
  to-bag : Bag p v → Writable p s f v
  to-global : (n : ℕ) → Named p v n → global_object < length s.objects → Writable p s f v
  to-frame : (k g : ℕ) → Local p v k → Nearest s k f (some g) → Writable p s f v

-- ---- one write after another

-- writing u leaves v as it is: another variable, not of the same name
pub record Apart (p : Program) (u v : ℕ) : Type 0 where
  pub another : u ≡ v → ⊥
  pub other_name : (n : ℕ) → Named p u n → Named p v n → ⊥

-- what v holds, it holds also after writes to the variables vs: a bag loses nothing
abbrev pub Lasts : Program → ℕ → List ℕ → Type 0
Lasts p v vs = (u : ℕ) → Memᴰ u vs → Bag p v ⊎ Apart p u v

-- where the variables get the values, one after the other, v gets x and keeps it
pub data Gets (p : Program) (v : ℕ) (x : Value) : List ℕ → List Value → Type 0 where
  gets-it : (vs : List ℕ) (xs : List Value) → Lasts p v vs → Gets p v x (v ∷ vs) (x ∷ xs)
  gets-later : (u : ℕ) (y : Value) (vs : List ℕ) (xs : List Value) → Gets p v x vs xs → Gets p v x (u ∷ vs) (y ∷ xs)
