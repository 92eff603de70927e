-- What the laws of the machine say of a step (document 01, "The handset machine"): which statements there are, in which frames, that a step can
-- bring something about, and what an object made or a function called comes to. Assumes nothing.
use Rattle.std.specs.Prelude.{◌≡◌, Bool, true, false, ℕ, ◌≤◌, ◌<◌, length, replicate}
use mathlib.Core.List.{List, [], ◌∷◌, Memᴰ}
use Rattle.std.proofs.Math.Option.{Option, none, some}
use Rattle.format.specs.Sheet.{type_of, built_in}
use Rattle.program.specs.Statement.{Statement, load, store, make, make_function, call, new, return, throw, catch}
use Rattle.program.specs.Program.{Program, Guest, statements, this_of, formals_of}
use Rattle.machine.specs.State.{Value, primitive, object, State, object_at, frame_at}
use Rattle.machine.specs.Property.{object_prototype, function_prototype, array_prototype}
use Rattle.machine.specs.Variable.{global_object}
use Rattle.machine.specs.Step.{Move, step}
use Rattle.machine.specs.Seen.{Named, Holds, Writable, Lasts, Gets}

-- the program has the statement, in a record or among the guests' own
abbrev pub Says : Program → Statement → Type 0
Says p a = (at : ℕ) × Memᴰ (at, a) (statements p)

-- "The guest is scope 3 with variable 1 in every variable field, w, l, q = 3 and key 128: make function, load, store, call, new, return, throw, catch"; of
-- request 04: "the guest's load and store use key 128 + c", which is the guest's key, "and the prototype property of guest functions is written only if
-- name 3 is in class c": else a function is made without one
pub record GuestSays (p : Program) (g : Guest) : Type 0 where
  pub makes-function : g.prototyped ≡ true → Says p (make_function g.label g.bag g.label g.label)
  pub makes-without : g.prototyped ≡ false → Says p (make g.label g.bag g.label)
  pub loads : Says p (load g.label g.bag g.bag g.key g.label)
  pub stores : Says p (store g.label g.bag g.key g.bag)
  pub calls : Says p (call g.label g.bag g.bag g.bag (replicate 6 g.bag))
  pub calls-new : Says p (new g.label g.bag g.bag g.bag g.label (replicate 6 g.bag))
  pub returns : Says p (return g.label g.bag)
  pub throws : Says p (throw g.label g.bag)
  pub catches : Says p (catch g.label g.bag)

-- there is a frame f, of scope k
pub record In (s : State) (f k : ℕ) : Type 0 where
  pub frame-there : f < length s.frames
  pub scope-is : (frame_at s f).scope ≡ k

-- some step leads from s to a state of which E holds
pub record Can (p : Program) (s : State) (E : State → Type 0) : Type 0 where
  pub move : Move
  pub brings : E (step p move s)

-- ---- what stays, and what is put somewhere

-- s' came of s by writes to the variables vs, and nothing else that s had was altered
pub record Spares (p : Program) (s s' : State) (vs : List ℕ) : Type 0 where
  pub variables-stay : (f v : ℕ) (x : Value) → Lasts p v vs → Holds p s f v x → Holds p s' f v x
  pub pairs-stay : (i n j : ℕ) → i < length s.objects → ((v : ℕ) → Memᴰ v vs → Named p v n → i ≡ global_object → j ≡ 0 → ⊥)
      → (object_at s' i).values n j ≡ (object_at s i).values n j

-- y, for statements in frame f, was given x
pub record Put (p : Program) (s s' : State) (f y : ℕ) (x : Value) : Type 0 where
  pub holds-it : Holds p s' f y x
  pub spares : Spares p s s' (y ∷ [])

-- what a load gives: what it found; "nothing found is a primitive"
pub data Gives : Option Value → Value → Type 0 where
  gives_found : (x : Value) → Gives (some x) x
  gives-primitive : Gives none primitive

-- x was put under (n, j) of object i
pub record Stored (s s' : State) (i n j : ℕ) (x : Value) : Type 0 where
  pub stored : (object_at s' i).values n j ≡ some x
  pub other-pairs : (i' n' j' : ℕ) → (i' ≡ i → n' ≡ n → j' ≡ j → ⊥) → (object_at s' i').values n' j' ≡ (object_at s i').values n' j'
  pub other-variables : (f v : ℕ) → (frame_at s' f).variables v ≡ (frame_at s f).variables v

-- x was thrown in frame f, or handed to it
pub record Thrown (p : Program) (s s' : State) (f : ℕ) (x : Value) : Type 0 where
  pub is-thrown : Memᴰ x (frame_at s' f).thrown
  pub spares : Spares p s s' []

-- ---- what is made

-- "prototypes by type": 1 plain, 2 function, 3 array
pub data TypePrototype : ℕ → ℕ → Type 0 where
  plain : TypePrototype 1 object_prototype
  function : TypePrototype 2 function_prototype
  array : TypePrototype 3 array_prototype

-- "its objects take prototype 1, 2 or 4, and those of the host the one of their type": an object of label l may get prototype q
pub data Prototype (p : Program) (l q : ℕ) : Type 0 where
  of-host : ((g : Guest) → Memᴰ g p.guests → g.label ≡ l → ⊥) → TypePrototype (type_of p.sheet l) q → Prototype p l q
  of-guest : (g : Guest) → Memᴰ g p.guests → g.label ≡ l → (t : ℕ) → TypePrototype t q → Prototype p l q

-- object i is new in s', made in frame f, of label l and with prototype q; it has r under (3, 0) and nothing under any other pair
pub record Made (s s' : State) (i f l q : ℕ) (r : Option Value) : Type 0 where
  pub was-not-there : length s.objects ≤ i
  pub is-there : i < length s'.objects
  pub label_is : (object_at s' i).label ≡ l
  pub prototype-is : (object_at s' i).prototype ≡ object q
  pub made_in : (object_at s' i).kept ≡ f
  pub has : (object_at s' i).values 3 0 ≡ r
  pub has-no-other : (n j : ℕ) → (n ≡ 3 → j ≡ 0 → ⊥) → (object_at s' i).values n j ≡ none

-- "takes what it finds as prototype where it is an object, else label 1"
pub data Takes : Option Value → ℕ → Type 0 where
  takes-found : (q : ℕ) → Takes (some (object q)) q
  finds-primitive : Takes (some primitive) object_prototype
  finds-nothing : Takes none object_prototype

-- ---- what is called

-- the variables that a call of label l writes
abbrev pub entering : Program → ℕ → List ℕ
entering p l = this_of p.sheet l ∷ formals_of p.sheet l

-- function object i was called from frame f with y: "Each call makes a frame with its caller and y"; outward of it is the frame that the function keeps;
-- its this variable and its formals get this and the arguments
pub record Called (p : Program) (s s' : State) (i f y : ℕ) (by_new : Bool) (this : Value) (arguments : List Value) : Type 0 where
  pub frame : ℕ
  pub was-not-there : length s.frames ≤ frame
  pub is-there : frame < length s'.frames
  pub scope-is : (frame_at s' frame).scope ≡ (object_at s i).label
  pub outward-is : (frame_at s' frame).outward ≡ some (object_at s i).kept
  pub caller-is : (frame_at s' frame).caller ≡ some (record { frame = f; result = y; by_new = by_new })
  pub passed : (v : ℕ) (x : Value) → Gets p v x (entering p (object_at s i).label) (this ∷ arguments) → Writable p s' frame v → Holds p s' frame v x

-- function object i was called by new from frame f: "t and y get the new object", of label l and with prototype q; t keeps it unless y, this or a formal
-- is written over it, and y unless this or a formal is
pub record Built (p : Program) (s s' : State) (i f y t l q : ℕ) (arguments : List Value) : Type 0 where
  pub new-object : ℕ
  pub made : Made s s' new-object f l q none
  pub in-t : Lasts p t (y ∷ entering p (object_at s i).label) → Writable p s f t → Holds p s' f t (object new-object)
  pub in-y : Lasts p y (entering p (object_at s i).label) → Writable p s f y → Holds p s' f y (object new-object)
  pub called : Called p s s' i f y true (object new-object) arguments
  pub spares : Spares p s s' (t ∷ y ∷ entering p (object_at s i).label)

-- ---- what does nothing

-- "what is no function"
pub data NoFunction (p : Program) (s : State) : Value → Type 0 where
  primitive-is-none : NoFunction p s primitive
  object-is-none : (i : ℕ) → (type_of p.sheet (object_at s i).label ≡ 2 → ⊥) → NoFunction p s (object i)

-- "primitives or built-in objects"
pub data NoStore (p : Program) (s : State) : Value → Type 0 where
  into-primitive : NoStore p s primitive
  into-built-in : (i : ℕ) → built_in p.sheet (object_at s i).label ≡ true → NoStore p s (object i)
