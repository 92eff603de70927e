-- What the handset machine consists of (document 01, "The handset machine"): values, objects, frames, the guests' bags, and the changes that
-- steps make. Objects and frames are known by their places in lists that only grow. Assumes nothing.
use Rattle.std.specs.Prelude.{List, [], ◌∷◌, ◌++◌, Bool, cond, ◌&&◌, ℕ, get_or, set, eqb}
use Rattle.std.proofs.Math.Option.{Option, none, some}

-- "A value is a primitive or an object."
pub data Value : Type 0 where
  primitive : Value
  object : ℕ → Value  -- by its place in the list of objects

-- "An object has a label, a prototype fixed when made, and values under pairs (name, whole number). A function object keeps the frame it was
-- made in."
pub record Object : Type 0 where
  pub label : ℕ
  pub prototype : Value  -- primitive where it has none
  pub values : ℕ → ℕ → Option Value  -- under (name, number)
  pub kept : ℕ  -- the frame it was made in; only a function's is ever used

-- "its caller and y", and whether `new` made the call
pub record Caller : Type 0 where
  pub frame : ℕ
  pub result : ℕ
  pub by_new : Bool

-- "Each call makes a frame with its caller and y."
pub record Frame : Type 0 where
  pub scope : ℕ
  pub outward : Option ℕ  -- the next frame outward, none from the top frame
  pub caller : Option Caller
  pub variables : ℕ → Value
  pub thrown : List Value  -- "thrown in a frame, or handed to it"; never used up

-- "The guest holds, and reads, any value ever put in its bag"
pub record State : Type 0 where
  pub objects : List Object
  pub frames : List Frame
  pub bags : ℕ → List Value  -- of each bag's variable, what was ever put there, the first first

-- ---- what stands at a place

abbrev pub no_object : Object
no_object = record { label = 0; prototype = primitive; values = λ n j. none; kept = 0 }

abbrev pub no_frame : Frame
no_frame = record { scope = 0; outward = none; caller = none; variables = λ v. primitive; thrown = [] }

abbrev pub object_in : List Object → ℕ → Object
object_in os i = get_or os i no_object

abbrev pub frame_in : List Frame → ℕ → Frame
frame_in fs f = get_or fs f no_frame

abbrev pub object_at : State → ℕ → Object
object_at s i = object_in s.objects i

abbrev pub frame_at : State → ℕ → Frame
frame_at s f = frame_in s.frames f

-- the labels of the objects among some values
abbrev pub labels_among : List Object → List Value → List ℕ
labels_among os [] = []
labels_among os (primitive ∷ xs) = labels_among os xs
labels_among os (object i ∷ xs) = (object_in os i).label ∷ labels_among os xs

-- the labels of the objects that the guest with bag b holds
abbrev pub labels_held : State → ℕ → List ℕ
labels_held s b = labels_among s.objects (s.bags b)

-- nothing found or read is a primitive
abbrev pub or_primitive : Option Value → Value
or_primitive none = primitive
or_primitive (some x) = x

-- ---- changes

abbrev pub with_object : State → Object → State
with_object s o = record { objects = s.objects ++ (o ∷ []); frames = s.frames; bags = s.bags }

abbrev pub with_frame : State → Frame → State
with_frame s f = record { objects = s.objects; frames = s.frames ++ (f ∷ []); bags = s.bags }

abbrev pub set_object : State → ℕ → Object → State
set_object s i o = record { objects = set s.objects i o; frames = s.frames; bags = s.bags }

abbrev pub set_frame : State → ℕ → Frame → State
set_frame s i f = record { objects = s.objects; frames = set s.frames i f; bags = s.bags }

abbrev pub bagged : (ℕ → List Value) → ℕ → Value → ℕ → List Value
bagged bags b x b' = cond (eqb b' b) (bags b' ++ (x ∷ [])) (bags b')

abbrev pub with_bagged : State → ℕ → Value → State
with_bagged s b x = record { objects = s.objects; frames = s.frames; bags = bagged s.bags b x }

abbrev pub stored : (ℕ → ℕ → Option Value) → ℕ → ℕ → Value → ℕ → ℕ → Option Value
stored values n j x n' j' = cond (eqb n' n && eqb j' j) (some x) (values n' j')

abbrev pub with_value : Object → ℕ → ℕ → Value → Object
with_value o n j x = record { label = o.label; prototype = o.prototype; values = stored o.values n j x; kept = o.kept }

abbrev pub assigned : (ℕ → Value) → ℕ → Value → ℕ → Value
assigned variables v x v' = cond (eqb v' v) x (variables v')

abbrev pub with_variable : Frame → ℕ → Value → Frame
with_variable f v x =
    record { scope = f.scope; outward = f.outward; caller = f.caller; variables = assigned f.variables v x; thrown = f.thrown }

abbrev pub with_thrown : Frame → Value → Frame
with_thrown f x = record { scope = f.scope; outward = f.outward; caller = f.caller; variables = f.variables; thrown = f.thrown ++ (x ∷ []) }
