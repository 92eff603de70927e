-- Calls: call, new and prim, and what goes back to the caller (document 01, "The handset machine"). Assumes nothing.
use Rattle.std.specs.Prelude.{List, [], Bool, true, false, cond, ℕ, length, replicate}
use Rattle.std.proofs.Math.Option.{Option, none, some}
use Rattle.program.specs.Program.{Program, is_function, this_of, formals_of}
use Rattle.machine.specs.State.{Value, primitive, object, Object, Caller, Frame, State, object_at, frame_at, or_primitive, with_object, with_frame, set_frame, with_thrown}
use Rattle.machine.specs.Lookup.{find_of}
use Rattle.machine.specs.Variable.{write, write_all}
use Rattle.machine.specs.Property.{object_prototype, fresh, next}

-- "Each call makes a frame with its caller and y"; outward of it is the frame that the function keeps
abbrev pub frame_of : Object → ℕ → ℕ → Bool → Frame
frame_of o f y by_new = record {
  scope = o.label;
  outward = some o.kept;
  caller = some (record { frame = f; result = y; by_new = by_new });
  variables = λ v. primitive;
  thrown = [];
}

-- function o is called from frame f: its this variable and its formals get their values
abbrev pub enter : Program → State → ℕ → ℕ → Bool → Object → Value → List Value → State
enter p s f y by_new o this xs =
    let g = length s.frames in
    write_all p (write p (with_frame s (frame_of o f y by_new)) g (this_of p.sheet o.label) this) g (formals_of p.sheet o.label) xs

-- 21: "Calling what is no function does nothing"; every object of a function label, so of label 3, is a function
abbrev pub call_of : Program → State → ℕ → ℕ → Bool → Value → Value → List Value → State
call_of p s f y by_new primitive this xs = s
call_of p s f y by_new (object i) this xs =
    cond (is_function p.sheet (object_at s i).label) (enter p s f y by_new (object_at s i) this xs) s

-- "takes what it finds as prototype where it is an object, else label 1"
abbrev pub prototype_found : Option Value → Value
prototype_found none = object object_prototype
prototype_found (some primitive) = object object_prototype
prototype_found (some (object i)) = object i

-- 22: "New on what is no function does nothing; otherwise it looks up name 3 from the callee as a load does, and takes what it finds as prototype
-- ..; t and y get the new object"; under name 3 it may find any pair (3, j)
abbrev pub new_of : Program → State → ℕ → ℕ → ℕ → ℕ → Value → ℕ → List Value → State
new_of p s f y t l primitive j xs = s
new_of p s f y t l (object i) j xs =
    let made = next s in
    let s' = with_object s (fresh l (prototype_found (find_of s (object i) 3 j)) f) in
    cond (is_function p.sheet (object_at s i).label) (call_of p (write p (write p s' f t made) f y made) f y true (object i) made xs) s

-- "nor does prim on a primitive; on an object, prim finds a value under name 1 or 2 as a load does and calls it with the object as this, dropping
-- the result"; the arguments are primitives
abbrev pub prim_of : Program → State → ℕ → Value → ℕ → ℕ → State
prim_of p s f primitive n j = s
prim_of p s f (object i) n j = call_of p s f 0 false (or_primitive (find_of s (object i) n j)) (object i) (replicate 6 primitive)

-- ---- back to the caller

-- 23: "A return puts its value in the caller's y"; of new: "returning a primitive from it changes nothing"
abbrev pub return_to : Program → State → Option Caller → Value → State
return_to p s none x = s
return_to p s (some c) primitive = cond c.by_new s (write p s c.frame c.result primitive)
return_to p s (some c) (object i) = write p s c.frame c.result (object i)

-- 24, and what is handed on: the value is now among those thrown in frame f or handed to it
abbrev pub throw_in : State → ℕ → Value → State
throw_in s f x = set_frame s f (with_thrown (frame_at s f) x)

-- "hands a value thrown in a frame, or handed to it, to that frame's caller"
abbrev pub hand_to : State → Option Caller → Value → State
hand_to s none x = s
hand_to s (some c) x = throw_in s c.frame x
