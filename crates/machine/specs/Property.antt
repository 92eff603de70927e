-- Objects and their properties: prototypes, what is made, load and store (document 01, "The handset machine"). Assumes nothing.
use Rattle.std.specs.Prelude.{List, [], ◌∷◌, Bool, false, cond, ◌||◌, ℕ, zero, suc, length, eqb}
use Rattle.std.proofs.Math.Option.{none}
use Rattle.format.specs.Sheet.{type_of, built_in}
use Rattle.program.specs.Program.{Program, Guest}
use Rattle.machine.specs.State.{Value, primitive, object, Object, State, object_at, or_primitive, with_object, set_object, with_value}
use Rattle.machine.specs.Lookup.{find_of}
use Rattle.machine.specs.Variable.{write}

-- ---- prototypes

-- the objects of labels 1, 2 and 4 stand first, third and fourth in the list of objects
abbrev pub object_prototype : ℕ
object_prototype = 0

abbrev pub function_prototype : ℕ
function_prototype = 2

abbrev pub array_prototype : ℕ
array_prototype = 3

-- "prototypes by type": 1 plain, 2 function, 3 array; type 0 is no type
abbrev pub prototype_of_type : ℕ → Value
prototype_of_type zero = primitive
prototype_of_type (suc zero) = object object_prototype
prototype_of_type (suc (suc zero)) = object function_prototype
prototype_of_type (suc (suc (suc t))) = object array_prototype

-- the label is that of what a guest makes
abbrev pub is_guest : List Guest → ℕ → Bool
is_guest [] l = false
is_guest (g ∷ gs) l = eqb g.label l || is_guest gs l

-- "unless made by new, its objects take prototype 1, 2 or 4, and those of the host the one of their type"; c is the guest's choice
abbrev pub prototype_for : Program → ℕ → ℕ → Value
prototype_for p l c = cond (is_guest p.guests l) (prototype_of_type (suc c)) (prototype_of_type (type_of p.sheet l))

-- ---- what is made

-- an object with nothing in it, made in frame f
abbrev pub fresh : ℕ → Value → ℕ → Object
fresh l x f = record { label = l; prototype = x; values = λ n j. none; kept = f }

-- the object that will be made next
abbrev pub next : State → Value
next s = object (length s.objects)

-- 19: make
abbrev pub make_object : Program → State → ℕ → ℕ → ℕ → ℕ → State
make_object p s f y l c = write p (with_object s (fresh l (prototype_for p l c) f)) f y (next s)

-- 20: "Make function puts a fresh q under (3, 0)."
abbrev pub make_function_object : Program → State → ℕ → ℕ → ℕ → ℕ → ℕ → ℕ → State
make_function_object p s f y l q c c' =
    let s' = with_object s (fresh q (prototype_for p q c') f) in
    write p (with_object s' (with_value (fresh l (prototype_for p l c) f) 3 0 (next s))) f y (next s')

-- ---- load and store

-- 17: "Load looks outward along the prototypes, on a primitive starting from a fresh object w; nothing found is a primitive."
abbrev pub load_from : Program → State → ℕ → ℕ → Value → ℕ → ℕ → ℕ → ℕ → State
load_from p s f y (object i) w c n j = write p s f y (or_primitive (find_of s (object i) n j))
load_from p s f y primitive w c n j =
    let s' = with_object s (fresh w (prototype_for p w c) f) in
    write p s' f y (or_primitive (find_of s' (next s) n j))

-- 18: "Stores to primitives or built-in objects do nothing."
abbrev pub store_to : Program → State → Value → Value → ℕ → ℕ → State
store_to p s primitive x n j = s
store_to p s (object i) x n j =
    cond (built_in p.sheet (object_at s i).label) s (set_object s i (with_value (object_at s i) n j x))
