-- Variables: where each one is found, and how it is read and written (document 01, "The handset machine"). Assumes nothing.
use Rattle.std.specs.Prelude.{List, [], ◌∷◌, Bool, false, cond, ◌||◌, ℕ, zero, suc, get_or, eqb}
use Rattle.std.proofs.Math.Option.{Option, none, some}
use Rattle.format.specs.Sheet.{owner_of, name_of}
use Rattle.program.specs.Program.{Program, Guest}
use Rattle.machine.specs.State.{Value, primitive, State, object_at, frame_at, or_primitive, set_object, set_frame, with_bagged, with_value, with_variable}
use Rattle.machine.specs.Lookup.{nearest_of}

pub data Place : Type 0 where
  nowhere : Place  -- "Variable 0 is empty for ever"
  bag : Place  -- a guest's bag
  named : ℕ → Place  -- by its name: "the pair (name, 0) of the global object"
  local : ℕ → Place  -- by its owner scope: "in the nearest frame, outward, of its owner scope"

-- the variable is a guest's bag
abbrev pub is_bag : List Guest → ℕ → Bool
is_bag [] v = false
is_bag (g ∷ gs) v = eqb g.bag v || is_bag gs v

-- where variable v is found; no frame has the scope that stands for the owner of what is not declared
abbrev pub place_of : Program → ℕ → Place
place_of p zero = nowhere
place_of p (suc v) =
    cond (is_bag p.guests (suc v)) bag
    (cond (eqb (name_of p.sheet (suc v)) 255) (local (owner_of p.sheet (suc v)))
    (named (name_of p.sheet (suc v))))

-- the global object stands second in the list of objects, behind its prototype
abbrev pub global_object : ℕ
global_object = 1

-- ---- reading

-- "else nothing is read"
abbrev pub read_in : State → Option ℕ → ℕ → Value
read_in s none v = primitive
read_in s (some f) v = (frame_at s f).variables v

abbrev pub read_place : Place → State → ℕ → ℕ → ℕ → Value
read_place nowhere s f v i = primitive
read_place bag s f v i = get_or (s.bags v) i primitive
read_place (named n) s f v i = or_primitive ((object_at s global_object).values n 0)
read_place (local k) s f v i = read_in s (nearest_of s f k) v

-- variable v as a statement in frame f reads it; of a bag, the i-th value ever put there
abbrev pub read : Program → State → ℕ → ℕ → ℕ → Value
read p s f v i = read_place (place_of p v) s f v i

-- variables read one after the other; `which` says for each field, from number i on, which value of a bag it reads
abbrev pub read_all : Program → State → ℕ → List ℕ → (ℕ → ℕ) → ℕ → List Value
read_all p s f [] which i = []
read_all p s f (v ∷ vs) which i = read p s f v (which i) ∷ read_all p s f vs which (suc i)

-- ---- writing

-- "else nothing is .. written"
abbrev pub write_in : State → Option ℕ → ℕ → Value → State
write_in s none v x = s
write_in s (some f) v x = set_frame s f (with_variable (frame_at s f) v x)

abbrev pub write_place : Place → State → ℕ → ℕ → Value → State
write_place nowhere s f v x = s
write_place bag s f v x = with_bagged s v x
write_place (named n) s f v x = set_object s global_object (with_value (object_at s global_object) n 0 x)
write_place (local k) s f v x = write_in s (nearest_of s f k) v x

-- variable v as a statement in frame f writes it
abbrev pub write : Program → State → ℕ → ℕ → Value → State
write p s f v x = write_place (place_of p v) s f v x

abbrev pub write_all : Program → State → ℕ → List ℕ → List Value → State
write_all p s f [] xs = s
write_all p s f (v ∷ vs) [] = s
write_all p s f (v ∷ vs) (x ∷ xs) = write_all p (write p s f v x) f vs xs
