-- The two lookups outward: to the nearest frame of a scope, and along the prototypes of an object (document 01, "The handset machine"). Each has
-- fuel, of which there is always enough: the crate soundness has that. Assumes nothing.
use Rattle.std.specs.Prelude.{List, cond, ℕ, zero, suc, length, eqb}
use Rattle.std.proofs.Math.Option.{Option, none, some}
use Rattle.machine.specs.State.{Value, primitive, object, Object, Frame, State, object_in, frame_in}

-- the nearest frame of scope k, outward from f, itself first; d bounds how far to look
abbrev pub nearest : List Frame → ℕ → Option ℕ → ℕ → Option ℕ
nearest fs zero f k = none
nearest fs (suc d) none k = none
nearest fs (suc d) (some f) k = cond (eqb (frame_in fs f).scope k) (some f) (nearest fs d (frame_in fs f).outward k)

-- a frame's outward frame is older than it, so there are never more to pass than there are frames
abbrev pub nearest_of : State → ℕ → ℕ → Option ℕ
nearest_of s f k = nearest s.frames (length s.frames) (some f) k

-- the first value under (n, j), "outward along the prototypes", the object itself first; d bounds how far to look
abbrev pub or_else : Option Value → Option Value → Option Value
or_else none y = y
or_else (some x) y = some x

abbrev pub find : List Object → ℕ → Value → ℕ → ℕ → Option Value
find os zero x n j = none
find os (suc d) primitive n j = none
find os (suc d) (object i) n j = or_else ((object_in os i).values n j) (find os d (object_in os i).prototype n j)

-- a prototype is older than its object, so there are never more to pass than there are objects
abbrev pub find_of : State → Value → ℕ → ℕ → Option Value
find_of s x n j = find s.objects (length s.objects) x n j
