-- The start of the handset machine (document 01, "At the start there is one object for labels 0, 1, 2, 4 and for each label of kinds 7 and 8 ..").
-- Assumes nothing.
use Rattle.std.specs.Prelude.{List, [], ◌∷◌, ◌++◌, map, Bool, false, cond, ◌&&◌, ℕ, suc, ◌+◌, eqb}
use Rattle.std.proofs.Math.Option.{Option, none, some}
use Rattle.format.specs.Sheet.{type_of}
use Rattle.program.specs.Statement as say
use Rattle.program.specs.Program.{Program, Guest}
use Rattle.machine.specs.State.{Value, primitive, object, Object, Frame, State, object_at, set_object, with_value}
use Rattle.machine.specs.Variable.{write}
use Rattle.machine.specs.Property.{prototype_of_type, fresh}
use Rattle.machine.specs.Step.{member}

-- what a statement puts in the start
pub data Filling : Type 0 where
  property : ℕ → ℕ → ℕ → Filling  -- 7: l, n, l'
  held : ℕ → ℕ → Filling  -- 8: v, l
  nothing : Filling

abbrev pub filling_of : say.Statement → Filling
filling_of (say.named v n) = nothing
filling_of (say.grant v b) = nothing
filling_of (say.property l n m) = property l n m
filling_of (say.held v l) = held v l
filling_of (say.copy k y x) = nothing
filling_of (say.load k y x key w) = nothing
filling_of (say.store k x key a) = nothing
filling_of (say.make k y l) = nothing
filling_of (say.make_function k y l q) = nothing
filling_of (say.call k y c t args) = nothing
filling_of (say.new k y c t l args) = nothing
filling_of (say.return k x) = nothing
filling_of (say.throw k x) = nothing
filling_of (say.catch k y) = nothing
filling_of (say.prim k x) = nothing

-- in the order of the file
abbrev pub fillings : Program → List Filling
fillings p = map (λ s. filling_of s.1) p.host

-- ---- the labels that stand at the start, one object for each, in this order

abbrev pub with_label : ℕ → List ℕ → List ℕ
with_label l ls = cond (member l ls) ls (ls ++ (l ∷ []))

abbrev pub labels_with : List ℕ → Filling → List ℕ
labels_with ls (property l n m) = with_label m (with_label l ls)
labels_with ls (held v l) = with_label l ls
labels_with ls nothing = ls

abbrev pub labels_from : List ℕ → List Filling → List ℕ
labels_from ls [] = ls
labels_from ls (a ∷ rest) = labels_from (labels_with ls a) rest

-- an object's prototype stands before it
abbrev pub first_labels : List ℕ
first_labels = 1 ∷ 0 ∷ 2 ∷ 4 ∷ []

abbrev pub start_labels : Program → List ℕ
start_labels p = labels_from first_labels (fillings p)

-- the place of a label in the list
abbrev pub place_in : List ℕ → ℕ → ℕ
place_in [] l = 0
place_in (m ∷ ls) l = cond (eqb m l) 0 (suc (place_in ls l))

-- ---- objects and frames

-- "prototypes by type (label 1 has none)"
abbrev pub start_prototype : Program → ℕ → Value
start_prototype p l = cond (eqb l 1) primitive (prototype_of_type (type_of p.sheet l))

-- the top frame stands first
abbrev pub top_frame : ℕ
top_frame = 0

-- "functions kept by the top frame"
abbrev pub start_objects : Program → List ℕ → List Object
start_objects p [] = []
start_objects p (l ∷ ls) = fresh l (start_prototype p l) top_frame ∷ start_objects p ls

-- a frame that nothing called
abbrev pub first_frame : ℕ → Option ℕ → Frame
first_frame k outward = record { scope = k; outward = outward; caller = none; variables = λ v. primitive; thrown = [] }

-- "the top frame, in which the guest's first frame is made before any step"; "the guest's first frame has no caller"
abbrev pub guest_frames : List Guest → List Frame
guest_frames [] = []
guest_frames (g ∷ gs) = first_frame g.label (some top_frame) ∷ guest_frames gs

abbrev pub unfilled : Program → List ℕ → State
unfilled p ls = record { objects = start_objects p ls; frames = first_frame 0 none ∷ guest_frames p.guests; bags = λ b. [] }

-- ---- kinds 7 and 8

abbrev pub is_property_of : ℕ → ℕ → Filling → Bool
is_property_of l n (property l' n' m) = eqb l l' && eqb n n'
is_property_of l n (held v m) = false
is_property_of l n nothing = false

-- "the j-th kind 7 record for the same l and n uses pair (n, j), from 0"
abbrev pub number_among : ℕ → ℕ → List Filling → ℕ
number_among l n [] = 0
number_among l n (a ∷ earlier) = cond (is_property_of l n a) 1 0 + number_among l n earlier

abbrev pub fill_one : Program → List ℕ → List Filling → State → Filling → State
fill_one p ls earlier s (property l n m) =
    set_object s (place_in ls l) (with_value (object_at s (place_in ls l)) n (number_among l n earlier) (object (place_in ls m)))
fill_one p ls earlier s (held v l) = write p s top_frame v (object (place_in ls l))
fill_one p ls earlier s nothing = s

-- "where records of kinds 7 and 8 fill the same variable or pair, the last stands": they fill in the order of the file
abbrev pub fill : Program → List ℕ → List Filling → State → List Filling → State
fill p ls earlier s [] = s
fill p ls earlier s (a ∷ rest) = fill p ls (a ∷ earlier) (fill_one p ls earlier s a) rest

abbrev pub start : Program → State
start p = fill p (start_labels p) [] (unfilled p (start_labels p)) (fillings p)
