-- The guest's statements, computed. Assumes nothing.
use mathlib.Core.Path.{◌≡◌, refl}
use mathlib.Core.List.{List, [], ◌∷◌, ◌++◌, map}
use mathlib.Core.Bool.{Bool, true, false}
use Prim.Native.Nat.{ℕ, ◌^◌}
use Rattle.program.specs.Statement as say
use Rattle.program.specs.Statement.{statements_of}
use Rattle.program.specs.Program.{Guest, no_record_position, guest_statements, placed, guests_statements, host_statements, program_of, statements}
use Rattle.program.proofs.File.{name, plain, forbid, variable, profile, grant, reading}

-- "The guest is scope 3 with variable 1 in every variable field, w, l, q = 3 and key 128: make function, load, store, call, new, return, throw,
-- catch": these stand before the host's statements and belong to no record
pub guest-says : statements (program_of (reading (variable 2 ∷ grant 2 ∷ []))) ≡
    (65535, say.make_function 3 1 3 3) ∷
    (65535, say.load 3 1 1 128 3) ∷
    (65535, say.store 3 1 128 1) ∷
    (65535, say.call 3 1 1 1 (1 ∷ 1 ∷ 1 ∷ 1 ∷ 1 ∷ 1 ∷ [])) ∷
    (65535, say.new 3 1 1 1 3 (1 ∷ 1 ∷ 1 ∷ 1 ∷ 1 ∷ 1 ∷ [])) ∷
    (65535, say.return 3 1) ∷
    (65535, say.throw 3 1) ∷
    (65535, say.catch 3 1) ∷
    (4, say.grant 2 1) ∷
    []
unfolding reading program_of host_statements statements_of statements guests_statements guest_statements
guest-says = refl

-- there is one guest, and what the file forbids is forbidden to it
pub guest-of-file : (program_of (reading (plain 5 ∷ forbid 5 ∷ []))).guests ≡ record { label = 3; bag = 1; key = 128; prototyped = true; forbidden = 2 ^ 5 } ∷ []
unfolding reading program_of host_statements statements_of
guest-of-file = refl

-- a guest's statements go by its own label, bag and key, each in its place
pub guest-by-its-fields : guest_statements (record { label = 7; bag = 9; key = 130; prototyped = true; forbidden = 0 }) ≡
    say.make_function 7 9 7 7 ∷
    say.load 7 9 9 130 7 ∷
    say.store 7 9 130 9 ∷
    say.call 7 9 9 9 (9 ∷ 9 ∷ 9 ∷ 9 ∷ 9 ∷ 9 ∷ []) ∷
    say.new 7 9 9 9 7 (9 ∷ 9 ∷ 9 ∷ 9 ∷ 9 ∷ 9 ∷ []) ∷
    say.return 7 9 ∷
    say.throw 7 9 ∷
    say.catch 7 9 ∷
    []
unfolding guest_statements
guest-by-its-fields = refl

-- where there are several guests, each says its own
pub each-guest-says : (g h : Guest) → guests_statements (g ∷ h ∷ []) ≡ placed no_record_position (guest_statements g) ++ placed no_record_position (guest_statements h)
unfolding guests_statements guest_statements
each-guest-says g h = refl

-- ---- a guest that is held to a class (request 04)

-- where functions have no prototype property, one is made as by kind 19; all else stands
pub function-without-property : guest_statements (record { label = 7; bag = 9; key = 130; prototyped = false; forbidden = 0 }) ≡
    say.make 7 9 7 ∷
    say.load 7 9 9 130 7 ∷
    say.store 7 9 130 9 ∷
    say.call 7 9 9 9 (9 ∷ 9 ∷ 9 ∷ 9 ∷ 9 ∷ 9 ∷ []) ∷
    say.new 7 9 9 9 7 (9 ∷ 9 ∷ 9 ∷ 9 ∷ 9 ∷ 9 ∷ []) ∷
    say.return 7 9 ∷
    say.throw 7 9 ∷
    say.catch 7 9 ∷
    []
unfolding guest_statements
function-without-property = refl

-- the key of the guest, and whether the functions that it makes have a prototype property
abbrev key_of : List Guest → List (ℕ × Bool)
key_of gs = map (λ g. (g.key, g.prototyped)) gs

abbrev held_to : List (List ℕ) → List (ℕ × Bool)
held_to file = key_of (program_of (reading file)).guests

-- "the guest's load and store use key 128 + c, and the prototype property of guest functions is written only if name 3 is in class c": without the record,
-- in class 0 and in classes 1 and 7, without a mask for name 3 and with one; the record may stand before the mask and after it, since the whole file's
-- masks count; the masks of other names do not matter
pub guest-held :
    map held_to (
    []
    ∷ (name 3 1 ∷ [])
    ∷ (profile 0 ∷ [])
    ∷ (profile 1 ∷ [])
    ∷ (profile 1 ∷ name 3 3 ∷ [])
    ∷ (name 3 3 ∷ profile 1 ∷ [])
    ∷ (profile 7 ∷ name 3 3 ∷ [])
    ∷ (profile 7 ∷ name 3 129 ∷ [])
    ∷ (name 2 3 ∷ name 4 3 ∷ profile 1 ∷ [])
    ∷ []
    )
    ≡ ((128, true) ∷ [])
    ∷ ((128, true) ∷ [])
    ∷ ((128, true) ∷ [])
    ∷ ((129, false) ∷ [])
    ∷ ((129, true) ∷ [])
    ∷ ((129, true) ∷ [])
    ∷ ((135, false) ∷ [])
    ∷ ((135, true) ∷ [])
    ∷ ((129, false) ∷ [])
    ∷ []
unfolding reading program_of host_statements statements_of
guest-held = refl
