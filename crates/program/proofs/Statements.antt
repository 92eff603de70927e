-- What each kind of record says, computed from bytes: fields in their places, statements in the order of the file, each with the position of its
-- record. Assumes nothing.
use mathlib.Core.Path.{◌≡◌, refl}
use mathlib.Core.List.{List, [], ◌∷◌, map}
use mathlib.Core.Bool.{true, false}
use Prim.Native.Nat.{ℕ}
use Rattle.program.specs.Statement as say
use Rattle.program.specs.Statement.{statements_of}
use Rattle.program.specs.Program.{guest_statements, guests_statements, host_statements, program_of, statements, this_of, formals_of, is_function, returns_in, returns_of}
use Rattle.program.proofs.File.{name, plain, function_label, array, forbid, takes, variable, local, named, grant, property, held, copy, load, store, make, make_function, call, new, return, throw, catch, prim, reading}

-- a file with every kind of record
abbrev file : List (List ℕ)
file =
    name 4 3 ∷ plain 5 ∷ function_label 6 ∷ array 7 ∷ plain 8 ∷ forbid 5 ∷
    variable 2 ∷ variable 3 ∷ local 4 6 ∷ named 10 4 ∷ takes 6 2 (3 ∷ 4 ∷ 10 ∷ 3 ∷ 2 ∷ 4 ∷ []) ∷
    grant 2 ∷ property 5 4 7 ∷ held 3 8 ∷
    copy 6 2 3 ∷ load 6 2 3 4 5 ∷ store 6 2 131 3 ∷ make 6 3 7 ∷ make_function 6 2 6 8 ∷
    call 6 2 3 4 (10 ∷ 2 ∷ 3 ∷ 4 ∷ 0 ∷ 2 ∷ []) ∷ new 6 2 3 4 5 (10 ∷ 2 ∷ 3 ∷ 4 ∷ 0 ∷ 2 ∷ []) ∷
    return 6 2 ∷ throw 6 3 ∷ catch 6 4 ∷ prim 6 10 ∷ return 6 3 ∷ return 0 4 ∷
    []

pub each-kind-says : (program_of (reading file)).host ≡
    (33, say.named 10 4) ∷
    (46, say.grant 2 1) ∷
    (48, say.property 5 4 7) ∷
    (52, say.held 3 8) ∷
    (55, say.copy 6 2 3) ∷
    (59, say.load 6 2 3 4 5) ∷
    (65, say.store 6 2 131 3) ∷
    (70, say.make 6 3 7) ∷
    (74, say.make_function 6 2 6 8) ∷
    (79, say.call 6 2 3 4 (10 ∷ 2 ∷ 3 ∷ 4 ∷ 0 ∷ 2 ∷ [])) ∷
    (90, say.new 6 2 3 4 5 (10 ∷ 2 ∷ 3 ∷ 4 ∷ 0 ∷ 2 ∷ [])) ∷
    (102, say.return 6 2) ∷
    (105, say.throw 6 3) ∷
    (108, say.catch 6 4) ∷
    (111, say.prim 6 10) ∷
    (114, say.return 6 3) ∷
    (117, say.return 0 4) ∷
    []
unfolding reading program_of host_statements statements_of
each-kind-says = refl

-- the this variable and the formals of function 6, in their order
pub function-takes : this_of (reading file).sheet 6 ∷ formals_of (reading file).sheet 6 ≡ 2 ∷ 3 ∷ 4 ∷ 10 ∷ 3 ∷ 2 ∷ 4 ∷ []
unfolding reading
function-takes = refl

-- labels 3 and 6 are functions, and no other of those declared
pub function-labels : map (is_function (reading file).sheet) (0 ∷ 1 ∷ 2 ∷ 3 ∷ 4 ∷ 5 ∷ 6 ∷ 7 ∷ 8 ∷ []) ≡ false ∷ false ∷ false ∷ true ∷ false ∷ false ∷ true ∷ false ∷ false ∷ []
unfolding reading
function-labels = refl

-- "each return in scope f", the guest's own for label 3; the top level's are no function's
pub returns-of-each : map (returns_of (program_of (reading file))) (6 ∷ 3 ∷ 9 ∷ 0 ∷ []) ≡ (2 ∷ 3 ∷ []) ∷ (1 ∷ []) ∷ [] ∷ (4 ∷ []) ∷ []
unfolding reading program_of host_statements statements_of returns_of returns_in statements guests_statements guest_statements
returns-of-each = refl
