-- Runs of `new`: its prototype, its arguments, what t and y get, what is returned from it. Assumes nothing.
use mathlib.Core.Path.{refl}
use mathlib.Core.List.{[], ◌∷◌, ◌++◌}
use Rattle.program.proofs.File.{plain, function_label, takes, function, variable, local, grant, property, held, load, store, make_function, call, new, return, throw, forbidden, journal}
use Rattle.machine.proofs.Runs.Run.{guest_make_function, guest_call, guest_new, guest_catch, host, at_pair, picks, does, hands, grants, lends, loads, outcome, EndsWith}

-- the host makes the journal by `new` on a guest function, whose this it is; the bag also gets the six arguments
pub new-on-guest : EndsWith
    (forbidden ++ (plain 6 ∷ plain 7 ∷ plain 8 ∷ plain 9 ∷ plain 10 ∷ plain 11 ∷ variable 3 ∷ variable 4 ∷
    variable 6 ∷ variable 7 ∷ variable 8 ∷ variable 9 ∷ variable 10 ∷ variable 11 ∷
    held 6 6 ∷ held 7 7 ∷ held 8 8 ∷ held 9 9 ∷ held 10 10 ∷ held 11 11 ∷
    grant 3 ∷ new 0 0 3 4 5 (6 ∷ 7 ∷ 8 ∷ 9 ∷ 10 ∷ 11 ∷ []) ∷ []))
    (does guest_make_function 1 ∷ lends 3 0 ∷ does (host (new 0 0 3 4 5 (6 ∷ 7 ∷ 8 ∷ 9 ∷ 10 ∷ 11 ∷ []))) 0 ∷ [])
    (3 ∷ 5 ∷ 6 ∷ 7 ∷ 8 ∷ 9 ∷ 10 ∷ 11 ∷ [])
unfolding outcome
new-on-guest = refl

-- function 6 makes the journal by `new` on 7, in variables of its own
pub new-in-a-function : EndsWith
    (forbidden ++ (function 6 ∷ function 7 ∷ local 4 6 ∷ local 5 6 ∷ variable 3 ∷ variable 7 ∷ held 3 6 ∷ held 7 7 ∷
    grant 3 ∷ new 6 4 7 5 5 [] ∷ return 6 4 ∷ return 6 5 ∷ []))
    (grants 3 ∷
    does guest_call 1 ∷  -- 6: frame 2
    does (host (new 6 4 7 5 5 [])) 2 ∷  -- 7: frame 3
    does (host (return 6 4)) 2 ∷
    does (host (return 6 5)) 2 ∷ [])
    (6 ∷ 5 ∷ 5 ∷ [])
unfolding outcome
new-in-a-function = refl

-- t and y get the new object, the same one: the journal is stored in t and loaded from y
pub new-in-both : EndsWith
    (journal ++ (plain 7 ∷ function 6 ∷ variable 3 ∷ variable 4 ∷ variable 6 ∷ held 3 6 ∷
    new 0 6 3 4 7 [] ∷ store 0 4 10 2 ∷ grant 4 ∷ grant 6 ∷ []))
    (does (host (new 0 6 3 4 7 [])) 0 ∷
    at_pair (host (store 0 4 10 2)) 0 [] 10 0 ∷
    grants 4 ∷
    grants 6 ∷
    loads 1 10 0 ∷ [])
    (7 ∷ 7 ∷ 5 ∷ [])
unfolding outcome
new-in-both = refl

-- the journal is stored in what name 3 of a function holds, and loaded from an object that `new` made of the function
pub found-by-new : EndsWith
    (journal ++ (variable 3 ∷ variable 4 ∷ variable 5 ∷ function 6 ∷ plain 7 ∷ plain 8 ∷
    make_function 0 3 6 7 ∷ load 0 4 3 3 7 ∷ store 0 4 10 2 ∷ new 0 0 3 5 8 [] ∷ grant 5 ∷ []))
    (does (host (make_function 0 3 6 7)) 0 ∷
    at_pair (host (load 0 4 3 3 7)) 0 [] 3 0 ∷
    at_pair (host (store 0 4 10 2)) 0 [] 10 0 ∷
    does (host (new 0 0 3 5 8 [])) 0 ∷
    grants 5 ∷
    loads 0 10 0 ∷ [])
    (8 ∷ 5 ∷ [])
unfolding outcome
found-by-new = refl

-- name 3 is looked up as a load does: it is found in Function.prototype, the prototype of the callee
pub found-along-by-new : EndsWith
    (forbidden ++ (variable 3 ∷ variable 5 ∷ function 6 ∷ plain 7 ∷ plain 8 ∷
    property 2 3 7 ∷ property 7 10 5 ∷ held 3 6 ∷ new 0 0 3 5 8 [] ∷ grant 5 ∷ []))
    (does (host (new 0 0 3 5 8 [])) 0 ∷ grants 5 ∷ loads 0 10 0 ∷ [])
    (8 ∷ 5 ∷ [])
unfolding outcome
found-along-by-new = refl

-- under name 3 it may be any pair, here (3, 1)
pub found-by-number : EndsWith
    (forbidden ++ (variable 3 ∷ variable 5 ∷ function 6 ∷ plain 7 ∷ plain 8 ∷ plain 9 ∷
    property 6 3 7 ∷ property 6 3 9 ∷ property 9 10 5 ∷ held 3 6 ∷ new 0 0 3 5 8 [] ∷ grant 5 ∷ []))
    (at_pair (host (new 0 0 3 5 8 [])) 0 [] 0 1 ∷ grants 5 ∷ loads 0 10 0 ∷ [])
    (8 ∷ 5 ∷ [])
unfolding outcome
found-by-number = refl

-- where nothing is under name 3, the prototype is Object.prototype, and not Function.prototype
pub nothing-found-by-new : EndsWith
    (forbidden ++ (variable 3 ∷ variable 5 ∷ function 6 ∷ plain 8 ∷ property 1 10 5 ∷ property 2 11 8 ∷ held 3 6 ∷ new 0 0 3 5 8 [] ∷ grant 5 ∷ []))
    (does (host (new 0 0 3 5 8 [])) 0 ∷ grants 5 ∷ loads 0 11 0 ∷ loads 0 10 0 ∷ [])
    (8 ∷ 5 ∷ [])
unfolding outcome
nothing-found-by-new = refl

-- and so it is where a primitive is
pub primitive-found-by-new : EndsWith
    (forbidden ++ (variable 3 ∷ variable 5 ∷ function 6 ∷ plain 8 ∷ property 1 10 5 ∷ property 2 11 8 ∷ held 3 6 ∷
    store 0 3 3 0 ∷ new 0 0 3 5 8 [] ∷ grant 5 ∷ []))
    (at_pair (host (store 0 3 3 0)) 0 [] 3 0 ∷
    does (host (new 0 0 3 5 8 [])) 0 ∷
    grants 5 ∷
    loads 0 11 0 ∷
    loads 0 10 0 ∷ [])
    (8 ∷ 5 ∷ [])
unfolding outcome
primitive-found-by-new = refl

-- the prototype is fixed when the object is made: afterwards name 3 of the callee becomes something else, and something is stored in the object
pub prototype-fixed : EndsWith
    (forbidden ++ (variable 3 ∷ variable 4 ∷ variable 5 ∷ function 6 ∷ plain 7 ∷ plain 8 ∷ plain 9 ∷
    property 6 3 7 ∷ property 7 10 5 ∷ property 9 11 8 ∷ held 3 6 ∷ held 4 9 ∷ new 0 0 3 5 8 [] ∷ store 0 3 3 4 ∷ store 0 5 12 4 ∷ grant 5 ∷ []))
    (does (host (new 0 0 3 5 8 [])) 0 ∷
    at_pair (host (store 0 3 3 4)) 0 [] 3 0 ∷
    at_pair (host (store 0 5 12 4)) 0 [] 12 0 ∷
    grants 5 ∷
    loads 0 11 0 ∷  -- nothing: that is in the other one
    loads 0 10 0 ∷ [])
    (8 ∷ 5 ∷ [])
unfolding outcome
prototype-fixed = refl

-- a constructor returns a primitive, which leaves the new object in y
pub primitive-returned : EndsWith
    (forbidden ++ (variable 3 ∷ variable 4 ∷ variable 6 ∷ function 6 ∷ held 3 6 ∷ new 0 6 3 4 5 [] ∷ return 6 0 ∷ grant 6 ∷ []))
    (does (host (new 0 6 3 4 5 [])) 0 ∷  -- 6: frame 2
    does (host (return 6 0)) 2 ∷
    grants 6 ∷ [])
    (5 ∷ [])
unfolding outcome
primitive-returned = refl

-- a constructor returns an object, which y gets; t keeps the new one
pub object-returned : EndsWith
    (journal ++ (variable 3 ∷ variable 4 ∷ variable 6 ∷ function 6 ∷ plain 7 ∷ held 3 6 ∷
    new 0 6 3 4 7 [] ∷ return 6 2 ∷ grant 4 ∷ grant 6 ∷ []))
    (does (host (new 0 6 3 4 7 [])) 0 ∷  -- 6: frame 2
    does (host (return 6 2)) 2 ∷
    grants 6 ∷
    grants 4 ∷ [])
    (5 ∷ 7 ∷ [])
unfolding outcome
object-returned = refl

-- a constructor throws the journal, which its caller gets
pub constructor-throws : EndsWith (journal ++ (variable 3 ∷ function 6 ∷ held 3 6 ∷ grant 3 ∷ throw 6 2 ∷ []))
    (grants 3 ∷
    does guest_new 1 ∷  -- 6: frame 2
    does (host (throw 6 2)) 2 ∷
    hands 2 0 ∷
    does guest_catch 1 ∷ [])
    (6 ∷ 3 ∷ 3 ∷ 5 ∷ [])
unfolding outcome
constructor-throws = refl

-- the guest uses `new` on a function of the host, with seven different values of its bag: its bag gets the new object twice, as t and as y, and
-- this and each formal get theirs
pub guest-new : EndsWith
    (forbidden ++ (function_label 6 ∷ plain 7 ∷ plain 8 ∷ plain 9 ∷ plain 10 ∷ plain 11 ∷ plain 12 ∷
    local 20 6 ∷ local 21 6 ∷ local 22 6 ∷ local 23 6 ∷ local 24 6 ∷ local 25 6 ∷ local 26 6 ∷
    takes 6 20 (21 ∷ 22 ∷ 23 ∷ 24 ∷ 25 ∷ 26 ∷ []) ∷
    variable 6 ∷ variable 7 ∷ variable 8 ∷ variable 9 ∷ variable 10 ∷ variable 11 ∷ variable 12 ∷
    held 6 6 ∷ held 7 7 ∷ held 8 8 ∷ held 9 9 ∷ held 10 10 ∷ held 11 11 ∷ held 12 12 ∷
    grant 6 ∷ grant 7 ∷ grant 8 ∷ grant 9 ∷ grant 10 ∷ grant 11 ∷ grant 12 ∷
    return 6 20 ∷ return 6 21 ∷ return 6 22 ∷ return 6 23 ∷ return 6 24 ∷ return 6 25 ∷ return 6 26 ∷ []))
    (grants 7 ∷ grants 8 ∷ grants 9 ∷ grants 10 ∷ grants 11 ∷ grants 12 ∷ grants 6 ∷
    picks guest_new 1 (6 ∷ 0 ∷ 5 ∷ 4 ∷ 3 ∷ 2 ∷ 1 ∷ 0 ∷ []) ∷  -- 6: frame 2
    does (host (return 6 20)) 2 ∷ does (host (return 6 21)) 2 ∷ does (host (return 6 22)) 2 ∷ does (host (return 6 23)) 2 ∷
    does (host (return 6 24)) 2 ∷ does (host (return 6 25)) 2 ∷ does (host (return 6 26)) 2 ∷ [])
    (7 ∷ 8 ∷ 9 ∷ 10 ∷ 11 ∷ 12 ∷ 6 ∷ 3 ∷ 3 ∷ 3 ∷ 12 ∷ 11 ∷ 10 ∷ 9 ∷ 8 ∷ 7 ∷ [])
unfolding outcome
guest-new = refl

-- what the guest makes by `new` takes the prototype that is found, as what the host makes does
pub guest-new-prototype : EndsWith
    (forbidden ++ (variable 3 ∷ function 6 ∷ plain 7 ∷ property 6 3 7 ∷ property 7 10 5 ∷ held 3 6 ∷ grant 3 ∷ []))
    (grants 3 ∷ does guest_new 1 ∷ loads 1 10 0 ∷ [])
    (6 ∷ 3 ∷ 3 ∷ 5 ∷ [])
unfolding outcome
guest-new-prototype = refl

-- what the guest makes by `new` can be called: the host calls it with the journal
pub guest-new-called : EndsWith
    (journal ++ (variable 3 ∷ variable 4 ∷ function 6 ∷ held 3 6 ∷ grant 3 ∷ grant 4 ∷ call 0 0 4 0 (2 ∷ []) ∷ []))
    (grants 3 ∷ does guest_new 1 ∷ lends 4 1 ∷ does (host (call 0 0 4 0 (2 ∷ []))) 0 ∷ [])
    (6 ∷ 3 ∷ 3 ∷ 5 ∷ [])
unfolding outcome
guest-new-called = refl
