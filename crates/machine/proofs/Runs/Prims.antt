-- Runs of prim: toString and valueOf, found as a load finds them and called with the object as this. Assumes nothing.
use mathlib.Core.Path.{refl}
use mathlib.Core.List.{[], ◌∷◌, ◌++◌}
use Rattle.program.proofs.File.{plain, function_label, takes, function, variable, local, grant, property, held, store, return, throw, catch, prim, journal}
use Rattle.machine.proofs.Runs.Run.{guest_make_function, guest_call, host, at_pair, does, hands, grants, lends, outcome, EndsWith}

-- prim on the journal calls the guest's toString, whose this it is; the arguments are primitives
pub guest-to-string : EndsWith (journal ++ (variable 3 ∷ grant 3 ∷ store 0 2 1 3 ∷ prim 0 2 ∷ []))
    (does guest_make_function 1 ∷
    lends 3 0 ∷
    at_pair (host (store 0 2 1 3)) 0 [] 1 0 ∷
    at_pair (host (prim 0 2)) 0 [] 1 0 ∷ [])
    (3 ∷ 5 ∷ [])
unfolding outcome
guest-to-string = refl

-- the same with the guest's valueOf
pub guest-value-of : EndsWith (journal ++ (variable 3 ∷ grant 3 ∷ store 0 2 2 3 ∷ prim 0 2 ∷ []))
    (does guest_make_function 1 ∷
    lends 3 0 ∷
    at_pair (host (store 0 2 2 3)) 0 [] 2 0 ∷
    at_pair (host (prim 0 2)) 0 [] 2 0 ∷ [])
    (3 ∷ 5 ∷ [])
unfolding outcome
guest-value-of = refl

-- it may be any pair of the name: function 7, which takes the journal to variable 4, is under (2, 1) of it
pub prim-by-number : EndsWith
    (journal ++ (variable 4 ∷ function 6 ∷ function_label 7 ∷ takes 7 4 [] ∷ property 5 2 6 ∷ property 5 2 7 ∷ prim 0 2 ∷ grant 4 ∷ []))
    (at_pair (host (prim 0 2)) 0 [] 2 1 ∷ grants 4 ∷ [])
    (5 ∷ [])
unfolding outcome
prim-by-number = refl

-- it is found along the prototypes: function 7 is the toString of Object.prototype
pub prim-along : EndsWith (journal ++ (variable 4 ∷ function_label 7 ∷ takes 7 4 [] ∷ property 1 1 7 ∷ prim 0 2 ∷ grant 4 ∷ []))
    (at_pair (host (prim 0 2)) 0 [] 1 0 ∷ grants 4 ∷ [])
    (5 ∷ [])
unfolding outcome
prim-along = refl

-- the formals of the function called get primitives: variable 2, the first formal of function 7, loses the journal
pub prim-arguments : EndsWith
    (journal ++ (variable 4 ∷ plain 6 ∷ function_label 7 ∷ takes 7 0 (2 ∷ []) ∷ property 6 1 7 ∷ held 4 6 ∷ prim 0 4 ∷ grant 2 ∷ []))
    (at_pair (host (prim 0 4)) 0 [] 1 0 ∷ grants 2 ∷ [])
    []
unfolding outcome
prim-arguments = refl

-- a host toString throws the journal, and the function that used prim catches and returns it
pub to-string-throws : EndsWith
    (journal ++ (variable 3 ∷ variable 4 ∷ function 6 ∷ plain 7 ∷ function 8 ∷ local 5 8 ∷ property 7 1 6 ∷ held 3 8 ∷ held 4 7 ∷
    grant 3 ∷ throw 6 2 ∷ prim 8 4 ∷ catch 8 5 ∷ return 8 5 ∷ []))
    (grants 3 ∷
    does guest_call 1 ∷  -- 8: frame 2
    at_pair (host (prim 8 4)) 2 [] 1 0 ∷  -- 6: frame 3
    does (host (throw 6 2)) 3 ∷
    hands 3 0 ∷
    does (host (catch 8 5)) 2 ∷
    does (host (return 8 5)) 2 ∷ [])
    (8 ∷ 5 ∷ [])
unfolding outcome
to-string-throws = refl
