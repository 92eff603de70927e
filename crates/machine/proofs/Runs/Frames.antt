-- Runs about where a variable is found: in the nearest frame, outward, of its owner scope, or in the global object. Assumes nothing.
use mathlib.Core.Path.{refl}
use mathlib.Core.List.{[], ◌∷◌, ◌++◌}
use Rattle.program.proofs.File.{plain, function_label, takes, function, variable, local, named, grant, property, held, copy, store, make_function, call, new, return, throw, catch, prim, forbidden, journal}
use Rattle.machine.proofs.Runs.Run.{guest_make_function, guest_call, host, at_pair, picks, does, hands, grants, lends, loads, outcome, EndsWith}

-- a copy at the top level
pub copied : EndsWith (journal ++ (variable 3 ∷ copy 0 3 2 ∷ grant 3 ∷ []))
    (does (host (copy 0 3 2)) 0 ∷ grants 3 ∷ [])
    (5 ∷ [])
unfolding outcome
copied = refl

-- a function that 6 makes keeps a frame of 6, in which variable 4 holds the journal
pub closure : EndsWith
    (journal ++ (variable 3 ∷ function 6 ∷ function 7 ∷ plain 8 ∷ local 4 6 ∷ local 5 6 ∷ held 3 6 ∷
    grant 3 ∷ copy 6 4 2 ∷ make_function 6 5 7 8 ∷ return 6 5 ∷ return 7 4 ∷ []))
    (grants 3 ∷
    does guest_call 1 ∷  -- 6: frame 2
    does (host (copy 6 4 2)) 2 ∷
    does (host (make_function 6 5 7 8)) 2 ∷
    does (host (return 6 5)) 2 ∷
    picks guest_call 1 (1 ∷ []) ∷  -- 7: frame 3
    does (host (return 7 4)) 3 ∷ [])
    (6 ∷ 7 ∷ 5 ∷ [])
unfolding outcome
closure = refl

-- 6 makes 7, which makes 9: from a frame of 9 the variable of 6 is two frames outward, and the top frame three
pub outward-of-outward : EndsWith
    (journal ++ (variable 3 ∷ function 6 ∷ function 7 ∷ function 9 ∷ plain 8 ∷ local 4 6 ∷ local 5 6 ∷ local 10 7 ∷ held 3 6 ∷
    grant 3 ∷ copy 6 4 2 ∷ make_function 6 5 7 8 ∷ return 6 5 ∷ make_function 7 10 9 8 ∷ return 7 10 ∷ return 9 4 ∷ return 9 3 ∷ []))
    (grants 3 ∷
    does guest_call 1 ∷  -- 6: frame 2
    does (host (copy 6 4 2)) 2 ∷
    does (host (make_function 6 5 7 8)) 2 ∷
    does (host (return 6 5)) 2 ∷
    picks guest_call 1 (1 ∷ []) ∷  -- 7: frame 3
    does (host (make_function 7 10 9 8)) 3 ∷
    does (host (return 7 10)) 3 ∷
    picks guest_call 1 (2 ∷ []) ∷  -- 9: frame 4
    does (host (return 9 4)) 4 ∷
    does (host (return 9 3)) 4 ∷ [])
    (6 ∷ 7 ∷ 9 ∷ 5 ∷ 6 ∷ [])
unfolding outcome
outward-of-outward = refl

-- a frame of 6 outward of which is another frame of 6: variable 4 is its own, first empty and then something else than the journal
pub nearest-of-two : EndsWith
    (journal ++ (variable 3 ∷ variable 7 ∷ plain 7 ∷ function 6 ∷ plain 8 ∷ local 4 6 ∷ local 5 6 ∷ held 3 6 ∷ held 7 7 ∷
    grant 3 ∷ copy 6 4 2 ∷ copy 6 4 7 ∷ make_function 6 5 6 8 ∷ return 6 5 ∷ return 6 4 ∷ []))
    (grants 3 ∷
    does guest_call 1 ∷  -- 6: frame 2
    does (host (copy 6 4 2)) 2 ∷
    does (host (make_function 6 5 6 8)) 2 ∷
    does (host (return 6 5)) 2 ∷
    picks guest_call 1 (1 ∷ []) ∷  -- the 6 made there: frame 3
    does (host (return 6 4)) 3 ∷  -- nothing yet
    does (host (copy 6 4 7)) 3 ∷
    does (host (return 6 4)) 3 ∷
    does (host (return 6 4)) 2 ∷ [])
    (6 ∷ 6 ∷ 7 ∷ 5 ∷ [])
unfolding outcome
nearest-of-two = refl

-- two frames of one scope, each with its own variables, and a statement is carried out in either
pub two-frames-of-one-scope : EndsWith
    (forbidden ++ (plain 7 ∷ plain 8 ∷ function_label 6 ∷ local 4 6 ∷ takes 6 0 (4 ∷ []) ∷ variable 3 ∷ variable 7 ∷ variable 8 ∷
    held 3 6 ∷ held 7 7 ∷ held 8 8 ∷ grant 3 ∷ grant 7 ∷ grant 8 ∷ return 6 4 ∷ []))
    (grants 3 ∷ grants 7 ∷ grants 8 ∷
    picks guest_call 1 (0 ∷ 0 ∷ 1 ∷ []) ∷  -- 6 with 7: frame 2
    picks guest_call 1 (0 ∷ 0 ∷ 2 ∷ []) ∷  -- 6 with 8: frame 3
    does (host (return 6 4)) 3 ∷
    does (host (return 6 4)) 2 ∷ [])
    (6 ∷ 7 ∷ 8 ∷ 8 ∷ 7 ∷ [])
unfolding outcome
two-frames-of-one-scope = refl

-- every statement reads its fields from its own frame: 6 gets a function of the guest, the journal and an object 7 in variables of its own, and
-- copies, stores, calls, uses `new`, throws and uses prim with these
pub fields-in-own-frame : EndsWith
    (journal ++ (function_label 6 ∷ plain 7 ∷ plain 9 ∷ local 4 6 ∷ local 5 6 ∷ local 8 6 ∷ local 10 6 ∷ local 11 6 ∷ takes 6 0 (4 ∷ 5 ∷ 8 ∷ []) ∷
    variable 3 ∷ variable 6 ∷ variable 7 ∷ variable 12 ∷ held 6 6 ∷ held 7 7 ∷ grant 3 ∷ grant 12 ∷ call 0 0 6 0 (3 ∷ 2 ∷ 7 ∷ []) ∷
    copy 6 10 5 ∷ store 6 8 20 10 ∷ call 6 0 4 8 (10 ∷ []) ∷ new 6 0 4 11 9 (8 ∷ []) ∷ throw 6 5 ∷ catch 0 12 ∷ store 6 8 1 4 ∷ prim 6 8 ∷ []))
    (does guest_make_function 1 ∷
    lends 3 0 ∷
    does (host (call 0 0 6 0 (3 ∷ 2 ∷ 7 ∷ []))) 0 ∷  -- 6: frame 2
    does (host (copy 6 10 5)) 2 ∷
    at_pair (host (store 6 8 20 10)) 2 [] 20 0 ∷
    does (host (call 6 0 4 8 (10 ∷ []))) 2 ∷  -- the bag gets 7 and the journal
    loads 1 20 0 ∷  -- and the journal from 7
    does (host (new 6 0 4 11 9 (8 ∷ []))) 2 ∷  -- the new 9, and 7
    does (host (throw 6 5)) 2 ∷
    hands 2 0 ∷
    does (host (catch 0 12)) 0 ∷
    grants 12 ∷  -- the journal
    at_pair (host (store 6 8 1 4)) 2 [] 1 0 ∷
    at_pair (host (prim 6 8)) 2 [] 1 0 ∷ [])  -- and 7
    (3 ∷ 7 ∷ 5 ∷ 5 ∷ 9 ∷ 7 ∷ 5 ∷ 7 ∷ [])
unfolding outcome
fields-in-own-frame = refl

-- a function writes a variable of the top frame
pub written-outward : EndsWith (journal ++ (variable 3 ∷ variable 4 ∷ function 6 ∷ held 3 6 ∷ call 0 0 3 0 [] ∷ copy 6 4 2 ∷ grant 4 ∷ []))
    (does (host (call 0 0 3 0 [])) 0 ∷  -- 6: frame 2
    does (host (copy 6 4 2)) 2 ∷
    grants 4 ∷ [])
    (5 ∷ [])
unfolding outcome
written-outward = refl

-- a named variable that holds the journal is a property of the global object
pub named-variable : EndsWith (forbidden ++ (named 2 4 ∷ held 2 5 ∷ variable 3 ∷ held 3 0 ∷ grant 3 ∷ []))
    (grants 3 ∷ loads 0 4 0 ∷ [])
    (0 ∷ 5 ∷ [])
unfolding outcome
named-variable = refl

-- what a copy writes to a named variable is under the pair (4, 0) of the global object
pub named-written : EndsWith (journal ++ (named 4 4 ∷ variable 3 ∷ held 3 0 ∷ grant 3 ∷ copy 0 4 2 ∷ []))
    (does (host (copy 0 4 2)) 0 ∷ grants 3 ∷ loads 0 4 0 ∷ [])
    (0 ∷ 5 ∷ [])
unfolding outcome
named-written = refl

-- what is stored under the pair (4, 0) of the global object is in the variable named 4, wherever it is read
pub named-read : EndsWith
    (journal ++ (named 4 4 ∷ variable 3 ∷ variable 6 ∷ function 6 ∷ held 3 0 ∷ held 6 6 ∷ grant 6 ∷ store 0 3 4 2 ∷ return 6 4 ∷ []))
    (at_pair (host (store 0 3 4 2)) 0 [] 4 0 ∷
    grants 6 ∷
    does guest_call 1 ∷  -- 6: frame 2
    does (host (return 6 4)) 2 ∷ [])
    (6 ∷ 5 ∷ [])
unfolding outcome
named-read = refl

-- it is the number 0 of its name, whatever is chosen: the journal is under (4, 1)
pub named-number : EndsWith (forbidden ++ (plain 6 ∷ named 2 4 ∷ property 0 4 6 ∷ property 0 4 5 ∷ grant 2 ∷ []))
    (at_pair (host (grant 2)) 0 (1 ∷ []) 4 1 ∷ [])
    (6 ∷ [])
unfolding outcome
named-number = refl
