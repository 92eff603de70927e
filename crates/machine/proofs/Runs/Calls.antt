-- Runs of call and return: arguments, results, callers. Assumes nothing.
use mathlib.Core.Path.{refl}
use mathlib.Core.List.{[], ◌∷◌, ◌++◌}
use Rattle.program.proofs.File.{plain, function_label, built_in_function, takes, function, variable, local, grant, held, store, call, return, forbidden, journal}
use Rattle.machine.proofs.Runs.Run.{guest_make_function, guest_call, host, at_pair, picks, does, grants, lends, loads, outcome, EndsWith}

-- listed file 8: the guest calls 6, whose return reads variable 2 in the top frame
pub host-return : EndsWith (journal ++ (variable 3 ∷ function 6 ∷ held 3 6 ∷ grant 3 ∷ return 6 2 ∷ []))
    (grants 3 ∷
    does guest_call 1 ∷  -- 6: frame 2
    does (host (return 6 2)) 2 ∷ [])
    (6 ∷ 5 ∷ [])
unfolding outcome
host-return = refl

-- the host calls a guest function with the journal as this and six other objects as arguments: the bag gets them all
pub host-arguments : EndsWith
    (journal ++ (plain 6 ∷ plain 7 ∷ plain 8 ∷ plain 9 ∷ plain 10 ∷ plain 11 ∷
    variable 3 ∷ variable 6 ∷ variable 7 ∷ variable 8 ∷ variable 9 ∷ variable 10 ∷ variable 11 ∷
    held 6 6 ∷ held 7 7 ∷ held 8 8 ∷ held 9 9 ∷ held 10 10 ∷ held 11 11 ∷
    grant 3 ∷ call 0 0 3 2 (6 ∷ 7 ∷ 8 ∷ 9 ∷ 10 ∷ 11 ∷ []) ∷ []))
    (does guest_make_function 1 ∷ lends 3 0 ∷ does (host (call 0 0 3 2 (6 ∷ 7 ∷ 8 ∷ 9 ∷ 10 ∷ 11 ∷ []))) 0 ∷ [])
    (3 ∷ 5 ∷ 6 ∷ 7 ∷ 8 ∷ 9 ∷ 10 ∷ 11 ∷ [])
unfolding outcome
host-arguments = refl

-- the guest calls 6 with eight different values of its bag: each field takes its own, and this and each formal of 6 get theirs
pub guest-arguments : EndsWith
    (journal ++ (function_label 6 ∷ plain 7 ∷ plain 8 ∷ plain 9 ∷ plain 10 ∷ plain 11 ∷ plain 12 ∷ plain 13 ∷
    local 20 6 ∷ local 21 6 ∷ local 22 6 ∷ local 23 6 ∷ local 24 6 ∷ local 25 6 ∷ local 26 6 ∷
    takes 6 20 (21 ∷ 22 ∷ 23 ∷ 24 ∷ 25 ∷ 26 ∷ []) ∷
    variable 6 ∷ variable 7 ∷ variable 8 ∷ variable 9 ∷ variable 10 ∷ variable 11 ∷ variable 12 ∷ variable 13 ∷
    held 6 6 ∷ held 7 7 ∷ held 8 8 ∷ held 9 9 ∷ held 10 10 ∷ held 11 11 ∷ held 12 12 ∷ held 13 13 ∷
    grant 6 ∷ grant 7 ∷ grant 8 ∷ grant 9 ∷ grant 10 ∷ grant 11 ∷ grant 12 ∷ grant 13 ∷
    return 6 20 ∷ return 6 21 ∷ return 6 22 ∷ return 6 23 ∷ return 6 24 ∷ return 6 25 ∷ return 6 26 ∷ []))
    (grants 7 ∷ grants 8 ∷ grants 9 ∷ grants 10 ∷ grants 11 ∷ grants 12 ∷ grants 13 ∷ grants 6 ∷
    picks guest_call 1 (7 ∷ 6 ∷ 5 ∷ 4 ∷ 3 ∷ 2 ∷ 1 ∷ 0 ∷ []) ∷  -- 6: frame 2
    does (host (return 6 20)) 2 ∷ does (host (return 6 21)) 2 ∷ does (host (return 6 22)) 2 ∷ does (host (return 6 23)) 2 ∷
    does (host (return 6 24)) 2 ∷ does (host (return 6 25)) 2 ∷ does (host (return 6 26)) 2 ∷ [])
    (7 ∷ 8 ∷ 9 ∷ 10 ∷ 11 ∷ 12 ∷ 13 ∷ 6 ∷ 13 ∷ 12 ∷ 11 ∷ 10 ∷ 9 ∷ 8 ∷ 7 ∷ [])
unfolding outcome
guest-arguments = refl

-- function 6 stores the journal in its argument; 6 is built-in, so callee and argument must be different values of the bag
pub different-values : EndsWith
    (journal ++ (variable 3 ∷ built_in_function 6 ∷ local 4 6 ∷ takes 6 0 (4 ∷ []) ∷ held 3 6 ∷ grant 3 ∷ store 6 4 4 2 ∷ []))
    (grants 3 ∷
    does guest_make_function 1 ∷
    picks guest_call 1 (0 ∷ 0 ∷ 1 ∷ []) ∷  -- 6: frame 2
    at_pair (host (store 6 4 4 2)) 2 [] 4 0 ∷
    loads 1 4 0 ∷ [])
    (6 ∷ 3 ∷ 5 ∷ [])
unfolding outcome
different-values = refl

-- with one value of the bag for both, nothing is stored
pub same-value : EndsWith
    (journal ++ (variable 3 ∷ built_in_function 6 ∷ local 4 6 ∷ takes 6 0 (4 ∷ []) ∷ held 3 6 ∷ grant 3 ∷ store 6 4 4 2 ∷ []))
    (grants 3 ∷
    does guest_make_function 1 ∷
    does guest_call 1 ∷  -- 6: frame 2
    at_pair (host (store 6 4 4 2)) 2 [] 4 0 ∷
    loads 0 4 0 ∷
    loads 1 4 0 ∷ [])
    (6 ∷ 3 ∷ [])
unfolding outcome
same-value = refl

-- 6 calls 7, whose result goes to variable 5 of 6 and not to the bag; then 6 returns it twice
pub returned-to-result : EndsWith
    (journal ++ (variable 3 ∷ variable 4 ∷ function 6 ∷ function 7 ∷ local 5 6 ∷ held 3 6 ∷ held 4 7 ∷
    grant 3 ∷ call 6 5 4 0 [] ∷ return 7 2 ∷ return 6 5 ∷ []))
    (grants 3 ∷
    does guest_call 1 ∷  -- 6: frame 2
    does (host (call 6 5 4 0 [])) 2 ∷  -- 7: frame 3
    does (host (return 7 2)) 3 ∷
    does (host (return 6 5)) 2 ∷
    does (host (return 6 5)) 2 ∷ [])
    (6 ∷ 5 ∷ 5 ∷ [])
unfolding outcome
returned-to-result = refl

-- two frames of 6 each call 7, which returns its argument: each result goes to its own caller
pub two-callers : EndsWith
    (forbidden ++ (plain 8 ∷ plain 9 ∷ function_label 6 ∷ function_label 7 ∷ local 10 6 ∷ local 11 6 ∷ local 12 7 ∷
    takes 6 0 (10 ∷ []) ∷ takes 7 0 (12 ∷ []) ∷ variable 3 ∷ variable 4 ∷ variable 8 ∷ variable 9 ∷
    held 3 6 ∷ held 4 7 ∷ held 8 8 ∷ held 9 9 ∷
    grant 3 ∷ grant 8 ∷ grant 9 ∷ call 6 11 4 0 (10 ∷ []) ∷ return 7 12 ∷ return 6 11 ∷ []))
    (grants 3 ∷ grants 8 ∷ grants 9 ∷
    picks guest_call 1 (0 ∷ 0 ∷ 1 ∷ []) ∷  -- 6 with 8: frame 2
    picks guest_call 1 (0 ∷ 0 ∷ 2 ∷ []) ∷  -- 6 with 9: frame 3
    does (host (call 6 11 4 0 (10 ∷ []))) 2 ∷  -- 7: frame 4
    does (host (call 6 11 4 0 (10 ∷ []))) 3 ∷  -- 7: frame 5
    does (host (return 7 12)) 4 ∷
    does (host (return 7 12)) 5 ∷
    does (host (return 6 11)) 3 ∷
    does (host (return 6 11)) 2 ∷ [])
    (6 ∷ 8 ∷ 9 ∷ 9 ∷ 8 ∷ [])
unfolding outcome
two-callers = refl

-- a frame that has returned steps on: it returns something else
pub returns-again : EndsWith
    (journal ++ (plain 7 ∷ function 6 ∷ variable 3 ∷ variable 4 ∷ held 3 6 ∷ held 4 7 ∷ grant 3 ∷ return 6 4 ∷ return 6 2 ∷ []))
    (grants 3 ∷
    does guest_call 1 ∷  -- 6: frame 2
    does (host (return 6 4)) 2 ∷
    does (host (return 6 2)) 2 ∷ [])
    (6 ∷ 7 ∷ 5 ∷ [])
unfolding outcome
returns-again = refl

-- a primitive returned from a call takes the place of what the result held
pub primitive-result : EndsWith (journal ++ (function 6 ∷ variable 3 ∷ held 3 6 ∷ call 0 2 3 0 [] ∷ return 6 0 ∷ grant 2 ∷ []))
    (does (host (call 0 2 3 0 [])) 0 ∷  -- 6: frame 2
    does (host (return 6 0)) 2 ∷
    grants 2 ∷ [])
    []
unfolding outcome
primitive-result = refl

-- calling what is no function makes no frame: the next call's is frame 2
pub call-on-primitive : EndsWith (journal ++ (function 6 ∷ variable 3 ∷ held 3 6 ∷ grant 3 ∷ call 0 0 0 0 [] ∷ return 6 2 ∷ []))
    (does (host (call 0 0 0 0 [])) 0 ∷
    grants 3 ∷
    does guest_call 1 ∷  -- 6: frame 2
    does (host (return 6 2)) 2 ∷ [])
    (6 ∷ 5 ∷ [])
unfolding outcome
call-on-primitive = refl
