-- Runs of the guest: each of its statements, its bag, its objects; and grants. Assumes nothing.
use mathlib.Core.Path.{refl}
use mathlib.Core.List.{[], ◌∷◌, ◌++◌}
use Rattle.program.proofs.File.{plain, function, variable, named, grant, property, held, make, call, return, forbidden, journal}
use Rattle.machine.proofs.Runs.Run.{guest_make_function, guest_store, guest_call, guest_return, host, at_pair, picks, does, grants, lends, with_prototype, makes, loads, loads_from_primitive, outcome, EndsWith}

-- listed file 5: a grant puts the journal in the bag
pub grant-to-guest : EndsWith (journal ++ (grant 2 ∷ []))
    (grants 2 ∷ [])
    (5 ∷ [])
unfolding outcome
grant-to-guest = refl

-- and a grant puts any value of the bag in the variable, here the second
pub grant-from-guest : EndsWith (forbidden ++ (plain 6 ∷ variable 3 ∷ variable 4 ∷ held 3 6 ∷ grant 3 ∷ grant 4 ∷ []))
    (grants 3 ∷ does guest_make_function 1 ∷ lends 4 1 ∷ grants 4 ∷ [])
    (6 ∷ 3 ∷ 3 ∷ [])
unfolding outcome
grant-from-guest = refl

-- the guest holds any value ever put in its bag: after others came, it hands back the first
pub held-for-ever : EndsWith (journal ++ (plain 6 ∷ variable 3 ∷ variable 4 ∷ held 3 6 ∷ grant 2 ∷ grant 3 ∷ grant 4 ∷ []))
    (grants 2 ∷ grants 3 ∷ grants 3 ∷ lends 4 0 ∷ grants 4 ∷ [])
    (5 ∷ 6 ∷ 6 ∷ 5 ∷ [])
unfolding outcome
held-for-ever = refl

-- the host calls a function of the guest, which in its new frame calls back what it got as argument
pub guest-calls-back : EndsWith
    (journal ++ (variable 3 ∷ variable 6 ∷ function 6 ∷ held 6 6 ∷ grant 3 ∷ call 0 0 3 0 (6 ∷ []) ∷ return 6 2 ∷ []))
    (does guest_make_function 1 ∷
    lends 3 0 ∷
    does (host (call 0 0 3 0 (6 ∷ []))) 0 ∷  -- the guest: frame 2
    picks guest_call 2 (2 ∷ []) ∷  -- 6: frame 3; the bag has the function, a primitive as this, then 6
    does (host (return 6 2)) 3 ∷ [])
    (3 ∷ 6 ∷ 5 ∷ [])
unfolding outcome
guest-calls-back = refl

-- the guest stores a value of its bag in another, under any pair, and loads it
pub guest-stores : EndsWith (journal ++ (plain 6 ∷ plain 7 ∷ variable 3 ∷ variable 4 ∷ held 3 6 ∷ held 4 7 ∷ grant 3 ∷ grant 4 ∷ []))
    (grants 3 ∷
    grants 4 ∷
    at_pair guest_store 1 (0 ∷ 1 ∷ []) 10 1 ∷
    loads 0 10 1 ∷
    at_pair guest_store 1 (1 ∷ 0 ∷ []) 31 0 ∷
    loads 1 31 0 ∷ [])
    (6 ∷ 7 ∷ 7 ∷ 6 ∷ [])
unfolding outcome
guest-stores = refl

-- the guest stores a function of its own in the global object; the host calls it by the variable of that name, with the journal
pub guest-stores-globally : EndsWith (journal ++ (variable 3 ∷ named 4 10 ∷ held 3 0 ∷ grant 3 ∷ call 0 0 4 0 (2 ∷ []) ∷ []))
    (grants 3 ∷
    does guest_make_function 1 ∷
    at_pair guest_store 1 (0 ∷ 1 ∷ []) 10 0 ∷
    does (host (call 0 0 4 0 (2 ∷ []))) 0 ∷ [])
    (0 ∷ 3 ∷ 5 ∷ [])
unfolding outcome
guest-stores-globally = refl

-- the guest returns a value of its bag, the second one; the host, whose result is variable 4, calls it with the journal
pub guest-returns : EndsWith
    (journal ++ (plain 6 ∷ variable 3 ∷ variable 4 ∷ variable 6 ∷ held 6 6 ∷
    grant 6 ∷ grant 3 ∷ call 0 4 3 0 [] ∷ call 0 0 4 0 (2 ∷ []) ∷ []))
    (grants 6 ∷
    does guest_make_function 1 ∷
    lends 3 1 ∷
    does (host (call 0 4 3 0 [])) 0 ∷  -- the guest: frame 2
    picks guest_return 2 (1 ∷ []) ∷
    does (host (call 0 0 4 0 (2 ∷ []))) 0 ∷ [])
    (6 ∷ 3 ∷ 5 ∷ [])
unfolding outcome
guest-returns = refl

-- ---- prototypes of what the guest makes

-- the prototype of a function that the guest makes is that of label 1, 2 or 4, as it chooses
pub guest-function-prototype : EndsWith (forbidden ++ (plain 6 ∷ plain 7 ∷ property 1 21 5 ∷ property 2 22 6 ∷ property 4 24 7 ∷ []))
    (makes 0 0 ∷ makes 1 0 ∷ makes 2 0 ∷
    loads 0 21 0 ∷ loads 0 22 0 ∷ loads 0 24 0 ∷
    loads 1 22 0 ∷ loads 1 24 0 ∷
    loads 2 22 0 ∷ loads 2 24 0 ∷ [])
    (3 ∷ 3 ∷ 3 ∷ 5 ∷ 6 ∷ 7 ∷ [])
unfolding outcome
guest-function-prototype = refl

-- so is that of its q, chosen apart
pub guest-q-prototype : EndsWith (forbidden ++ (plain 6 ∷ plain 7 ∷ property 1 21 5 ∷ property 2 22 6 ∷ property 4 24 7 ∷ []))
    (makes 2 0 ∷ makes 0 1 ∷ makes 1 2 ∷
    loads 0 3 0 ∷ loads 1 3 0 ∷ loads 2 3 0 ∷
    loads 3 21 0 ∷ loads 3 22 0 ∷ loads 3 24 0 ∷
    loads 4 22 0 ∷ loads 4 24 0 ∷
    loads 5 22 0 ∷ loads 5 24 0 ∷ [])
    (3 ∷ 3 ∷ 3 ∷ 3 ∷ 3 ∷ 3 ∷ 5 ∷ 6 ∷ 7 ∷ [])
unfolding outcome
guest-q-prototype = refl

-- so is that of the object from which the guest's load on a primitive starts
pub guest-loads-from-primitive : EndsWith (forbidden ++ (plain 6 ∷ plain 7 ∷ property 1 21 5 ∷ property 2 22 6 ∷ property 4 24 7 ∷ []))
    (loads_from_primitive 0 21 0 ∷ loads_from_primitive 0 22 0 ∷ loads_from_primitive 0 24 0 ∷
    loads_from_primitive 1 22 0 ∷ loads_from_primitive 1 24 0 ∷
    loads_from_primitive 2 22 0 ∷ loads_from_primitive 2 24 0 ∷ [])
    (5 ∷ 6 ∷ 7 ∷ [])
unfolding outcome
guest-loads-from-primitive = refl

-- what the host makes takes no notice of such a choice
pub host-chooses-no-prototype : EndsWith
    (forbidden ++ (plain 6 ∷ plain 7 ∷ variable 3 ∷ property 1 21 5 ∷ property 2 22 6 ∷ make 0 3 7 ∷ grant 3 ∷ []))
    (with_prototype (host (make 0 3 7)) 0 1 ∷ grants 3 ∷ loads 0 22 0 ∷ loads 0 21 0 ∷ [])
    (7 ∷ 5 ∷ [])
unfolding outcome
host-chooses-no-prototype = refl
