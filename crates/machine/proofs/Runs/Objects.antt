-- Runs of make, make function, load and store: prototypes by type, pairs, keys, and what is found along the prototypes. Assumes nothing.
use mathlib.Core.Path.{refl}
use mathlib.Core.List.{[], ◌∷◌, ◌++◌}
use Rattle.program.proofs.File.{name, plain, function_label, array, takes, function, variable, local, grant, property, held, load, store, make, make_function, new, return, forbidden, journal}
use Rattle.machine.proofs.Runs.Run.{guest_call, host, at_pair, picks, does, grants, loads, outcome, EndsWith}

-- the host makes the journal
pub made : EndsWith (forbidden ++ (variable 3 ∷ make 0 3 5 ∷ grant 3 ∷ []))
    (does (host (make 0 3 5)) 0 ∷ grants 3 ∷ [])
    (5 ∷ [])
unfolding outcome
made = refl

-- function 6 makes it
pub made-in-a-function : EndsWith (forbidden ++ (function 6 ∷ local 4 6 ∷ variable 3 ∷ held 3 6 ∷ grant 3 ∷ make 6 4 5 ∷ return 6 4 ∷ []))
    (grants 3 ∷
    does guest_call 1 ∷  -- 6: frame 2
    does (host (make 6 4 5)) 2 ∷
    does (host (return 6 4)) 2 ∷ [])
    (6 ∷ 5 ∷ [])
unfolding outcome
made-in-a-function = refl

-- what the host makes takes the prototype of its type: a plain object that of label 1, a function that of label 2, an array that of label 4, and
-- the q of a function that of label 1; each has its own name there
pub prototypes-of-made : EndsWith
    (forbidden ++ (plain 6 ∷ function 7 ∷ array 8 ∷ plain 9 ∷ plain 10 ∷ plain 11 ∷ variable 6 ∷ variable 7 ∷ variable 8 ∷
    property 1 21 5 ∷ property 2 22 10 ∷ property 4 24 11 ∷
    make 0 6 6 ∷ make_function 0 7 7 9 ∷ make 0 8 8 ∷ grant 6 ∷ grant 7 ∷ grant 8 ∷ []))
    (does (host (make 0 6 6)) 0 ∷ does (host (make_function 0 7 7 9)) 0 ∷ does (host (make 0 8 8)) 0 ∷
    grants 6 ∷ grants 7 ∷ grants 8 ∷
    loads 1 3 0 ∷  -- the q
    loads 0 21 0 ∷ loads 0 22 0 ∷ loads 0 24 0 ∷  -- of the plain object only the first is found
    loads 1 22 0 ∷ loads 1 24 0 ∷  -- of the function the one
    loads 2 22 0 ∷ loads 2 24 0 ∷  -- of the array the other
    loads 3 21 0 ∷ loads 3 22 0 ∷ loads 3 24 0 ∷ [])
    (6 ∷ 7 ∷ 8 ∷ 9 ∷ 5 ∷ 10 ∷ 11 ∷ 5 ∷ [])
unfolding outcome
prototypes-of-made = refl

-- make function puts the function in y, and under the pair (3, 0) of it an object q; each function has its own
pub own-prototype-property : EndsWith
    (journal ++ (function 6 ∷ plain 7 ∷ variable 3 ∷ variable 4 ∷ variable 6 ∷ make_function 0 3 6 7 ∷ make_function 0 4 6 7 ∷
    load 0 6 3 3 7 ∷ store 0 6 10 2 ∷ grant 3 ∷ grant 4 ∷ []))
    (does (host (make_function 0 3 6 7)) 0 ∷
    does (host (make_function 0 4 6 7)) 0 ∷
    at_pair (host (load 0 6 3 3 7)) 0 [] 3 0 ∷
    at_pair (host (store 0 6 10 2)) 0 [] 10 0 ∷
    grants 3 ∷
    grants 4 ∷
    loads 0 3 0 ∷ loads 1 3 0 ∷
    loads 3 10 0 ∷  -- nothing in the second one
    loads 2 10 0 ∷ [])
    (6 ∷ 6 ∷ 7 ∷ 7 ∷ 5 ∷ [])
unfolding outcome
own-prototype-property = refl

-- two objects of one label are two
pub made-twice : EndsWith
    (journal ++ (plain 6 ∷ variable 3 ∷ variable 4 ∷ make 0 3 6 ∷ make 0 4 6 ∷ store 0 3 10 2 ∷ grant 3 ∷ grant 4 ∷ []))
    (does (host (make 0 3 6)) 0 ∷
    does (host (make 0 4 6)) 0 ∷
    at_pair (host (store 0 3 10 2)) 0 [] 10 0 ∷
    grants 3 ∷
    grants 4 ∷
    loads 1 10 0 ∷
    loads 0 10 0 ∷ [])
    (6 ∷ 6 ∷ 5 ∷ [])
unfolding outcome
made-twice = refl

-- ---- along the prototypes

-- a load goes on from Function.prototype and from Array.prototype to Object.prototype
pub along-two-prototypes : EndsWith
    (forbidden ++ (function 6 ∷ array 7 ∷ variable 3 ∷ variable 4 ∷ held 3 6 ∷ held 4 7 ∷ property 1 10 5 ∷ grant 3 ∷ grant 4 ∷ []))
    (grants 3 ∷ grants 4 ∷ loads 0 10 0 ∷ loads 1 10 0 ∷ [])
    (6 ∷ 7 ∷ 5 ∷ 5 ∷ [])
unfolding outcome
along-two-prototypes = refl

-- prototypes that `new` found lie before those: from 9, made by 6, by way of 8, made by 7, and function 10 to Object.prototype
pub along-four-prototypes : EndsWith
    (forbidden ++ (function 6 ∷ function 7 ∷ plain 8 ∷ plain 9 ∷ function 10 ∷ variable 3 ∷ variable 4 ∷ variable 5 ∷ variable 6 ∷
    held 3 6 ∷ held 4 7 ∷ property 7 3 10 ∷ property 1 20 5 ∷ new 0 0 4 5 8 [] ∷ store 0 3 3 5 ∷ new 0 0 3 6 9 [] ∷ grant 6 ∷ []))
    (does (host (new 0 0 4 5 8 [])) 0 ∷
    at_pair (host (store 0 3 3 5)) 0 [] 3 0 ∷
    does (host (new 0 0 3 6 9 [])) 0 ∷
    grants 6 ∷
    loads 0 20 0 ∷ [])
    (9 ∷ 5 ∷ [])
unfolding outcome
along-four-prototypes = refl

-- the object's own value is found before that of its prototype, but only the same pair
pub own-value-first : EndsWith
    (forbidden ++ (plain 6 ∷ plain 7 ∷ plain 8 ∷ variable 3 ∷ held 3 6 ∷ property 6 10 7 ∷ property 1 10 8 ∷ property 1 10 5 ∷ grant 3 ∷ []))
    (grants 3 ∷ loads 0 10 0 ∷ loads 0 10 1 ∷ [])
    (6 ∷ 7 ∷ 5 ∷ [])
unfolding outcome
own-value-first = refl

-- a load on variable 0 starts from a fresh w, and finds the journal on its chain, under any pair
pub load-on-primitive : EndsWith (forbidden ++ (plain 6 ∷ property 1 4 6 ∷ property 1 4 5 ∷ variable 2 ∷ load 0 2 0 4 6 ∷ grant 2 ∷ []))
    (at_pair (host (load 0 2 0 4 6)) 0 [] 4 1 ∷ grants 2 ∷ [])
    (5 ∷ [])
unfolding outcome
load-on-primitive = refl

-- the same in function 6, in a variable of its own
pub load-on-primitive-in-a-function : EndsWith
    (forbidden ++ (function 6 ∷ plain 7 ∷ local 4 6 ∷ variable 3 ∷ held 3 6 ∷ property 1 10 5 ∷ grant 3 ∷ load 6 4 0 10 7 ∷ return 6 4 ∷ []))
    (grants 3 ∷
    does guest_call 1 ∷  -- 6: frame 2
    at_pair (host (load 6 4 0 10 7)) 2 [] 10 0 ∷
    does (host (return 6 4)) 2 ∷ [])
    (6 ∷ 5 ∷ [])
unfolding outcome
load-on-primitive-in-a-function = refl

-- w is fresh: what the object of its label had at the start is not in it
pub load-from-fresh : EndsWith (forbidden ++ (plain 6 ∷ property 6 4 5 ∷ variable 2 ∷ load 0 2 0 4 6 ∷ grant 2 ∷ []))
    (at_pair (host (load 0 2 0 4 6)) 0 [] 4 0 ∷ grants 2 ∷ [])
    []
unfolding outcome
load-from-fresh = refl

-- nothing found is a primitive, which takes the place of what y held
pub nothing-found : EndsWith (journal ++ (plain 6 ∷ variable 3 ∷ held 3 6 ∷ load 0 2 3 4 6 ∷ grant 2 ∷ []))
    (at_pair (host (load 0 2 3 4 6)) 0 [] 4 0 ∷ grants 2 ∷ [])
    []
unfolding outcome
nothing-found = refl

-- ---- pairs and keys

-- a store and a load of the pair (4, 2): the pairs (4, 0) and (10, 2) are others
pub any-number : EndsWith
    (journal ++ (plain 6 ∷ variable 3 ∷ variable 4 ∷ held 3 6 ∷ store 0 3 4 2 ∷ load 0 4 3 4 6 ∷ grant 4 ∷ grant 3 ∷ []))
    (at_pair (host (store 0 3 4 2)) 0 [] 4 2 ∷
    grants 3 ∷
    loads 0 4 0 ∷
    loads 0 10 2 ∷
    at_pair (host (load 0 4 3 4 6)) 0 [] 4 2 ∷
    grants 4 ∷
    grants 4 ∷ [])
    (6 ∷ 5 ∷ 5 ∷ [])
unfolding outcome
any-number = refl

-- function 6 loads the journal from its argument
pub loaded-in-a-function : EndsWith
    (forbidden ++ (function_label 6 ∷ plain 7 ∷ local 4 6 ∷ local 5 6 ∷ takes 6 0 (4 ∷ []) ∷ variable 3 ∷ variable 7 ∷ held 3 6 ∷ held 7 7 ∷
    property 7 10 5 ∷ grant 3 ∷ grant 7 ∷ load 6 5 4 10 7 ∷ return 6 5 ∷ []))
    (grants 3 ∷
    grants 7 ∷
    picks guest_call 1 (0 ∷ 0 ∷ 1 ∷ []) ∷  -- 6 with 7: frame 2
    at_pair (host (load 6 5 4 10 7)) 2 [] 10 0 ∷
    does (host (return 6 5)) 2 ∷ [])
    (6 ∷ 7 ∷ 5 ∷ [])
unfolding outcome
loaded-in-a-function = refl

-- a store leaves what is under other pairs, and takes the place of what was under its own
pub stored-beside : EndsWith
    (journal ++ (plain 6 ∷ plain 7 ∷ variable 3 ∷ variable 7 ∷ held 3 6 ∷ held 7 7 ∷ store 0 3 128 2 ∷ store 0 3 128 7 ∷ grant 3 ∷ []))
    (at_pair (host (store 0 3 128 2)) 0 [] 4 0 ∷
    at_pair (host (store 0 3 128 2)) 0 [] 11 0 ∷
    at_pair (host (store 0 3 128 7)) 0 [] 10 0 ∷
    at_pair (host (store 0 3 128 7)) 0 [] 4 1 ∷
    at_pair (host (store 0 3 128 7)) 0 [] 11 0 ∷
    grants 3 ∷
    loads 0 4 0 ∷
    loads 0 10 0 ∷
    loads 0 4 1 ∷
    loads 0 11 0 ∷ [])
    (6 ∷ 5 ∷ 7 ∷ 7 ∷ 7 ∷ [])
unfolding outcome
stored-beside = refl

-- a load with the key of class 3: name 10 is of it, by a record that stands behind
pub class-loaded : EndsWith
    (forbidden ++ (plain 6 ∷ variable 2 ∷ variable 3 ∷ held 3 6 ∷ property 6 10 5 ∷ load 0 2 3 131 6 ∷ grant 2 ∷ name 10 9 ∷ []))
    (at_pair (host (load 0 2 3 131 6)) 0 [] 10 0 ∷ grants 2 ∷ [])
    (5 ∷ [])
unfolding outcome
class-loaded = refl

-- and a store
pub class-stored : EndsWith (journal ++ (plain 6 ∷ variable 3 ∷ held 3 6 ∷ store 0 3 131 2 ∷ grant 3 ∷ name 10 9 ∷ []))
    (at_pair (host (store 0 3 131 2)) 0 [] 10 0 ∷ grants 3 ∷ loads 0 10 0 ∷ [])
    (6 ∷ 5 ∷ [])
unfolding outcome
class-stored = refl

-- a load with the key of the names outside class 3: name 10 has a record without it, name 12 has none
pub outside-loaded : EndsWith
    (forbidden ++ (plain 6 ∷ variable 2 ∷ variable 3 ∷ held 3 6 ∷ property 6 10 5 ∷ property 6 12 6 ∷ load 0 2 3 139 6 ∷ grant 2 ∷ name 10 5 ∷ []))
    (at_pair (host (load 0 2 3 139 6)) 0 [] 10 0 ∷ grants 2 ∷ at_pair (host (load 0 2 3 139 6)) 0 [] 12 0 ∷ grants 2 ∷ [])
    (5 ∷ 6 ∷ [])
unfolding outcome
outside-loaded = refl

-- and a store
pub outside-stored : EndsWith (journal ++ (plain 6 ∷ variable 3 ∷ held 3 6 ∷ store 0 3 139 2 ∷ grant 3 ∷ name 10 5 ∷ []))
    (at_pair (host (store 0 3 139 2)) 0 [] 10 0 ∷ grants 3 ∷ loads 0 10 0 ∷ [])
    (6 ∷ 5 ∷ [])
unfolding outcome
outside-stored = refl

-- class 0 holds every name, here 31, which has no record
pub every-name : EndsWith (journal ++ (plain 6 ∷ variable 3 ∷ variable 4 ∷ held 3 6 ∷ store 0 3 128 2 ∷ load 0 4 3 128 6 ∷ grant 4 ∷ []))
    (at_pair (host (store 0 3 128 2)) 0 [] 31 0 ∷ at_pair (host (load 0 4 3 128 6)) 0 [] 31 0 ∷ grants 4 ∷ [])
    (5 ∷ [])
unfolding outcome
every-name = refl
