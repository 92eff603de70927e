-- Runs about the start of the machine, and about runs as such. Assumes nothing.
use mathlib.Core.Path.{refl}
use mathlib.Core.List.{[], ◌∷◌, ◌++◌}
use Rattle.program.proofs.File.{plain, array, function, variable, named, grant, property, held, store, return, forbidden, journal}
use Rattle.machine.proofs.Runs.Run.{guest_make_function, guest_catch, host, at_pair, does, hands, grants, loads, outcome, EndsWith}

-- the empty run: the guest holds nothing
pub empty-run : EndsWith (journal ++ (grant 2 ∷ [])) [] []
unfolding outcome
empty-run = refl

-- turns without sense are steps too, which do nothing: a statement and a frame that are not there, a statement in a frame of another scope, a
-- thrown value that is not there
pub senseless-turns : EndsWith (journal ++ (function 6 ∷ grant 2 ∷ return 6 2 ∷ []))
    (does (host []) 0 ∷
    does (host (grant 2)) 7 ∷
    does (host (return 6 2)) 1 ∷
    does guest_make_function 0 ∷
    hands 0 0 ∷
    hands 7 0 ∷
    does guest_catch 1 ∷
    grants 2 ∷ [])
    (5 ∷ [])
unfolding outcome
senseless-turns = refl

-- the guest's first frame is there before any step
pub guest-first : EndsWith forbidden (does guest_make_function 1 ∷ []) (3 ∷ [])
unfolding outcome
guest-first = refl

-- ---- objects at the start

-- labels 0, 1, 2 and 4 have an object, in which the guest finds things; the prototype of 0, 2 and 4 is that of label 1
pub first-objects : EndsWith
    (forbidden ++ (plain 6 ∷ plain 7 ∷ plain 8 ∷ variable 10 ∷ variable 11 ∷ variable 12 ∷ variable 14 ∷
    held 10 0 ∷ held 11 1 ∷ held 12 2 ∷ held 14 4 ∷ property 0 20 6 ∷ property 1 21 5 ∷ property 2 22 7 ∷ property 4 24 8 ∷
    grant 10 ∷ grant 11 ∷ grant 12 ∷ grant 14 ∷ []))
    (grants 10 ∷ grants 11 ∷ grants 12 ∷ grants 14 ∷
    loads 0 20 0 ∷ loads 1 21 0 ∷ loads 2 22 0 ∷ loads 3 24 0 ∷
    loads 0 21 0 ∷ loads 2 21 0 ∷ loads 3 21 0 ∷ [])
    (0 ∷ 1 ∷ 2 ∷ 4 ∷ 6 ∷ 5 ∷ 7 ∷ 8 ∷ 5 ∷ 5 ∷ 5 ∷ [])
unfolding outcome
first-objects = refl

-- prototypes by type: a plain object that of label 1, a function that of label 2, an array that of label 4; label 1 has none
pub prototypes-at-start : EndsWith
    (forbidden ++ (plain 6 ∷ function 7 ∷ array 8 ∷ plain 9 ∷ plain 10 ∷ variable 6 ∷ variable 7 ∷ variable 8 ∷ variable 11 ∷
    held 6 6 ∷ held 7 7 ∷ held 8 8 ∷ held 11 1 ∷ property 1 21 5 ∷ property 2 22 9 ∷ property 4 24 10 ∷
    grant 6 ∷ grant 7 ∷ grant 8 ∷ grant 11 ∷ []))
    (grants 6 ∷ grants 7 ∷ grants 8 ∷ grants 11 ∷
    loads 0 21 0 ∷ loads 0 22 0 ∷ loads 0 24 0 ∷
    loads 1 22 0 ∷ loads 1 24 0 ∷
    loads 2 22 0 ∷ loads 2 24 0 ∷
    loads 3 22 0 ∷ loads 3 24 0 ∷ [])
    (6 ∷ 7 ∷ 8 ∷ 1 ∷ 5 ∷ 9 ∷ 10 ∷ [])
unfolding outcome
prototypes-at-start = refl

-- one object for a label, whatever records it stands in: the journal is stored in what variable 4 holds, and found in what variable 5 holds and
-- in what is under name 10 of label 7
pub one-object-for-a-label : EndsWith
    (journal ++ (plain 6 ∷ plain 7 ∷ variable 3 ∷ variable 4 ∷ variable 5 ∷ property 7 10 6 ∷ property 6 11 7 ∷ held 3 7 ∷ held 4 6 ∷ held 5 6 ∷
    store 0 4 12 2 ∷ grant 3 ∷ grant 5 ∷ []))
    (at_pair (host (store 0 4 12 2)) 0 [] 12 0 ∷
    grants 3 ∷
    grants 5 ∷
    loads 1 12 0 ∷
    loads 0 10 0 ∷
    loads 3 12 0 ∷
    loads 3 11 0 ∷ [])
    (7 ∷ 6 ∷ 5 ∷ 6 ∷ 5 ∷ 7 ∷ [])
unfolding outcome
one-object-for-a-label = refl

-- ---- kinds 7 and 8

-- two kind 7 records for one label and name: the second is under the pair (4, 1)
pub second-pair : EndsWith (forbidden ++ (plain 6 ∷ plain 7 ∷ variable 2 ∷ held 2 7 ∷ property 7 4 6 ∷ property 7 4 5 ∷ grant 2 ∷ []))
    (grants 2 ∷ loads 0 4 1 ∷ [])
    (7 ∷ 5 ∷ [])
unfolding outcome
second-pair = refl

-- only those of the same label and name are counted, and all of them
pub counted-apart : EndsWith
    (forbidden ++ (plain 6 ∷ plain 7 ∷ plain 8 ∷ variable 2 ∷ variable 3 ∷ property 7 4 6 ∷ property 7 10 6 ∷ property 6 4 8 ∷ held 2 7 ∷
    property 7 4 7 ∷ held 3 6 ∷ property 7 4 5 ∷ grant 2 ∷ grant 3 ∷ []))
    (grants 2 ∷ grants 3 ∷ loads 0 4 0 ∷ loads 0 4 1 ∷ loads 0 4 2 ∷ loads 0 10 0 ∷ loads 1 4 0 ∷ [])
    (7 ∷ 6 ∷ 6 ∷ 7 ∷ 5 ∷ 6 ∷ 8 ∷ [])
unfolding outcome
counted-apart = refl

-- a kind 7 and a kind 8 record fill one pair: the last stands, here the kind 8 one
pub held-last : EndsWith (forbidden ++ (plain 6 ∷ named 2 4 ∷ property 0 4 6 ∷ held 2 5 ∷ grant 2 ∷ []))
    (grants 2 ∷ [])
    (5 ∷ [])
unfolding outcome
held-last = refl

-- and here the kind 7 one
pub property-last : EndsWith (forbidden ++ (plain 6 ∷ named 2 4 ∷ held 2 5 ∷ property 0 4 6 ∷ grant 2 ∷ []))
    (grants 2 ∷ [])
    (6 ∷ [])
unfolding outcome
property-last = refl

-- two kind 8 records fill one variable
pub second-held : EndsWith (forbidden ++ (plain 6 ∷ variable 2 ∷ held 2 6 ∷ held 2 5 ∷ grant 2 ∷ []))
    (grants 2 ∷ [])
    (5 ∷ [])
unfolding outcome
second-held = refl
