-- Runs of a guest that is held to a class of names (request 04): what it still does, and what only a guest that is not held does. Assumes nothing.
use mathlib.Core.Path.{refl}
use mathlib.Core.List.{List, [], ◌∷◌, ◌++◌}
use Prim.Native.Nat.{ℕ}
use lib.ListN.{replicate}
use Rattle.program.proofs.File.{name, plain, function, variable, profile, grant, property, held, load, call, return, throw, catch, forbidden, journal}
use Rattle.machine.proofs.Runs.Run.{Turn, guest_make_function, guest_store, guest_call, guest_new, guest_return, guest_throw, guest_catch, host, at_pair, does, hands, grants, lends, makes, loads, loads_from_primitive, outcome, EndsWith}

-- ---- loads

-- the guest has an object with the journal under names 10 and 11, of which 10 is of class 1, by a record that stands behind
abbrev lent : List (List ℕ)
lent = forbidden ++ (plain 6 ∷ variable 3 ∷ held 3 6 ∷ property 6 10 5 ∷ property 6 11 5 ∷ grant 3 ∷ [])

abbrev tagged : List (List ℕ)
tagged = name 10 3 ∷ name 11 5 ∷ []

-- held to class 1 it comes to the journal by a name of the class
pub held-still-leaks : EndsWith (lent ++ (profile 1 ∷ tagged))
    (grants 3 ∷ loads 0 10 0 ∷ [])
    (6 ∷ 5 ∷ [])
unfolding outcome
held-still-leaks = refl

-- but not by another, which is of class 2
pub held-not-loaded : EndsWith (lent ++ (profile 1 ∷ tagged))
    (grants 3 ∷ loads 0 11 0 ∷ [])
    (6 ∷ [])
unfolding outcome
held-not-loaded = refl

-- held to class 2 it is the other way round; not held, or held to class 0, it does both
pub held-to-another : EndsWith (lent ++ (profile 2 ∷ tagged))
    (grants 3 ∷ loads 0 10 0 ∷ loads 0 11 0 ∷ [])
    (6 ∷ 5 ∷ [])
unfolding outcome
held-to-another = refl

pub not-held-loads : EndsWith (lent ++ tagged)
    (grants 3 ∷ loads 0 10 0 ∷ loads 0 11 0 ∷ [])
    (6 ∷ 5 ∷ 5 ∷ [])
unfolding outcome
not-held-loads = refl

pub held-to-every-name : EndsWith (lent ++ (tagged ++ (profile 0 ∷ [])))
    (grants 3 ∷ loads 0 10 0 ∷ loads 0 11 0 ∷ [])
    (6 ∷ 5 ∷ 5 ∷ [])
unfolding outcome
held-to-every-name = refl

-- on a primitive it is held too: Object.prototype has the journal under name 11 and label 6 under name 10
pub held-from-primitive : EndsWith (forbidden ++ (plain 6 ∷ property 1 10 6 ∷ property 1 11 5 ∷ profile 1 ∷ tagged))
    (loads_from_primitive 0 11 0 ∷ loads_from_primitive 0 10 0 ∷ [])
    (6 ∷ [])
unfolding outcome
held-from-primitive = refl

-- ---- stores

-- the guest has object 6, and the host calls with the journal what it finds there under name 10, or under name 11
abbrev called_back : List (List ℕ)
called_back =
    journal ++ (plain 6 ∷ variable 3 ∷ variable 4 ∷ variable 6 ∷ held 3 6 ∷ grant 3 ∷
    load 0 4 3 10 6 ∷ call 0 0 4 0 (2 ∷ []) ∷ load 0 6 3 11 6 ∷ call 0 0 6 0 (2 ∷ []) ∷ [])

-- the guest stores a function there under name n, and the host calls what it finds
abbrev stores : ℕ → List Turn
stores n =
    grants 3 ∷ does guest_make_function 1 ∷ at_pair guest_store 1 (0 ∷ 1 ∷ []) n 0 ∷
    at_pair (host (load 0 4 3 10 6)) 0 [] 10 0 ∷ does (host (call 0 0 4 0 (2 ∷ []))) 0 ∷
    at_pair (host (load 0 6 3 11 6)) 0 [] 11 0 ∷ does (host (call 0 0 6 0 (2 ∷ []))) 0 ∷ []

pub held-stores : EndsWith (called_back ++ (profile 1 ∷ tagged))
    (stores 10)
    (6 ∷ 3 ∷ 5 ∷ [])
unfolding outcome
held-stores = refl

pub held-not-stored : EndsWith (called_back ++ (profile 1 ∷ tagged))
    (stores 11)
    (6 ∷ 3 ∷ [])
unfolding outcome
held-not-stored = refl

pub not-held-stores : EndsWith (called_back ++ tagged)
    (stores 11)
    (6 ∷ 3 ∷ 5 ∷ [])
unfolding outcome
not-held-stores = refl

-- ---- functions

-- the host takes a function that the guest made and hands back what it finds under name 3
abbrev looks_at_three : List (List ℕ)
looks_at_three = forbidden ++ (plain 6 ∷ variable 3 ∷ variable 4 ∷ grant 3 ∷ grant 4 ∷ load 0 4 3 3 6 ∷ [])

abbrev hands_over : List Turn
hands_over = does guest_make_function 1 ∷ lends 3 0 ∷ at_pair (host (load 0 4 3 3 6)) 0 [] 3 0 ∷ grants 4 ∷ []

pub property-of-a-function : EndsWith looks_at_three
    hands_over
    (3 ∷ 3 ∷ [])
unfolding outcome
property-of-a-function = refl

-- where name 3 is not of its class, the guest's function has no prototype property
pub no-property-of-a-function : EndsWith (looks_at_three ++ (profile 1 ∷ []))
    hands_over
    (3 ∷ [])
unfolding outcome
no-property-of-a-function = refl

-- where it is, the function has one
pub property-by-its-class : EndsWith (looks_at_three ++ (profile 1 ∷ name 3 3 ∷ []))
    hands_over
    (3 ∷ 3 ∷ [])
unfolding outcome
property-by-its-class = refl

-- without the property it is a function nonetheless: the host calls it with the journal
pub called-without-property : EndsWith (journal ++ (variable 3 ∷ grant 3 ∷ call 0 0 3 0 (2 ∷ []) ∷ profile 1 ∷ []))
    (does guest_make_function 1 ∷ lends 3 0 ∷ does (host (call 0 0 3 0 (2 ∷ []))) 0 ∷ [])
    (3 ∷ 5 ∷ [])
unfolding outcome
called-without-property = refl

-- and its prototype is that of label 1, 2 or 4, as the guest chooses
pub prototype-without-property : EndsWith
    (forbidden ++ (plain 6 ∷ plain 7 ∷ property 1 21 5 ∷ property 2 22 6 ∷ property 4 24 7 ∷ name 21 3 ∷ name 22 3 ∷ name 24 3 ∷ profile 1 ∷ []))
    (makes 0 0 ∷ makes 1 0 ∷ makes 2 0 ∷
    loads 0 21 0 ∷ loads 0 22 0 ∷ loads 0 24 0 ∷
    loads 1 22 0 ∷ loads 1 24 0 ∷
    loads 2 22 0 ∷ loads 2 24 0 ∷ [])
    (3 ∷ 3 ∷ 3 ∷ 5 ∷ 6 ∷ 7 ∷ [])
unfolding outcome
prototype-without-property = refl

-- ---- all else as before

-- the guest calls, and gets what is returned
pub held-calls : EndsWith (journal ++ (variable 3 ∷ function 6 ∷ held 3 6 ∷ grant 3 ∷ return 6 2 ∷ profile 1 ∷ []))
    (grants 3 ∷
    does guest_call 1 ∷  -- 6: frame 2
    does (host (return 6 2)) 2 ∷ [])
    (6 ∷ 5 ∷ [])
unfolding outcome
held-calls = refl

-- its `new` looks up name 3, though that is not of its class: the object has 7 as prototype, where the journal is under name 10
pub held_new : EndsWith
    (forbidden ++ (function 6 ∷ plain 7 ∷ variable 3 ∷ held 3 6 ∷ property 6 3 7 ∷ property 7 10 5 ∷ grant 3 ∷ profile 1 ∷ name 10 3 ∷ []))
    (grants 3 ∷ does guest_new 1 ∷ loads 1 10 0 ∷ [])
    (6 ∷ 3 ∷ 3 ∷ 5 ∷ [])
unfolding outcome
held_new = refl

-- its `new` on a function of its own, which has nothing under name 3: the object's prototype is that of label 1, where the journal is under name 10
pub held-new-of-its-own : EndsWith (forbidden ++ (property 1 10 5 ∷ profile 1 ∷ name 10 3 ∷ []))
    (makes 2 0 ∷ does guest_new 1 ∷ loads 1 10 0 ∷ [])
    (3 ∷ 3 ∷ 3 ∷ 3 ∷ replicate 6 3 ++ (5 ∷ []))  -- the function, t, y, this and six arguments
unfolding outcome
held-new-of-its-own = refl

-- where the function has Function.prototype as its own prototype, name 3 is found there
pub held-new-along : EndsWith (forbidden ++ (plain 7 ∷ property 2 3 7 ∷ property 7 10 5 ∷ profile 1 ∷ name 10 3 ∷ []))
    (makes 1 0 ∷ does guest_new 1 ∷ loads 1 10 0 ∷ [])
    (3 ∷ 3 ∷ 3 ∷ 3 ∷ replicate 6 3 ++ (5 ∷ []))  -- the function, t, y, this and six arguments
unfolding outcome
held-new-along = refl

-- it returns and throws: the host, whose variable 4 gets its function by the call or by the catch, calls that with the journal
abbrev takes_function : List (List ℕ)
takes_function = journal ++ (variable 3 ∷ variable 4 ∷ grant 3 ∷ call 0 4 3 0 [] ∷ catch 0 4 ∷ call 0 0 4 0 (2 ∷ []) ∷ profile 1 ∷ [])

pub held-returns : EndsWith takes_function
    (does guest_make_function 1 ∷
    lends 3 0 ∷
    does (host (call 0 4 3 0 [])) 0 ∷  -- the guest: frame 2
    does guest_return 2 ∷
    does (host (call 0 0 4 0 (2 ∷ []))) 0 ∷ [])
    (3 ∷ 5 ∷ [])
unfolding outcome
held-returns = refl

pub held-throws : EndsWith takes_function
    (does guest_make_function 1 ∷
    lends 3 0 ∷
    does (host (call 0 4 3 0 [])) 0 ∷  -- the guest: frame 2
    does guest_throw 2 ∷
    hands 2 0 ∷
    does (host (catch 0 4)) 0 ∷
    does (host (call 0 0 4 0 (2 ∷ []))) 0 ∷ [])
    (3 ∷ 5 ∷ [])
unfolding outcome
held-throws = refl

-- and it catches what a function throws that it calls
pub held-catches : EndsWith (journal ++ (variable 3 ∷ function 6 ∷ held 3 6 ∷ grant 3 ∷ throw 6 2 ∷ profile 1 ∷ []))
    (grants 3 ∷
    does guest_call 1 ∷  -- 6: frame 2
    does (host (throw 6 2)) 2 ∷
    hands 2 0 ∷
    does guest_catch 1 ∷ [])
    (6 ∷ 5 ∷ [])
unfolding outcome
held-catches = refl

-- what the host loads and stores under is its own affair: name 10 is of no class but 0
pub host-not-held : EndsWith (forbidden ++ (plain 6 ∷ variable 3 ∷ variable 4 ∷ held 3 6 ∷ property 6 10 5 ∷ load 0 4 3 128 6 ∷ grant 4 ∷ profile 1 ∷ []))
    (at_pair (host (load 0 4 3 128 6)) 0 [] 10 0 ∷ grants 4 ∷ [])
    (5 ∷ [])
unfolding outcome
host-not-held = refl
