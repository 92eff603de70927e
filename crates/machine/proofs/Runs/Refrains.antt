-- Runs in which the machine does no more than document 01 says: most end without the journal. Assumes nothing.
use mathlib.Core.Path.{refl}
use mathlib.Core.List.{[], ◌∷◌, ◌++◌}
use Rattle.program.proofs.File.{name, plain, function_label, built_in_plain, takes, function, variable, local, named, grant, property, held, copy, load, store, call, new, return, throw, catch, prim, forbidden, journal}
use Rattle.machine.proofs.Runs.Run.{guest_make_function, guest_call, guest_return, guest_throw, guest_catch, host, at_pair, does, hands, grants, lends, loads, outcome, EndsWith}

-- ---- variables

-- variable 4 of 6 is found outward and not in the caller: 7, which the top frame keeps, reads nothing
pub not-read-in-the-caller : EndsWith
    (journal ++ (variable 3 ∷ variable 7 ∷ function 6 ∷ function 7 ∷ local 4 6 ∷ local 5 6 ∷ held 3 6 ∷ held 7 7 ∷
    grant 3 ∷ copy 6 4 2 ∷ call 6 5 7 0 [] ∷ return 7 4 ∷ return 6 5 ∷ []))
    (grants 3 ∷
    does guest_call 1 ∷  -- 6: frame 2
    does (host (copy 6 4 2)) 2 ∷
    does (host (call 6 5 7 0 [])) 2 ∷  -- 7: frame 3
    does (host (return 7 4)) 3 ∷
    does (host (return 6 5)) 2 ∷ [])
    (6 ∷ [])
unfolding outcome
not-read-in-the-caller = refl

-- nor does it write there
pub not-written-in-the-caller : EndsWith
    (journal ++ (variable 3 ∷ variable 7 ∷ function 6 ∷ function 7 ∷ local 4 6 ∷ held 3 6 ∷ held 7 7 ∷
    grant 3 ∷ call 6 0 7 0 [] ∷ copy 7 4 2 ∷ return 6 4 ∷ []))
    (grants 3 ∷
    does guest_call 1 ∷  -- 6: frame 2
    does (host (call 6 0 7 0 [])) 2 ∷  -- 7: frame 3
    does (host (copy 7 4 2)) 3 ∷
    does (host (return 6 4)) 2 ∷ [])
    (6 ∷ [])
unfolding outcome
not-written-in-the-caller = refl

-- variable 0 is empty for ever
pub variable-zero : EndsWith (journal ++ (variable 3 ∷ copy 0 0 2 ∷ copy 0 3 0 ∷ grant 3 ∷ []))
    (does (host (copy 0 0 2)) 0 ∷ does (host (copy 0 3 0)) 0 ∷ grants 3 ∷ [])
    []
unfolding outcome
variable-zero = refl

-- variable 2 is the pair (4, 0) of the global object itself, and not that of Object.prototype, where function 6 is
pub own_pair : EndsWith
    (forbidden ++ (variable 3 ∷ variable 4 ∷ function_label 6 ∷ takes 6 0 (4 ∷ []) ∷ named 2 4 ∷ held 3 5 ∷ property 1 4 6 ∷
    grant 4 ∷ call 0 0 2 0 (3 ∷ []) ∷ []))
    (does (host (call 0 0 2 0 (3 ∷ []))) 0 ∷ grants 4 ∷ [])
    []
unfolding outcome
own_pair = refl

-- ---- scopes and frames

-- a statement is carried out in a frame of its scope only: a return of 6 not in one of 7, a grant in the top frame only
pub other-scope : EndsWith (journal ++ (variable 3 ∷ function 6 ∷ function 7 ∷ held 3 7 ∷ grant 3 ∷ grant 2 ∷ return 6 2 ∷ []))
    (grants 3 ∷
    does guest_call 1 ∷  -- 7: frame 2
    does (host (return 6 2)) 2 ∷
    does (host (grant 2)) 2 ∷
    does (host (grant 2)) 1 ∷ [])
    (7 ∷ [])
unfolding outcome
other-scope = refl

-- a frame that is not there carries out nothing, though the variable is a named one
pub no-such-frame : EndsWith (forbidden ++ (named 2 4 ∷ held 2 5 ∷ grant 2 ∷ []))
    (does (host (grant 2)) 7 ∷ [])
    []
unfolding outcome
no-such-frame = refl

-- ---- keys

-- a key that is a name allows no other
pub other_name : EndsWith
    (journal ++ (plain 6 ∷ variable 3 ∷ variable 4 ∷ held 3 6 ∷ property 6 10 5 ∷ load 0 4 3 4 6 ∷ store 0 3 4 2 ∷ grant 3 ∷ grant 4 ∷ []))
    (at_pair (host (load 0 4 3 4 6)) 0 [] 10 0 ∷
    grants 4 ∷
    at_pair (host (store 0 3 4 2)) 0 [] 11 0 ∷
    grants 3 ∷
    loads 1 11 0 ∷ [])  -- behind the primitive that was in variable 4
    (6 ∷ [])
unfolding outcome
other_name = refl

-- a name without a record, and one with a record that leaves class 3 out, are not of class 3
pub other-class : EndsWith
    (journal ++ (name 11 5 ∷ plain 6 ∷ variable 3 ∷ variable 4 ∷ held 3 6 ∷ property 6 10 5 ∷ property 6 11 5 ∷
    load 0 4 3 131 6 ∷ store 0 3 131 2 ∷ grant 3 ∷ grant 4 ∷ []))
    (at_pair (host (load 0 4 3 131 6)) 0 [] 10 0 ∷
    grants 4 ∷
    at_pair (host (load 0 4 3 131 6)) 0 [] 11 0 ∷
    grants 4 ∷
    at_pair (host (store 0 3 131 2)) 0 [] 12 0 ∷
    grants 3 ∷
    loads 2 12 0 ∷ [])
    (6 ∷ [])
unfolding outcome
other-class = refl

-- a name of class 3, by a record that stands behind, is not outside it: a list of hidden names guards them
pub hidden-name : EndsWith
    (journal ++ (plain 6 ∷ variable 3 ∷ variable 4 ∷ held 3 6 ∷ property 6 10 5 ∷
    load 0 4 3 139 6 ∷ store 0 3 139 2 ∷ grant 3 ∷ grant 4 ∷ name 10 9 ∷ name 11 9 ∷ []))
    (at_pair (host (load 0 4 3 139 6)) 0 [] 10 0 ∷
    grants 4 ∷
    at_pair (host (store 0 3 139 2)) 0 [] 11 0 ∷
    grants 3 ∷
    loads 1 11 0 ∷ [])  -- behind the primitive that was in variable 4
    (6 ∷ [])
unfolding outcome
hidden-name = refl

-- no name is outside class 0
pub no_name : EndsWith
    (journal ++ (plain 6 ∷ variable 3 ∷ variable 4 ∷ held 3 6 ∷ property 6 10 5 ∷ load 0 4 3 136 6 ∷ store 0 3 136 2 ∷ grant 3 ∷ grant 4 ∷ []))
    (at_pair (host (load 0 4 3 136 6)) 0 [] 10 0 ∷
    grants 4 ∷
    at_pair (host (store 0 3 136 2)) 0 [] 31 0 ∷
    grants 3 ∷
    loads 1 31 0 ∷ [])
    (6 ∷ [])
unfolding outcome
no_name = refl

-- ---- stores

-- the journal is stored in a built-in object that the guest has: nothing happens
pub store-on-built-in : EndsWith
    (journal ++ (built_in_plain 6 ∷ variable 3 ∷ variable 4 ∷ held 3 6 ∷ held 4 6 ∷ grant 3 ∷ store 0 4 4 2 ∷ []))
    (grants 3 ∷ at_pair (host (store 0 4 4 2)) 0 [] 4 0 ∷ loads 0 4 0 ∷ [])
    (6 ∷ [])
unfolding outcome
store-on-built-in = refl

-- the same with the built-in object of label 1
pub store-on-object-prototype : EndsWith (journal ++ (variable 3 ∷ held 3 1 ∷ grant 3 ∷ store 0 3 4 2 ∷ []))
    (grants 3 ∷ at_pair (host (store 0 3 4 2)) 0 [] 4 0 ∷ loads 0 4 0 ∷ [])
    (1 ∷ [])
unfolding outcome
store-on-object-prototype = refl

-- a store to a primitive does nothing
pub store-on-primitive : EndsWith (journal ++ (plain 6 ∷ variable 3 ∷ held 3 6 ∷ grant 3 ∷ store 0 0 4 2 ∷ []))
    (grants 3 ∷ at_pair (host (store 0 0 4 2)) 0 [] 4 0 ∷ loads 0 4 0 ∷ [])
    (6 ∷ [])
unfolding outcome
store-on-primitive = refl

-- ---- calls

-- what is no function is not called: else the journal, as its argument, would come to the variable that a label has before it has a function
pub call-on-plain : EndsWith (journal ++ (plain 6 ∷ variable 3 ∷ held 3 6 ∷ call 0 0 3 2 (2 ∷ []) ∷ []))
    (does (host (call 0 0 3 2 (2 ∷ []))) 0 ∷ [])
    []
unfolding outcome
call-on-plain = refl

-- `new` on what is no function does nothing: no journal is made
pub new-on-no-function : EndsWith
    (forbidden ++ (plain 6 ∷ variable 2 ∷ variable 3 ∷ variable 4 ∷ held 3 6 ∷ new 0 2 3 4 5 [] ∷ new 0 2 0 4 5 [] ∷ grant 2 ∷ grant 4 ∷ []))
    (does (host (new 0 2 3 4 5 [])) 0 ∷ does (host (new 0 2 0 4 5 [])) 0 ∷ grants 2 ∷ grants 4 ∷ [])
    []
unfolding outcome
new-on-no-function = refl

-- prim does not call what is under another name than toString and valueOf
pub prim-by-other-name : EndsWith
    (journal ++ (variable 4 ∷ function_label 7 ∷ takes 7 4 [] ∷ property 5 3 7 ∷ property 5 0 7 ∷ prim 0 2 ∷ grant 4 ∷ []))
    (at_pair (host (prim 0 2)) 0 [] 3 0 ∷ at_pair (host (prim 0 2)) 0 [] 0 0 ∷ grants 4 ∷ [])
    []
unfolding outcome
prim-by-other-name = refl

-- prim on a primitive does nothing, though there is a toString in Object.prototype: the next call's frame is frame 2
pub prim-on-primitive : EndsWith
    (journal ++ (variable 3 ∷ function 6 ∷ function 7 ∷ property 1 1 7 ∷ held 3 6 ∷ grant 3 ∷ prim 0 0 ∷ return 6 2 ∷ []))
    (at_pair (host (prim 0 0)) 0 [] 1 0 ∷
    grants 3 ∷
    does guest_call 1 ∷  -- 6: frame 2
    does (host (return 6 2)) 2 ∷ [])
    (6 ∷ 5 ∷ [])
unfolding outcome
prim-on-primitive = refl

-- prim drops the result
pub prim-drops-the-result : EndsWith
    (journal ++ (plain 8 ∷ function 7 ∷ variable 4 ∷ held 4 8 ∷ property 8 1 7 ∷ prim 0 4 ∷ return 7 2 ∷ grant 4 ∷ []))
    (at_pair (host (prim 0 4)) 0 [] 1 0 ∷  -- 7: frame 2
    does (host (return 7 2)) 2 ∷
    grants 4 ∷ [])
    (8 ∷ [])
unfolding outcome
prim-drops-the-result = refl

-- a return at top level puts its value nowhere, and the top frame steps on; it is carried out in no other frame (request 02)
pub returned-to-nobody : EndsWith (journal ++ (variable 3 ∷ function 6 ∷ held 3 6 ∷ grant 3 ∷ return 0 2 ∷ []))
    (does (host (return 0 2)) 0 ∷
    grants 3 ∷
    does guest_call 1 ∷  -- 6: frame 2
    does (host (return 0 2)) 0 ∷
    does (host (return 0 2)) 2 ∷
    does (host (return 0 2)) 1 ∷ [])
    (6 ∷ [])
unfolding outcome
returned-to-nobody = refl

-- nor is it what a call of the global object gives: the call makes no frame, so that there is none in which the return would have a caller
pub label-0-returns-nothing : EndsWith
    (forbidden ++ (named 2 4 ∷ variable 3 ∷ variable 4 ∷ held 2 5 ∷ held 3 0 ∷ grant 4 ∷ call 0 4 3 0 [] ∷ return 0 2 ∷ []))
    (does (host (call 0 4 3 0 [])) 0 ∷ does (host (return 0 2)) 0 ∷ does (host (return 0 2)) 2 ∷ grants 4 ∷ [])
    []
unfolding outcome
label-0-returns-nothing = refl

-- ---- throws

-- function 6 throws the journal and calls the guest, which catches only what was thrown in its own frame or handed to it
pub own-throws : EndsWith
    (journal ++ (variable 3 ∷ variable 4 ∷ function 6 ∷ held 3 6 ∷ grant 4 ∷ call 0 0 3 0 [] ∷ throw 6 2 ∷ call 6 0 4 0 [] ∷ []))
    (does guest_make_function 1 ∷
    lends 4 0 ∷
    does (host (call 0 0 3 0 [])) 0 ∷  -- 6: frame 2
    does (host (throw 6 2)) 2 ∷
    does (host (call 6 0 4 0 [])) 2 ∷  -- the guest: frame 3
    does guest_catch 3 ∷ [])
    (3 ∷ [])
unfolding outcome
own-throws = refl

-- the guest's first frame has no caller: what it throws and what it returns there reach no host statement
pub guest-has-no-caller : EndsWith (journal ++ (variable 4 ∷ catch 0 4 ∷ call 0 0 4 0 (2 ∷ []) ∷ []))
    (does guest_make_function 1 ∷
    does guest_throw 1 ∷
    does guest_return 1 ∷
    hands 1 0 ∷
    does (host (catch 0 4)) 0 ∷
    does (host (call 0 0 4 0 (2 ∷ []))) 0 ∷ [])
    (3 ∷ [])
unfolding outcome
guest-has-no-caller = refl
