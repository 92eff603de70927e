-- Runs of throw and catch, and of values handed to the caller. Assumes nothing.
use mathlib.Core.Path.{refl}
use mathlib.Core.List.{[], ◌∷◌, ◌++◌}
use Rattle.program.proofs.File.{plain, function, variable, local, grant, held, call, return, throw, catch, journal}
use Rattle.machine.proofs.Runs.Run.{guest_make_function, guest_call, guest_throw, guest_catch, host, picks, does, catches, hands, grants, lends, outcome, EndsWith}

-- 6 throws the journal, which is handed on and caught by the guest
pub caught : EndsWith (journal ++ (variable 3 ∷ function 6 ∷ held 3 6 ∷ grant 3 ∷ throw 6 2 ∷ []))
    (grants 3 ∷
    does guest_call 1 ∷  -- 6: frame 2
    does (host (throw 6 2)) 2 ∷
    hands 2 0 ∷
    does guest_catch 1 ∷ [])
    (6 ∷ 5 ∷ [])
unfolding outcome
caught = refl

-- the same through two frames: 6 calls 7, and 7 throws
pub caught-two-frames-off : EndsWith
    (journal ++ (variable 3 ∷ variable 4 ∷ function 6 ∷ function 7 ∷ held 3 6 ∷ held 4 7 ∷ grant 3 ∷ call 6 0 4 0 [] ∷ throw 7 2 ∷ []))
    (grants 3 ∷
    does guest_call 1 ∷  -- 6: frame 2
    does (host (call 6 0 4 0 [])) 2 ∷  -- 7: frame 3
    does (host (throw 7 2)) 3 ∷
    hands 3 0 ∷
    hands 2 0 ∷
    does guest_catch 1 ∷ [])
    (6 ∷ 5 ∷ [])
unfolding outcome
caught-two-frames-off = refl

-- 7 throws, and 6 in the middle catches what is handed to it and returns it
pub caught-in-the-middle : EndsWith
    (journal ++ (variable 3 ∷ variable 4 ∷ function 6 ∷ function 7 ∷ local 5 6 ∷ held 3 6 ∷ held 4 7 ∷
    grant 3 ∷ call 6 0 4 0 [] ∷ throw 7 2 ∷ catch 6 5 ∷ return 6 5 ∷ []))
    (grants 3 ∷
    does guest_call 1 ∷  -- 6: frame 2
    does (host (call 6 0 4 0 [])) 2 ∷  -- 7: frame 3
    does (host (throw 7 2)) 3 ∷
    hands 3 0 ∷
    does (host (catch 6 5)) 2 ∷
    does (host (return 6 5)) 2 ∷ [])
    (6 ∷ 5 ∷ [])
unfolding outcome
caught-in-the-middle = refl

-- 6 catches in the frame where it threw; the first value thrown is another
pub caught-where-thrown : EndsWith
    (journal ++ (plain 7 ∷ variable 3 ∷ variable 7 ∷ function 6 ∷ local 5 6 ∷ held 3 6 ∷ held 7 7 ∷
    grant 3 ∷ throw 6 7 ∷ throw 6 2 ∷ catch 6 5 ∷ return 6 5 ∷ []))
    (grants 3 ∷
    does guest_call 1 ∷  -- 6: frame 2
    does (host (throw 6 7)) 2 ∷
    does (host (throw 6 2)) 2 ∷
    catches (host (catch 6 5)) 2 1 ∷
    does (host (return 6 5)) 2 ∷
    catches (host (catch 6 5)) 2 0 ∷
    does (host (return 6 5)) 2 ∷ [])
    (6 ∷ 5 ∷ 7 ∷ [])
unfolding outcome
caught-where-thrown = refl

-- at the top level
pub caught-at-the-top : EndsWith (journal ++ (variable 3 ∷ throw 0 2 ∷ catch 0 3 ∷ grant 3 ∷ []))
    (does (host (throw 0 2)) 0 ∷ does (host (catch 0 3)) 0 ∷ grants 3 ∷ [])
    (5 ∷ [])
unfolding outcome
caught-at-the-top = refl

-- any of the values thrown in a frame is handed on, the second before the first
pub second-handed : EndsWith
    (journal ++ (plain 7 ∷ variable 3 ∷ variable 7 ∷ function 6 ∷ held 3 6 ∷ held 7 7 ∷ grant 3 ∷ throw 6 7 ∷ throw 6 2 ∷ []))
    (grants 3 ∷
    does guest_call 1 ∷  -- 6: frame 2
    does (host (throw 6 7)) 2 ∷
    does (host (throw 6 2)) 2 ∷
    hands 2 1 ∷
    hands 2 0 ∷
    catches guest_catch 1 0 ∷
    catches guest_catch 1 1 ∷ [])
    (6 ∷ 5 ∷ 7 ∷ [])
unfolding outcome
second-handed = refl

-- a thrown value stays: it is caught again, and again after it was handed on
pub caught-again : EndsWith
    (journal ++ (variable 3 ∷ function 6 ∷ local 5 6 ∷ held 3 6 ∷ grant 3 ∷ throw 6 2 ∷ catch 6 5 ∷ return 6 5 ∷ []))
    (grants 3 ∷
    does guest_call 1 ∷  -- 6: frame 2
    does (host (throw 6 2)) 2 ∷
    hands 2 0 ∷
    does guest_catch 1 ∷
    does guest_catch 1 ∷
    does (host (catch 6 5)) 2 ∷
    does (host (return 6 5)) 2 ∷ [])
    (6 ∷ 5 ∷ 5 ∷ 5 ∷ [])
unfolding outcome
caught-again = refl

-- where nothing was thrown, a catch leaves y as it is
pub nothing-to-catch : EndsWith (journal ++ (catch 0 2 ∷ grant 2 ∷ []))
    (does (host (catch 0 2)) 0 ∷ grants 2 ∷ [])
    (5 ∷ [])
unfolding outcome
nothing-to-catch = refl

-- and nothing is handed on: what is thrown afterwards is the first that the guest's frame gets
pub nothing-to-hand : EndsWith (journal ++ (variable 3 ∷ function 6 ∷ held 3 6 ∷ grant 3 ∷ throw 6 2 ∷ []))
    (grants 3 ∷
    does guest_call 1 ∷  -- 6: frame 2
    hands 2 0 ∷
    does (host (throw 6 2)) 2 ∷
    hands 2 0 ∷
    does guest_catch 1 ∷ [])
    (6 ∷ 5 ∷ [])
unfolding outcome
nothing-to-hand = refl

-- the guest throws a value of its bag, the second one, in a function of its own that the host called; the host catches it at the top level and
-- calls it with the journal
pub guest-throws : EndsWith
    (journal ++ (plain 6 ∷ variable 3 ∷ variable 4 ∷ variable 6 ∷ held 6 6 ∷
    grant 6 ∷ grant 3 ∷ call 0 0 3 0 [] ∷ catch 0 4 ∷ call 0 0 4 0 (2 ∷ []) ∷ []))
    (grants 6 ∷
    does guest_make_function 1 ∷
    lends 3 1 ∷
    does (host (call 0 0 3 0 [])) 0 ∷  -- the guest: frame 2
    picks guest_throw 2 (1 ∷ []) ∷
    hands 2 0 ∷
    does (host (catch 0 4)) 0 ∷
    does (host (call 0 0 4 0 (2 ∷ []))) 0 ∷ [])
    (6 ∷ 3 ∷ 5 ∷ [])
unfolding outcome
guest-throws = refl
