-- Document 01's eight listed files as bytes, and its eight lines. Assumes nothing.
use Rattle.std.specs.Prelude.{List, [], ◌∷◌, ◌++◌, ℕ, replicate}
use Rattle.answer.specs.Outcome.{Outcome, confined, leaks}

-- 1. Empty
unfoldable pub empty_file : List ℕ
empty_file = []

-- 2. Forbid 3
unfoldable pub guest_forbidden : List ℕ
guest_forbidden = 3 ∷ 3 ∷ []

-- label 5 plain with the flag, forbid 5, variable 2 with owner 0 and the name, held 2 5
abbrev pub journal_named : ℕ → ℕ → List ℕ
journal_named flag name = (2 ∷ 5 ∷ 1 ∷ flag ∷ []) ++ (3 ∷ 5 ∷ []) ++ (5 ∷ 2 ∷ 0 ∷ name ∷ []) ++ (8 ∷ 2 ∷ 5 ∷ [])

-- 3. Label 5 plain, forbid 5, variable 2 (owner 0, name 255), held 2 5
unfoldable pub journal : List ℕ
journal = journal_named 0 255

-- 4. The same, variable 2 named 4
unfoldable pub named_journal : List ℕ
named_journal = journal_named 0 4

-- 5. File 3 and grant 2
unfoldable pub granted_journal : List ℕ
granted_journal = journal_named 0 255 ++ (6 ∷ 2 ∷ [])

-- 6. The same, 5 built-in
unfoldable pub built_in_journal : List ℕ
built_in_journal = journal_named 1 255 ++ (6 ∷ 2 ∷ [])

-- label 6 function, variable 3 as 2, function 6 all zeros, held 3 6
abbrev pub function : List ℕ
function = (2 ∷ 6 ∷ 2 ∷ 0 ∷ []) ++ (5 ∷ 3 ∷ 0 ∷ 255 ∷ []) ++ (4 ∷ 6 ∷ replicate 7 0) ++ (8 ∷ 3 ∷ 6 ∷ [])

-- and grant 3
abbrev pub logger : List ℕ
logger = function ++ (6 ∷ 3 ∷ [])

-- 7. File 3, label 6 function, variable 3 as 2, function 6 all zeros, held 3 6, grant 3
unfoldable pub granted_logger : List ℕ
granted_logger = journal_named 0 255 ++ logger

-- 8. With return 6 2 as well
unfoldable pub returning_logger : List ℕ
returning_logger = journal_named 0 255 ++ logger ++ (23 ∷ 6 ∷ 2 ∷ [])

unfoldable pub files : List (List ℕ)
files =
    empty_file
    ∷ guest_forbidden
    ∷ journal
    ∷ named_journal
    ∷ granted_journal
    ∷ built_in_journal
    ∷ granted_logger
    ∷ returning_logger
    ∷ []

-- "The eight lines .., each of verdict and count"; leaks has the label, the guest's label and the count
unfoldable pub lines : List Outcome
lines =
    confined 45
    ∷ leaks 3 3 45
    ∷ confined 48
    ∷ confined 49
    ∷ leaks 5 3 148
    ∷ leaks 5 3 84
    ∷ confined 152
    ∷ leaks 5 3 316
    ∷ []
