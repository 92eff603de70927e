-- Files with returns at top level (request 02). The counts are those of the independent solver too. Assumes nothing.
use Rattle.std.specs.Prelude.{List, [], ◌∷◌, ◌++◌, ℕ, replicate}
use Rattle.listed.specs.Files.{journal_named, function, logger}

-- nothing but a return
unfoldable pub only_return : ℕ → ℕ → List ℕ
only_return k v = 23 ∷ k ∷ v ∷ []

-- listed file 8, but the journal is returned in the scope given, 6 there
unfoldable pub journal_returned : ℕ → List ℕ
journal_returned k = journal_named 0 255 ++ logger ++ (23 ∷ k ∷ 2 ∷ [])

-- variable 4 holds label 0; variable 5 gets what calls of it and of function 6 hand back, and is granted
abbrev calls : List ℕ
calls =
    (5 ∷ 4 ∷ 0 ∷ 255 ∷ [])
    ++ (8 ∷ 4 ∷ 0 ∷ [])
    ++ (5 ∷ 5 ∷ 0 ∷ 255 ∷ [])
    ++ (21 ∷ 0 ∷ 5 ∷ 4 ∷ replicate 7 0)
    ++ (21 ∷ 0 ∷ 5 ∷ 3 ∷ replicate 7 0)
    ++ (6 ∷ 5 ∷ [])

unfoldable pub results_granted : List ℕ
results_granted = journal_named 0 255 ++ function ++ calls

-- the same with returns of all that the host has, in between and at the end
unfoldable pub all_returned : List ℕ
all_returned =
    journal_named 0 255
    ++ (23 ∷ 0 ∷ 2 ∷ [])
    ++ function
    ++ (23 ∷ 0 ∷ 3 ∷ [])
    ++ calls
    ++ (23 ∷ 0 ∷ 0 ∷ [])
    ++ (23 ∷ 0 ∷ 2 ∷ [])
    ++ (23 ∷ 0 ∷ 4 ∷ [])
    ++ (23 ∷ 0 ∷ 5 ∷ [])
