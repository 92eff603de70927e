-- Files whose guest is held to a class of names (request 04). The counts are those of the independent solver too. Assumes nothing.
use Rattle.std.specs.Prelude.{List, [], ◌∷◌, ◌++◌, ℕ, replicate}
use Rattle.listed.specs.Files.{journal_named}

-- nothing but these bytes
unfoldable pub only : List ℕ → List ℕ
only bytes = bytes

-- listed file 3 with these bytes; label 6 is in variable 3, which is granted
abbrev lent : List ℕ → List ℕ
lent bytes = journal_named 0 255 ++ bytes ++ (2 ∷ 6 ∷ 1 ∷ 0 ∷ 5 ∷ 3 ∷ 0 ∷ 255 ∷ 5 ∷ 4 ∷ 0 ∷ 255 ∷ 8 ∷ 3 ∷ 6 ∷ 6 ∷ 3 ∷ [])

-- it has the journal under name 4
unfoldable pub field : List ℕ → List ℕ
field bytes = lent bytes ++ (7 ∷ 6 ∷ 4 ∷ 5 ∷ [])

-- the host calls with the journal what it finds in label 6 under the name
unfoldable pub listener : List ℕ → ℕ → List ℕ
listener bytes name =
    lent bytes
    ++ (2 ∷ 7 ∷ 1 ∷ 0 ∷ 5 ∷ 5 ∷ 0 ∷ 255 ∷ 16 ∷ 0 ∷ 5 ∷ 3 ∷ [])
    ++ (17 ∷ 0 ∷ 4 ∷ 5 ∷ name ∷ 7 ∷ 21 ∷ 0 ∷ 0 ∷ 4 ∷ 0 ∷ 2 ∷ replicate 5 0)

-- the guest has function 7, whose prototype property, label 8, has the journal under the name: what the guest makes by new has it too
unfoldable pub constructor : List ℕ → ℕ → List ℕ
constructor bytes name =
    lent bytes ++ (2 ∷ 7 ∷ 2 ∷ 0 ∷ 4 ∷ 7 ∷ replicate 7 0) ++ (2 ∷ 8 ∷ 1 ∷ 0 ∷ 20 ∷ 0 ∷ 3 ∷ 7 ∷ 8 ∷ 7 ∷ 8 ∷ name ∷ 5 ∷ [])
