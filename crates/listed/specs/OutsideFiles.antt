-- Files with keys of the names outside a class (request 01). The counts are those of the independent solver too. Assumes nothing.
use Rattle.std.specs.Prelude.{List, [], ◌∷◌, ◌++◌, ℕ}

-- name 4 is of class 1; label 5 has label 6 under it; what is loaded from 5 under the key is granted
unfoldable pub loaded_under : ℕ → List ℕ
loaded_under key =
    (1 ∷ 4 ∷ 3 ∷ [])
    ++ (2 ∷ 5 ∷ 1 ∷ 0 ∷ [])
    ++ (2 ∷ 6 ∷ 1 ∷ 0 ∷ [])
    ++ (5 ∷ 2 ∷ 0 ∷ 255 ∷ [])
    ++ (5 ∷ 3 ∷ 0 ∷ 255 ∷ [])
    ++ (8 ∷ 2 ∷ 5 ∷ [])
    ++ (7 ∷ 5 ∷ 4 ∷ 6 ∷ [])
    ++ (6 ∷ 3 ∷ [])
    ++ (17 ∷ 0 ∷ 3 ∷ 2 ∷ key ∷ 5 ∷ [])

-- the library, label 6, has the journal under name 4; the guest gets what the library has under names outside class 1
abbrev library : List ℕ
library =
    (2 ∷ 5 ∷ 1 ∷ 0 ∷ [])
    ++ (3 ∷ 5 ∷ [])
    ++ (2 ∷ 6 ∷ 1 ∷ 0 ∷ [])
    ++ (5 ∷ 2 ∷ 0 ∷ 255 ∷ [])
    ++ (5 ∷ 3 ∷ 0 ∷ 255 ∷ [])
    ++ (8 ∷ 2 ∷ 6 ∷ [])
    ++ (7 ∷ 6 ∷ 4 ∷ 5 ∷ [])
    ++ (17 ∷ 0 ∷ 3 ∷ 2 ∷ 137 ∷ 6 ∷ [])
    ++ (6 ∷ 3 ∷ [])

-- name 4 is on the list of hidden names, class 1, by a record at the end of the file
unfoldable pub hidden_field : List ℕ
hidden_field = library ++ (1 ∷ 4 ∷ 3 ∷ [])

-- the list has forgotten it
unfoldable pub open_field : List ℕ
open_field = library ++ (1 ∷ 4 ∷ 5 ∷ [])

-- a load under no name: w, the journal, is in the object's variable all the same
unfoldable pub wrapped_under_no_name : List ℕ
wrapped_under_no_name =
    (2 ∷ 5 ∷ 1 ∷ 0 ∷ [])
    ++ (3 ∷ 5 ∷ [])
    ++ (5 ∷ 2 ∷ 0 ∷ 255 ∷ [])
    ++ (17 ∷ 0 ∷ 0 ∷ 2 ∷ 136 ∷ 5 ∷ [])
    ++ (6 ∷ 2 ∷ [])

-- the journal is stored in label 6 under the key; what 6 has under name 4, whose mask is given, is granted
unfoldable pub stored_under : ℕ → ℕ → List ℕ
stored_under key mask =
    (1 ∷ 4 ∷ mask ∷ [])
    ++ (2 ∷ 5 ∷ 1 ∷ 0 ∷ [])
    ++ (3 ∷ 5 ∷ [])
    ++ (2 ∷ 6 ∷ 1 ∷ 0 ∷ [])
    ++ (2 ∷ 7 ∷ 1 ∷ 0 ∷ [])
    ++ (5 ∷ 2 ∷ 0 ∷ 255 ∷ [])
    ++ (5 ∷ 3 ∷ 0 ∷ 255 ∷ [])
    ++ (5 ∷ 4 ∷ 0 ∷ 255 ∷ [])
    ++ (8 ∷ 2 ∷ 5 ∷ [])
    ++ (8 ∷ 3 ∷ 6 ∷ [])
    ++ (18 ∷ 0 ∷ 3 ∷ key ∷ 2 ∷ [])
    ++ (17 ∷ 0 ∷ 4 ∷ 3 ∷ 4 ∷ 7 ∷ [])
    ++ (6 ∷ 4 ∷ [])
