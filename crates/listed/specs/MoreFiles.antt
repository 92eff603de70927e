-- Files beyond document 01's list, each a few records in which one rule decides: its traps, the other kinds of statement, key classes. The counts are
-- those of the independent solver too. Assumes nothing.
use Rattle.std.specs.Prelude.{List, [], ◌∷◌, ◌++◌, ℕ, replicate}
use Rattle.answer.specs.Outcome.{Outcome, confined, leaks}
use Rattle.listed.specs.Files.{journal_named, function, logger}

-- a load on variable 0 finds the journal through w: label 6 has it under name 4
unfoldable pub primitive_load : List ℕ
primitive_load = (2 ∷ 5 ∷ 1 ∷ 0 ∷ []) ++ (2 ∷ 6 ∷ 1 ∷ 0 ∷ []) ++ (3 ∷ 5 ∷ []) ++ (5 ∷ 2 ∷ 0 ∷ 255 ∷ []) ++ (7 ∷ 6 ∷ 4 ∷ 5 ∷ []) ++ (17 ∷ 0 ∷ 2 ∷ 0 ∷ 4 ∷ 6 ∷ []) ++ (6 ∷ 2 ∷ [])

-- a granted function throws the journal, and the guest catches it
unfoldable pub throwing_logger : List ℕ
throwing_logger = journal_named 0 255 ++ logger ++ (24 ∷ 6 ∷ 2 ∷ [])

-- the host calls, without arguments, a function that returns the journal
unfoldable pub returned_to_host : List ℕ
returned_to_host = journal_named 0 255 ++ function ++ (5 ∷ 4 ∷ 0 ∷ 255 ∷ []) ++ (23 ∷ 6 ∷ 2 ∷ []) ++ (21 ∷ 0 ∷ 4 ∷ 3 ∷ replicate 7 0) ++ (6 ∷ 4 ∷ [])

-- the same, and the function throws it
unfoldable pub thrown_to_host : List ℕ
thrown_to_host = journal_named 0 255 ++ function ++ (5 ∷ 4 ∷ 0 ∷ 255 ∷ []) ++ (24 ∷ 6 ∷ 2 ∷ []) ++ (21 ∷ 0 ∷ 0 ∷ 3 ∷ replicate 7 0) ++ (25 ∷ 0 ∷ 4 ∷ []) ++ (6 ∷ 4 ∷ [])

-- the journal's toString has the journal as this
unfoldable pub converted_journal : List ℕ
converted_journal = (2 ∷ 5 ∷ 1 ∷ 0 ∷ []) ++ (2 ∷ 6 ∷ 2 ∷ 0 ∷ []) ++ (3 ∷ 5 ∷ []) ++ (5 ∷ 2 ∷ 0 ∷ 255 ∷ []) ++ (5 ∷ 3 ∷ 0 ∷ 255 ∷ []) ++ (4 ∷ 6 ∷ 3 ∷ 0 ∷ 0 ∷ 0 ∷ 0 ∷ 0 ∷ 0 ∷ []) ++ (8 ∷ 2 ∷ 5 ∷ []) ++ (7 ∷ 5 ∷ 1 ∷ 6 ∷ []) ++ (26 ∷ 0 ∷ 2 ∷ []) ++ (6 ∷ 3 ∷ [])

-- an object made by new finds the journal on its prototype
unfoldable pub constructed_journal : List ℕ
constructed_journal = (2 ∷ 5 ∷ 1 ∷ 0 ∷ []) ++ (3 ∷ 5 ∷ []) ++ (2 ∷ 6 ∷ 2 ∷ 0 ∷ []) ++ (2 ∷ 7 ∷ 1 ∷ 0 ∷ []) ++ (2 ∷ 8 ∷ 1 ∷ 0 ∷ []) ++ (5 ∷ 2 ∷ 0 ∷ 255 ∷ []) ++ (5 ∷ 3 ∷ 0 ∷ 255 ∷ []) ++ (5 ∷ 4 ∷ 0 ∷ 255 ∷ []) ++ (5 ∷ 5 ∷ 0 ∷ 255 ∷ []) ++ (4 ∷ 6 ∷ 0 ∷ 0 ∷ 0 ∷ 0 ∷ 0 ∷ 0 ∷ 0 ∷ []) ++ (8 ∷ 3 ∷ 6 ∷ []) ++ (7 ∷ 6 ∷ 3 ∷ 7 ∷ []) ++ (7 ∷ 7 ∷ 4 ∷ 5 ∷ []) ++ (22 ∷ 0 ∷ 2 ∷ 3 ∷ 4 ∷ 8 ∷ 0 ∷ 0 ∷ 0 ∷ 0 ∷ 0 ∷ 0 ∷ []) ++ (17 ∷ 0 ∷ 5 ∷ 2 ∷ 4 ∷ 8 ∷ []) ++ (6 ∷ 5 ∷ [])

-- stored under the names of class 1, of which name 4 is, and loaded under name 4
unfoldable pub stored_by_class : List ℕ
stored_by_class = (1 ∷ 4 ∷ 3 ∷ []) ++ (2 ∷ 5 ∷ 1 ∷ 0 ∷ []) ++ (3 ∷ 5 ∷ []) ++ (2 ∷ 6 ∷ 1 ∷ 0 ∷ []) ++ (5 ∷ 2 ∷ 0 ∷ 255 ∷ []) ++ (5 ∷ 3 ∷ 0 ∷ 255 ∷ []) ++ (5 ∷ 4 ∷ 0 ∷ 255 ∷ []) ++ (8 ∷ 2 ∷ 5 ∷ []) ++ (8 ∷ 3 ∷ 6 ∷ []) ++ (18 ∷ 0 ∷ 3 ∷ 129 ∷ 2 ∷ []) ++ (17 ∷ 0 ∷ 4 ∷ 3 ∷ 4 ∷ 6 ∷ []) ++ (6 ∷ 4 ∷ [])

-- the same, and name 4 is of class 2 instead
unfoldable pub stored_elsewhere : List ℕ
stored_elsewhere = (1 ∷ 4 ∷ 5 ∷ []) ++ (2 ∷ 5 ∷ 1 ∷ 0 ∷ []) ++ (3 ∷ 5 ∷ []) ++ (2 ∷ 6 ∷ 1 ∷ 0 ∷ []) ++ (5 ∷ 2 ∷ 0 ∷ 255 ∷ []) ++ (5 ∷ 3 ∷ 0 ∷ 255 ∷ []) ++ (5 ∷ 4 ∷ 0 ∷ 255 ∷ []) ++ (8 ∷ 2 ∷ 5 ∷ []) ++ (8 ∷ 3 ∷ 6 ∷ []) ++ (18 ∷ 0 ∷ 3 ∷ 129 ∷ 2 ∷ []) ++ (17 ∷ 0 ∷ 4 ∷ 3 ∷ 4 ∷ 6 ∷ []) ++ (6 ∷ 4 ∷ [])

-- an array finds the journal on Array.prototype
unfoldable pub array_prototype : List ℕ
array_prototype = (2 ∷ 5 ∷ 1 ∷ 0 ∷ []) ++ (3 ∷ 5 ∷ []) ++ (2 ∷ 6 ∷ 1 ∷ 0 ∷ []) ++ (2 ∷ 7 ∷ 3 ∷ 0 ∷ []) ++ (5 ∷ 2 ∷ 0 ∷ 255 ∷ []) ++ (5 ∷ 3 ∷ 0 ∷ 255 ∷ []) ++ (7 ∷ 4 ∷ 5 ∷ 5 ∷ []) ++ (19 ∷ 0 ∷ 2 ∷ 7 ∷ []) ++ (17 ∷ 0 ∷ 3 ∷ 2 ∷ 5 ∷ 6 ∷ []) ++ (6 ∷ 3 ∷ [])

-- a store of the journal to a built-in object does nothing
unfoldable pub built_in_store : List ℕ
built_in_store = (2 ∷ 5 ∷ 1 ∷ 0 ∷ []) ++ (3 ∷ 5 ∷ []) ++ (2 ∷ 6 ∷ 1 ∷ 1 ∷ []) ++ (2 ∷ 7 ∷ 1 ∷ 0 ∷ []) ++ (5 ∷ 2 ∷ 0 ∷ 255 ∷ []) ++ (5 ∷ 3 ∷ 0 ∷ 255 ∷ []) ++ (5 ∷ 4 ∷ 0 ∷ 255 ∷ []) ++ (8 ∷ 2 ∷ 5 ∷ []) ++ (8 ∷ 3 ∷ 6 ∷ []) ++ (5 ∷ 6 ∷ 0 ∷ 255 ∷ []) ++ (16 ∷ 0 ∷ 6 ∷ 3 ∷ []) ++ (18 ∷ 0 ∷ 3 ∷ 4 ∷ 2 ∷ []) ++ (17 ∷ 0 ∷ 4 ∷ 6 ∷ 4 ∷ 7 ∷ []) ++ (6 ∷ 4 ∷ [])

unfoldable pub more_files : List (List ℕ)
more_files =
    primitive_load
    ∷ throwing_logger
    ∷ returned_to_host
    ∷ thrown_to_host
    ∷ converted_journal
    ∷ constructed_journal
    ∷ stored_by_class
    ∷ stored_elsewhere
    ∷ array_prototype
    ∷ built_in_store
    ∷ []

unfoldable pub more_lines : List Outcome
more_lines =
    leaks 5 3 151
    ∷ leaks 5 3 317
    ∷ leaks 5 3 153
    ∷ leaks 5 3 155
    ∷ leaks 5 3 319
    ∷ leaks 5 3 161
    ∷ leaks 5 3 153
    ∷ confined 52
    ∷ leaks 5 3 156
    ∷ confined 56
    ∷ []
