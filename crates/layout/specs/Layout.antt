-- The table of record kinds (document 01, "The statement file", the list of bodies): for each kind the classes of its fields, from the left.
-- Assumes nothing.
use Rattle.std.specs.Prelude.{List, [], ◌∷◌, ℕ, length, get_or, replicate}

-- what a field's byte may be; Fields.antt of the crate format says which bytes are good
pub data Class : Type 0 where
  name : Class  -- a name: 0 to 31
  mask : Class  -- a class mask: bit 0 is set
  new_label : Class  -- a label to declare: from 5 up
  type : Class  -- a label's type: 1 plain, 2 function, 3 array
  flag : Class  -- 1 built-in, else 0
  any_label : Class  -- a declared label
  host_label : Class  -- a declared label other than 3
  function_label : Class  -- a declared label from 5 up, of type 2
  plain_label : Class  -- a declared label from 5 up, of type 1
  data_label : Class  -- a declared label from 5 up, of type 1 or 3
  scope : Class  -- 0, or a declared label from 5 up, of type 2
  new_variable : Class  -- a variable to declare: 2 to 255
  variable : Class  -- 0, or a declared variable
  declared_variable : Class  -- a declared variable
  global_variable : Class  -- a declared variable whose owner is scope 0
  variable_name : Class  -- a name, or 255 for none
  name_class : Class  -- a class of names: 0 to 7
  key : Class  -- a name, 128 + c for all names of class c, or 136 + c for all names outside it, c from 0 to 7

-- a row for each number from 0 to 26; no record has the kind of an empty row
abbrev pub kinds : List (List Class)
kinds =
    [] ∷
    (name ∷ mask ∷ []) ∷  -- 1 name: n, class mask
    (new_label ∷ type ∷ flag ∷ []) ∷  -- 2 label: l, type, flag
    (any_label ∷ []) ∷  -- 3 forbid: l
    (function_label ∷ replicate 7 variable) ∷  -- 4 function: l, this variable, six formals
    (new_variable ∷ scope ∷ variable_name ∷ []) ∷  -- 5 variable: v, owner scope, name
    (global_variable ∷ []) ∷  -- 6 grant: v
    (host_label ∷ name ∷ host_label ∷ []) ∷  -- 7 property: l, n, l'
    (global_variable ∷ host_label ∷ []) ∷  -- 8 held: v, l
    (name_class ∷ []) ∷  -- 9 profile: c (request 04)
    [] ∷
    [] ∷
    [] ∷
    [] ∷
    [] ∷
    [] ∷
    (scope ∷ variable ∷ variable ∷ []) ∷  -- 16 copy: k, y, source
    (scope ∷ variable ∷ variable ∷ key ∷ plain_label ∷ []) ∷  -- 17 load: k, y, object, key, w
    (scope ∷ variable ∷ key ∷ variable ∷ []) ∷  -- 18 store: k, object, key, value
    (scope ∷ variable ∷ data_label ∷ []) ∷  -- 19 make: k, y, l
    (scope ∷ variable ∷ function_label ∷ plain_label ∷ []) ∷  -- 20 make function: k, y, l, q
    (scope ∷ replicate 9 variable) ∷  -- 21 call: k, y, callee, this, six arguments
    (scope ∷ variable ∷ variable ∷ declared_variable ∷ plain_label ∷ replicate 6 variable) ∷  -- 22 new: k, y, callee, t, l, six arguments
    (scope ∷ variable ∷ []) ∷  -- 23 return: k, value; k is 0 too (request 02)
    (scope ∷ variable ∷ []) ∷  -- 24 throw: k, value
    (scope ∷ variable ∷ []) ∷  -- 25 catch: k, y
    (scope ∷ variable ∷ []) ∷  -- 26 prim: k, object
    []

-- the classes of the fields of kind k, none where there is no such kind
abbrev pub fields_of : ℕ → List Class
fields_of k = get_or kinds k []

-- "a body whose length the kind fixes"
abbrev pub body_length : ℕ → ℕ
body_length k = length (fields_of k)
