-- How files are written down from which antt is to compute something: for each kind of record a word that gives its bytes (document 01, "The
-- statement file"), and the reading of a list of them. k is the scope, 0 at the top level. Assumes nothing.
use mathlib.Core.List.{List, [], ◌∷◌, ◌++◌}
use Prim.Native.Nat.{ℕ}
use lib.ListN.{take, replicate}
use Rattle.words.specs.Words.{union, bit}
use Rattle.format.specs.Sheet.{start}
use Rattle.format.specs.Fields.{good, refusal_of, first_bad}
use Rattle.format.specs.Records.{misnamed, twice, after, whole_refusal, body_refusal}
use Rattle.format.specs.Reading.{Reading, record_refusal, read_on, read_from, lacking, finished, read_file}

-- ---- declarations

abbrev pub name : ℕ → ℕ → List ℕ
name n mask = 1 ∷ n ∷ mask ∷ []

abbrev pub plain : ℕ → List ℕ
plain l = 2 ∷ l ∷ 1 ∷ 0 ∷ []

abbrev pub function_label : ℕ → List ℕ
function_label l = 2 ∷ l ∷ 2 ∷ 0 ∷ []

abbrev pub array : ℕ → List ℕ
array l = 2 ∷ l ∷ 3 ∷ 0 ∷ []

abbrev pub built_in_plain : ℕ → List ℕ
built_in_plain l = 2 ∷ l ∷ 1 ∷ 1 ∷ []

abbrev pub built_in_function : ℕ → List ℕ
built_in_function l = 2 ∷ l ∷ 2 ∷ 1 ∷ []

abbrev pub forbid : ℕ → List ℕ
forbid l = 3 ∷ l ∷ []

-- six variables, 0 for those that are not given
abbrev six : List ℕ → List ℕ
six vs = take 6 (vs ++ replicate 6 0)

-- the this variable and the formals of a function
abbrev pub takes : ℕ → ℕ → List ℕ → List ℕ
takes l this formals = 4 ∷ l ∷ this ∷ six formals

-- a function that takes nothing
abbrev pub function : ℕ → List ℕ
function l = function_label l ++ takes l 0 []

abbrev pub variable : ℕ → List ℕ
variable v = 5 ∷ v ∷ 0 ∷ 255 ∷ []

-- variable v of function k
abbrev pub local : ℕ → ℕ → List ℕ
local v k = 5 ∷ v ∷ k ∷ 255 ∷ []

abbrev pub named : ℕ → ℕ → List ℕ
named v n = 5 ∷ v ∷ 0 ∷ n ∷ []

-- the guest is held to class c
abbrev pub profile : ℕ → List ℕ
profile c = 9 ∷ c ∷ []

-- ---- what the start has, and grants

abbrev pub grant : ℕ → List ℕ
grant v = 6 ∷ v ∷ []

-- label m under name n of label l
abbrev pub property : ℕ → ℕ → ℕ → List ℕ
property l n m = 7 ∷ l ∷ n ∷ m ∷ []

abbrev pub held : ℕ → ℕ → List ℕ
held v l = 8 ∷ v ∷ l ∷ []

-- ---- statements

abbrev pub copy : ℕ → ℕ → ℕ → List ℕ
copy k y source = 16 ∷ k ∷ y ∷ source ∷ []

abbrev pub load : ℕ → ℕ → ℕ → ℕ → ℕ → List ℕ
load k y object key w = 17 ∷ k ∷ y ∷ object ∷ key ∷ w ∷ []

abbrev pub store : ℕ → ℕ → ℕ → ℕ → List ℕ
store k object key value = 18 ∷ k ∷ object ∷ key ∷ value ∷ []

abbrev pub make : ℕ → ℕ → ℕ → List ℕ
make k y l = 19 ∷ k ∷ y ∷ l ∷ []

abbrev pub make_function : ℕ → ℕ → ℕ → ℕ → List ℕ
make_function k y l q = 20 ∷ k ∷ y ∷ l ∷ q ∷ []

abbrev pub call : ℕ → ℕ → ℕ → ℕ → List ℕ → List ℕ
call k y callee this arguments = 21 ∷ k ∷ y ∷ callee ∷ this ∷ six arguments

abbrev pub new : ℕ → ℕ → ℕ → ℕ → ℕ → List ℕ → List ℕ
new k y callee t l arguments = 22 ∷ k ∷ y ∷ callee ∷ t ∷ l ∷ six arguments

abbrev pub return : ℕ → ℕ → List ℕ
return k value = 23 ∷ k ∷ value ∷ []

abbrev pub throw : ℕ → ℕ → List ℕ
throw k value = 24 ∷ k ∷ value ∷ []

abbrev pub catch : ℕ → ℕ → List ℕ
catch k y = 25 ∷ k ∷ y ∷ []

abbrev pub prim : ℕ → ℕ → List ℕ
prim k object = 26 ∷ k ∷ object ∷ []

-- ---- how most files begin

-- label 5 is plain, the journal, and forbidden
abbrev pub forbidden : List (List ℕ)
forbidden = plain 5 ∷ forbid 5 ∷ []

-- listed file 3: variable 2 holds the journal
abbrev pub journal : List (List ℕ)
journal = forbidden ++ (variable 2 ∷ held 2 5 ∷ [])

-- ---- the bytes, read

abbrev bytes : List (List ℕ) → List ℕ
bytes [] = []
bytes (r ∷ rs) = r ++ bytes rs

unfoldable pub reading : List (List ℕ) → Reading
unfolding read_file finished read_from read_on record_refusal lacking body_refusal whole_refusal misnamed twice after first_bad good refusal_of start union bit
reading file = read_file 64 (bytes file)
