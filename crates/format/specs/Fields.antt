-- The fields of a record: which bytes are good in which class of field, judged by what earlier records declared, and the number with which
-- a bad one is refused (document 01, "The statement file" and "What each operation says no to"). L is the number of labels.
-- Assumes nothing.
use Rattle.std.specs.Prelude.{List, [], ◌∷◌, ◌≡◌, Bool, true, cond, not, ◌&&◌, ◌||◌, ℕ, ◌%◌, eqb, leb, ltb}
use Rattle.layout.specs.Layout.{Class, name, mask, new_label, type, flag, any_label, host_label, function_label, plain_label, data_label, scope, new_variable, variable, declared_variable, global_variable, variable_name, name_class, key}
use Rattle.layout.specs.Key.{class_count, is_key}
use Rattle.format.specs.Sheet.{Sheet, type_of, declared, owner_of, known}

-- byte b is good in a field of the class
unfoldable pub good : ℕ → Sheet → Class → ℕ → Bool
good L s name b = ltb b 32
good L s mask b = eqb (b % 2) 1
good L s new_label b = leb 5 b && ltb b L
good L s type b = leb 1 b && leb b 3
good L s flag b = leb b 1
good L s any_label b = declared s b
good L s host_label b = not (eqb b 3) && declared s b
good L s function_label b = leb 5 b && eqb (type_of s b) 2
good L s plain_label b = leb 5 b && eqb (type_of s b) 1
good L s data_label b = leb 5 b && (eqb (type_of s b) 1 || eqb (type_of s b) 3)
good L s scope b = eqb b 0 || (leb 5 b && eqb (type_of s b) 2)
good L s new_variable b = leb 2 b && leb b 255
good L s variable b = eqb b 0 || known s b
good L s declared_variable b = known s b
good L s global_variable b = eqb (owner_of s b) 0
good L s variable_name b = eqb b 255 || ltb b 32
good L s name_class b = ltb b class_count
good L s key b = is_key b

-- "3 for a bad variable byte, 4 a bad label or scope, 5 a bad name, key, mask, type or flag"; "A c above 7 is
-- refused 5" (request 04)
unfoldable pub refusal_of : Class → ℕ
refusal_of name = 5
refusal_of mask = 5
refusal_of new_label = 4
refusal_of type = 5
refusal_of flag = 5
refusal_of any_label = 4
refusal_of host_label = 4
refusal_of function_label = 4
refusal_of plain_label = 4
refusal_of data_label = 4
refusal_of scope = 4
refusal_of new_variable = 3
refusal_of variable = 3
refusal_of declared_variable = 3
refusal_of global_variable = 3
refusal_of variable_name = 5
refusal_of name_class = 5
refusal_of key = 5

-- every byte of a body is good in its field, and there is one for each field
unfoldable pub Fits : ℕ → Sheet → List Class → List ℕ → Type 0
Fits L s [] [] = Unit {0}
Fits L s [] (b ∷ bs) = ⊥
Fits L s (c ∷ cs) [] = ⊥
Fits L s (c ∷ cs) (b ∷ bs) = (good L s c b ≡ true) × Fits L s cs bs

-- "from the left": the refusal of the first bad byte, 0 where there is none
unfoldable pub first_bad : ℕ → Sheet → List Class → List ℕ → ℕ
first_bad L s [] bs = 0
first_bad L s (c ∷ cs) [] = 0
first_bad L s (c ∷ cs) (b ∷ bs) = let r = first_bad L s cs bs in cond (good L s c b) r (refusal_of c)
