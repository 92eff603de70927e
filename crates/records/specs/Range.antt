-- The range of each byte of a record's body, as far as rows are computed from it: labels below L, names below 32;
-- a key's byte is a key. L is the number of labels. A readable file keeps to it (proofs/Ranges.antt). Assumes nothing.
use Rattle.std.specs.Prelude.{◌≡◌, List, [], ◌∷◌, ℕ, suc, ◌<◌, length, get_or}
use Rattle.layout.specs.Key.{Key}
use Rattle.layout.specs.Layout.{Class, name, mask, new_label, type, flag, any_label, host_label, function_label, plain_label, data_label, scope, new_variable, variable, declared_variable, global_variable, variable_name, name_class, key, fields_of, body_length}

abbrev pub Range : ℕ → Class → ℕ → Type 0
Range L name b = b < 32
Range L mask b = Unit {0}
Range L new_label b = b < L
Range L type b = Unit {0}
Range L flag b = Unit {0}
Range L any_label b = b < L
Range L host_label b = b < L
Range L function_label b = b < L
Range L plain_label b = b < L
Range L data_label b = b < L
Range L scope b = b < L
Range L new_variable b = Unit {0}
Range L variable b = Unit {0}
Range L declared_variable b = Unit {0}
Range L global_variable b = Unit {0}
Range L variable_name b = (b ≡ 255 → ⊥) → b < 32
Range L name_class b = Unit {0}
Range L key b = Key b

-- the bytes from the j-th on are in the range of their classes
abbrev pub Ranged : ℕ → List Class → List ℕ → ℕ → Type 0
Ranged L [] b j = Unit {0}
Ranged L (c ∷ cs) b j = Range L c (get_or b j 0) × Ranged L cs b (suc j)

-- a whole body of kind k
abbrev pub InRange : ℕ → ℕ → List ℕ → Type 0
InRange L k b = (length b ≡ body_length k) × Ranged L (fields_of k) b 0
