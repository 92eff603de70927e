-- A field that is judged by the label types and the owners alone is judged by the sheet. Assumes nothing.
use mathlib.Core.Path.{◌≡◌, refl}
use Prim.Native.Nat.{ℕ}
use Rattle.layout.specs.Layout.{Class, name, mask, new_label, type, flag, any_label, host_label, function_label, plain_label, data_label, scope, new_variable, variable, declared_variable, global_variable, variable_name, name_class, key}
use Rattle.format.specs.Sheet.{Sheet}
use Rattle.format.specs.Fields.{good}
use Rattle.fields.specs.Judging.{judging, field_refusal}

good-judging : (L : ℕ) (s : Sheet) (c : Class) (b : ℕ) → good L (judging s.types s.owners) c b ≡ good L s c b
unfolding good
good-judging L s name b = refl
good-judging L s mask b = refl
good-judging L s new_label b = refl
good-judging L s type b = refl
good-judging L s flag b = refl
good-judging L s any_label b = refl
good-judging L s host_label b = refl
good-judging L s function_label b = refl
good-judging L s plain_label b = refl
good-judging L s data_label b = refl
good-judging L s scope b = refl
good-judging L s new_variable b = refl
good-judging L s variable b = refl
good-judging L s declared_variable b = refl
good-judging L s global_variable b = refl
good-judging L s variable_name b = refl
good-judging L s name_class b = refl
good-judging L s key b = refl

pub refusal-judging : (L : ℕ) (s : Sheet) (c : Class) (b : ℕ) → field_refusal L (judging s.types s.owners) c b ≡ field_refusal L s c b
unfolding field_refusal
refusal-judging L s c b = rw (good-judging L s c b)
