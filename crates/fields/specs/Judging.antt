-- What judges a field's byte. Assumes nothing.
use Rattle.std.specs.Prelude.{List, [], cond, ℕ, Result, Ok, Err}
use Rattle.layout.specs.Layout.{Class}
use Rattle.format.specs.Sheet.{Sheet, no_profile}
use Rattle.format.specs.Fields.{good, refusal_of}
use Rattle.answer.specs.declared.Refusal.{Refusal}
use Rattle.answer.specs.Answer.{number_of}

-- a sheet of which only the label types and the variables' owners matter: they alone judge a field
abbrev pub judging : List ℕ → List ℕ → Sheet
judging types owners = record {
  types = types;
  flags = [];
  defined = [];
  formals = [];
  masks = [];
  owners = owners;
  names = [];
  forbidden = 0;
  profile = no_profile;
}

-- what byte b is refused with in a field of class c, 0 where it is good; L is the number of labels
unfoldable pub field_refusal : ℕ → Sheet → Class → ℕ → ℕ
field_refusal L s c b = cond (good L s c b) 0 (refusal_of c)

-- the number with which something is refused, 0 where it is not
abbrev pub number_in : Result (Unit {0}) Refusal → ℕ
number_in (Ok done) = 0
number_in (Err refusal) = number_of refusal
