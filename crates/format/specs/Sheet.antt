-- The declaration sheet: what the records read so far declare (document 01, "Table and sheet"). L is the number of labels.
-- Assumes nothing.
use Rattle.std.specs.Prelude.{List, [], ◌∷◌, ◌++◌, Bool, not, ℕ, ◌-◌, ◌*◌, ◌^◌, get_or, set, replicate, eqb}
use Rattle.std.proofs.Math.Seq.{paste}
use Rattle.words.specs.Words.{union}

pub record Sheet : Type 0 where
  pub types : List ℕ  -- of each label: 0 not declared, 1 plain, 2 function, 3 array
  pub flags : List ℕ  -- of each label: 1 built-in
  pub defined : List ℕ  -- of each label: 1 where its function is known
  pub formals : List ℕ  -- of each label seven variables: this, then six formals
  pub masks : List ℕ  -- of each name its class mask, 0 where no record gives one
  pub owners : List ℕ  -- of each variable its owner scope, 1 where it is not declared
  pub names : List ℕ  -- of each variable its name, 255 for none
  pub forbidden : ℕ  -- the forbidden labels, bit l for label l
  pub profile : ℕ  -- the class of names that guests are held to, `no_profile` where no record says so

-- no class has this number
abbrev pub no_profile : ℕ
no_profile = 255

-- "0 global object, 1 Object.prototype, 2 Function.prototype, 3 whatever the guest makes, 4 Array.prototype. These are declared
-- beforehand; 1, 2, 4 are built-in; 3 is a function, all four others plain." "Function 3 has 1 as this and all formals". No scope is label 1,
-- so that owner stands for "not declared".
unfoldable pub start : ℕ → Sheet
start L = record {
  types = (1 ∷ 1 ∷ 1 ∷ 2 ∷ 1 ∷ []) ++ replicate (L - 5) 0;
  flags = (0 ∷ 1 ∷ 1 ∷ 0 ∷ 1 ∷ []) ++ replicate (L - 5) 0;
  defined = (0 ∷ 0 ∷ 0 ∷ 1 ∷ 0 ∷ []) ++ replicate (L - 5) 0;
  formals = replicate (7 * L) 1;
  masks = replicate 32 0;
  owners = replicate 256 1;
  names = replicate 256 255;
  forbidden = 0;
  profile = no_profile;
}

-- ---- what the sheet says

-- the type of label l, 0 where it is not declared
abbrev pub type_of : Sheet → ℕ → ℕ
type_of s l = get_or s.types l 0

abbrev pub declared : Sheet → ℕ → Bool
declared s l = not (eqb (type_of s l) 0)

abbrev pub built_in : Sheet → ℕ → Bool
built_in s l = eqb (get_or s.flags l 0) 1

-- the owner of variable v, 1 where v is not declared
abbrev pub owner_of : Sheet → ℕ → ℕ
owner_of s v = get_or s.owners v 1

abbrev pub known : Sheet → ℕ → Bool
known s v = not (eqb (owner_of s v) 1)

-- the name of variable v, 255 where it has none
abbrev pub name_of : Sheet → ℕ → ℕ
name_of s v = get_or s.names v 255

-- ---- one record more

-- kind 1: the class mask of name n
abbrev pub with_mask : Sheet → ℕ → ℕ → Sheet
with_mask s n m = record {
  types = s.types;
  flags = s.flags;
  defined = s.defined;
  formals = s.formals;
  masks = set s.masks n m;
  owners = s.owners;
  names = s.names;
  forbidden = s.forbidden;
  profile = s.profile;
}

-- kind 2: the type and flag of label l
abbrev pub with_label : Sheet → ℕ → ℕ → ℕ → Sheet
with_label s l t f = record {
  types = set s.types l t;
  flags = set s.flags l f;
  defined = s.defined;
  formals = s.formals;
  masks = s.masks;
  owners = s.owners;
  names = s.names;
  forbidden = s.forbidden;
  profile = s.profile;
}

-- kind 3: label l is forbidden
abbrev pub with_forbidden : Sheet → ℕ → Sheet
with_forbidden s l = record {
  types = s.types;
  flags = s.flags;
  defined = s.defined;
  formals = s.formals;
  masks = s.masks;
  owners = s.owners;
  names = s.names;
  forbidden = union s.forbidden (2 ^ l);
  profile = s.profile;
}

-- kind 4: this and the six formals of function l, the seven variables vs
abbrev pub with_function : Sheet → ℕ → List ℕ → Sheet
with_function s l vs = record {
  types = s.types;
  flags = s.flags;
  defined = set s.defined l 1;
  formals = paste s.formals (7 * l) vs 7;
  masks = s.masks;
  owners = s.owners;
  names = s.names;
  forbidden = s.forbidden;
  profile = s.profile;
}

-- kind 5: the owner and the name of variable v
abbrev pub with_variable : Sheet → ℕ → ℕ → ℕ → Sheet
with_variable s v k n = record {
  types = s.types;
  flags = s.flags;
  defined = s.defined;
  formals = s.formals;
  masks = s.masks;
  owners = set s.owners v k;
  names = set s.names v n;
  forbidden = s.forbidden;
  profile = s.profile;
}

-- kind 9: guests are held to class c (request 04)
abbrev pub with_profile : Sheet → ℕ → Sheet
with_profile s c = record {
  types = s.types;
  flags = s.flags;
  defined = s.defined;
  formals = s.formals;
  masks = s.masks;
  owners = s.owners;
  names = s.names;
  forbidden = s.forbidden;
  profile = c;
}
