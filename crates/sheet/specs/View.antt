-- How the code's sheet stands for the sheet of the crate format: in the edition of 64 labels the first 64 entries of each array by label count,
-- in that of 256 all. Assumes nothing.
use Rattle.std.specs.Prelude.{List, Bool, cond, ◌||◌, ℕ, ◌*◌, take, eqb, ltb}
use Rattle.rows.specs.Edition.{labels}
use Rattle.sets.specs.Value.{value}
use Rattle.format.specs.Sheet as format
use Rattle.format.specs.Records.{after, whole_refusal}
use Rattle.sheet.specs.declared.Sheet.{Sheet}

-- the sheet that the struct holds
abbrev pub sheet_of : Bool → Sheet → format.Sheet
sheet_of wide s = record {
  types = take (labels wide) s.types;
  flags = take (labels wide) s.flags;
  defined = take (labels wide) s.defined;
  formals = take (7 * labels wide) s.formals;
  masks = s.masks;
  owners = s.owners;
  names = s.names;
  forbidden = value wide s.forbidden;
  profile = s.profile;
}

-- the next sheet, or the sheet as it was where the record is refused
abbrev pub handed_back : format.Sheet → ℕ → List ℕ → format.Sheet
handed_back s k b = cond (eqb (whole_refusal s k b) 0) (after s k b) s

-- the kinds that declare something: 1 to 5 and 9
abbrev pub declaring : ℕ → Bool
declaring k = ltb k 6 || eqb k 9
