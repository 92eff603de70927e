-- The code's sheet has what the engine goes by of the file's declarations. Assumes nothing.
use Rattle.std.specs.Prelude.{◌≡◌, List, Bool, ℕ, ◌*◌, take}
use Rattle.rows.specs.Edition.{labels}
use Rattle.format.specs.Reading.{read_file}
use Rattle.sheet.specs.declared.Sheet.{Sheet}

pub record Arrays (wide : Bool) (file : List ℕ) (s : Sheet) : Type 0 where
  pub types_are : (read_file (labels wide) file).sheet.types ≡ take (labels wide) s.types
  pub flags-are : (read_file (labels wide) file).sheet.flags ≡ take (labels wide) s.flags
  pub masks-are : (read_file (labels wide) file).sheet.masks ≡ s.masks
  pub formals-are : (read_file (labels wide) file).sheet.formals ≡ take (7 * labels wide) s.formals
  pub profile-is : (read_file (labels wide) file).sheet.profile ≡ s.profile
