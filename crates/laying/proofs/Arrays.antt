-- What is laid and collected from a file's declarations and records is that of its program. Assumes nothing.
use mathlib.Core.Path.{◌≡◌, sym, ap, ◌∙◌}
use mathlib.Core.Bool.{Bool, true, cond}
use mathlib.Core.List.{List}
use Prim.Native.Nat.{ℕ, ◌+◌, ◌*◌, ◌<◌}
use native.Mathlib.Decide.{dec_lt}
use native.Mathlib.Omega.{arith}
use lib.ListN.{get_or, take, length-take, get_or-eq_default}
use lib.Seq.{get_or-take}
use lib.Dec.{ltb}
use borrow.Author.Tests.{eqb-true}
use Rattle.rows.specs.Edition.{labels}
use Rattle.format.specs.Sheet as format
use Rattle.format.specs.Reading.{read_file}
use Rattle.program.specs.Program.{is_function, program_of, program_in}
use Rattle.sheet.specs.declared.Sheet.{Sheet}
use Rattle.host.specs.declared.Host.{Host}
use Rattle.host.specs.Lays.{functions_in, built_ins_in, FormalsOf, ReturnsOf, Known}
use Rattle.laying.specs.Arrays.{Arrays}
use Rattle.laying.specs.Holds.{Holds, has_byte, Classes}
use Rattle.laying.proofs.Laid.{lays}

-- a function's label is one of the edition's
function-below : (s : format.Sheet) (L : ℕ) (types : List ℕ) → s.types ≡ take L types → (f : ℕ) → is_function s f ≡ true → f < L
function-below s L types e f h = go (dec_lt f L)
  where
    go : Dec (f < L) → f < L
    go (yes i) = i
    go (no i) =
        let none : get_or (take L types) f 0 ≡ 0 = get_or-eq_default (take L types) 0 (simp length-take (omega (arith, i))) in
        let two : get_or (take L types) f 0 ≡ 2 = ap (λ (x : List ℕ). get_or x f 0) (sym e) ∙ eqb-true (get_or s.types f 0) 2 h in
        absurd (omega (arith, none, two))

module _ {wide : Bool} {file : List ℕ} {s : Sheet} (are : Arrays wide file s) where
  formals-known : FormalsOf (program_in (labels wide) file) s.formals
  unfolding program_of
  formals-known f j h i =
      let low : f < labels wide = function-below (read_file (labels wide) file).sheet (labels wide) s.types are.types_are f h in
      ap (λ (x : List ℕ). get_or x (7 * f + j) 0) are.formals-are ∙ get_or-take (7 * labels wide) s.formals (7 * f + j) 0 (omega (arith, low, i))

  pub known : (w : Host) → w.sheet.now ≡ s → Holds (has_byte s.types 2) (labels wide) (functions_in wide w)
      → Holds (has_byte s.flags 1) (labels wide) (built_ins_in wide w) → Classes 8 s.masks w.classes
      → w.guest_class ≡ cond (ltb s.profile 8) s.profile 0 → ReturnsOf (program_in (labels wide) file) w.returns
      → Known wide (program_in (labels wide) file) w
  unfolding program_of
  known w e f b names class returning =
      record {
        serves =
            record {
              lays = lays wide s w f b names class (program_in (labels wide) file) are.masks-are are.types_are are.flags-are are.profile-is;
              formals-of = rw e formals-known;
              returning = returning;
            };
        typed = rw e are.types_are;
      }
