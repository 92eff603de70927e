-- `reader::read_records`: what is left of a record's fields decides as the whole does; reading on from the place gives what the whole file gives.
-- Assumes nothing.
use mathlib.Core.Path.{◌≡◌}
use mathlib.Core.List.{map}
use Prim.Native.Nat.{◌≤◌, ◌-◌}
use lib.ListN.{length}
use Rattle.std.specs.Slice.Iter.{iter_rest}
use Rattle.rows.specs.Edition.{labels}
use Rattle.layout.specs.Layout.{fields_of}
use Rattle.layout.specs.Kinds.{number_of, class_meant}
use Rattle.format.specs.Fields.{first_bad}
use Rattle.sheet.specs.View.{sheet_of}
use Rattle.reader.proofs.Laws.{On}
use Rattle.reader.proofs.read_records.Given as goal

abbrev pub invariant-loop-class : goal.invariant-loop-class
invariant-loop-class l =
    first_bad (labels l.wide) (sheet_of l.wide l.sheet) (map class_meant (iter_rest l.class-iterator.a)) (iter_rest l.class-iterator.b)
    ≡ first_bad (labels l.wide) (sheet_of l.wide l.sheet) (fields_of (number_of l.kind)) l.body

abbrev pub invariant-records : goal.invariant-records
invariant-records l = (l.at ≤ length l.file) × On (labels l.wide) l.file (sheet_of l.wide l.sheet) l.at

abbrev pub decreases-records : goal.decreases-records
decreases-records l = length l.file - l.at
