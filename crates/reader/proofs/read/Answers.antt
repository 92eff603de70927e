-- `reader::read` meets its contract. Assumes nothing.
use mathlib.Core.Bool.{Bool}
use mathlib.Core.Path.{refl, sym, ap, ◌∙◌}
use borrow.Author.Tests.{not-true, not-false}
use Rattle.rows.specs.Edition.{labels}
use Rattle.format.specs.Reading.{lacking}
use Rattle.format.specs.Sheet as format
use Rattle.answer.proofs.Numbers.{not-zero}
use Rattle.reader.proofs.Whole.{too_long, refused-early, read_whole, left-without}
use Rattle.reader.proofs.read.Goals as goal

abbrev lacking_in : format.Sheet → Bool
lacking_in s = lacking s.types s.defined

pub returns-then-file-gt-LONGEST : goal.returns-then-file-gt-LONGEST
returns-then-file-gt-LONGEST c = rw (too_long (labels c.args.wide) c.args.file.now c.if-file-gt-LONGEST.true) record { sheet_value = c.fresh-sheet.ensures; ending = (refl, refl) }

pub returns-in-Err : goal.returns-in-Err
returns-in-Err c =
    let r = c.in-Err.ensures in
    let a = refused-early (labels c.args.wide) c.args.file.now c.if-file-gt-LONGEST.false (λ z. not-zero _ (r.ending.0 ∙ z)) in
    record { sheet_value = r.sheet_value ∙ a.sheet-same; ending = (r.ending.0 ∙ a.refusal-same, r.ending.1 ∙ a.position-same) }

pub returns-then-not-is_complete : goal.returns-then-not-is_complete
returns-then-not-is_complete c =
    let r = c.in-Ok.ensures in
    let some = ap lacking_in (sym r.sheet_value) ∙ not-false _ (sym c.is_complete.ensures ∙ c.if-not-is_complete.true) in
    let a = left-without (labels c.args.wide) c.args.file.now c.if-file-gt-LONGEST.false r.ending.0 some in
    record { sheet_value = r.sheet_value ∙ a.sheet-same; ending = (a.refusal-same, r.ending.1 ∙ a.position-same) }

pub returns : goal.returns
returns c =
    let r = c.in-Ok.ensures in
    let all = ap lacking_in (sym r.sheet_value) ∙ not-true _ (sym c.is_complete.ensures ∙ c.if-not-is_complete.false) in
    let a = read_whole (labels c.args.wide) c.args.file.now c.if-file-gt-LONGEST.false r.ending.0 all in
    record { sheet_value = r.sheet_value ∙ a.sheet-same; ending = (sym a.refusal-same ∙ r.ending.0, r.ending.1 ∙ a.position-same) }
