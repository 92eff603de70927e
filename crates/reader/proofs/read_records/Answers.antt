-- `reader::read_records` meets its contract. Assumes nothing.
use mathlib.Core.Path.{◌≡◌, sym, ap, ◌∙◌}
use lib.ListN.{length}
use Rattle.rows.specs.Edition.{labels}
use Rattle.layout.specs.Kinds.{number_of}
use Rattle.format.specs.Records.{after, whole_refusal}
use borrow.Author.Tests.{ne_eqb}
use Rattle.fields.specs.Judging.{number_in}
use Rattle.answer.proofs.Numbers.{not-zero}
use Rattle.sheet.specs.View.{sheet_of}
use Rattle.sheet.proofs.Bodies.{undeclared}
use Rattle.reader.proofs.Laws.{whole-record, next-within, part, at-end, unknown-kind, cut-record, here-bad-field, here-bad-record, here-next, here-fits, next-good, next-bad, fields-done}
use Rattle.reader.proofs.read_records.Goals as goal
use Rattle.reader.proofs.read_records.Goals.{then-declares+in_default-taken, else-declares}

pub loop-class-preserved : goal.loop-class-preserved
loop-class-preserved c =
    let e = c.in-Some-2.ensures.steps in
    sym (next-good (labels c.args.wide) (sheet_of c.args.wide c.records.sheet) _ _ _ _ c.in_default-judge.ensures) ∙ rw (e.0, e.1) at c.loop-class.invariant

pub take-taken-requires : goal.take-taken-requires
take-taken-requires c =
    let w = whole-record (labels c.args.wide) c.in-Some.kind c.fields-fields.result.now c.in-Some.ensures c.fields-fields.ensures c.records.invariant.1 c.if-file-at.false c.if-file-at-2.false in
    rw c.number-then-declares.ensures (here-fits w (sym c.loop-class.invariant ∙ fields-done _ _ _ _ c.in-None.ensures.steps))

pub records-preserved : goal.records-preserved
records-preserved c =
    let wide = c.args.wide in
    let s = sheet_of wide c.records.sheet in
    let k = number_of c.in-Some.kind in
    let body = part c.args.file.now c.records.at (length c.fields-fields.result.now) in
    let w = whole-record (labels wide) c.in-Some.kind c.fields-fields.result.now c.in-Some.ensures c.fields-fields.ensures c.records.invariant.1 c.if-file-at.false c.if-file-at-2.false in
    let made : (whole_refusal s k body ≡ 0) × (sheet_of wide c.if-declares.sheet ≡ after s k body) =
    elim c.if-declares.branch [
      | then-declares+in_default-taken b ↦
          let took = rw b.number-then-declares.ensures at b.take-taken.ensures in
          let none = sym took.refusal_value ∙ ap number_in b.in_default-taken.is in
          (none, ap (sheet_of wide) b.sheet-is ∙ rw none at took.sheet_value)
      | else-declares b ↦
          let u = undeclared s k body (rw c.number.ensures at (sym c.declares.ensures) ∙ b.if-declares.false) in
          (u.0, ap (sheet_of wide) b.sheet-is ∙ u.1)
    ] in
    (next-within w.inside w.room, rw made.1 (here-next w (sym c.loop-class.invariant ∙ fields-done _ _ _ _ c.in-None.ensures.steps) made.0))

pub returns-then-file-at : goal.returns-then-file-at
returns-then-file-at c =
    let a = at-end _ _ _ _ c.records.invariant.1 c.if-file-at.true in
    record { sheet_value = a.sheet-same; ending = (sym a.refusal-same, a.position-same) }

pub returns-in_default : goal.returns-in_default
returns-in_default c =
    let a = unknown-kind _ _ _ _ c.records.invariant.1 c.if-file-at.false c.in_default.ensures in
    record { sheet_value = a.sheet-same; ending = (a.refusal-same, a.position-same) }

pub returns-then-file-at-2 : goal.returns-then-file-at-2
returns-then-file-at-2 c =
    let a = cut-record (labels c.args.wide) _ _ _ c.in-Some.kind c.fields-fields.result.now c.in-Some.ensures c.fields-fields.ensures c.records.invariant.1 c.if-file-at.false c.if-file-at-2.true in
    record { sheet_value = a.sheet-same; ending = (a.refusal-same, a.position-same) }

pub returns-in-Err : goal.returns-in-Err
returns-in-Err c =
    let w = whole-record (labels c.args.wide) c.in-Some.kind c.fields-fields.result.now c.in-Some.ensures c.fields-fields.ensures c.records.invariant.1 c.if-file-at.false c.if-file-at-2.false in
    let e = c.in-Some-2.ensures.steps in
    let bad = rw (e.0, e.1) at (sym c.loop-class.invariant) ∙ next-bad (labels c.args.wide) (sheet_of c.args.wide c.records.sheet) _ _ _ _ _ c.in-Err.ensures (not-zero _) in
    let a = here-bad-field w _ bad (not-zero _) in
    record { sheet_value = a.sheet-same; ending = (a.refusal-same, a.position-same) }

pub returns-in-Err-taken : goal.returns-in-Err-taken
returns-in-Err-taken c =
    let w = whole-record (labels c.args.wide) c.in-Some.kind c.fields-fields.result.now c.in-Some.ensures c.fields-fields.ensures c.records.invariant.1 c.if-file-at.false c.if-file-at-2.false in
    let t = rw c.number-then-declares.ensures at c.take-taken.ensures in
    let number = sym t.refusal_value ∙ ap number_in c.in-Err-taken.is in
    let a = here-bad-record w (sym c.loop-class.invariant ∙ fields-done _ _ _ _ c.in-None.ensures.steps) _ number (not-zero _) in
    record {
      sheet_value = rw (number, ne_eqb _ _ (not-zero c.in-Err-taken.refusal)) at t.sheet_value ∙ a.sheet-same;
      ending = (a.refusal-same, a.position-same);
    }
