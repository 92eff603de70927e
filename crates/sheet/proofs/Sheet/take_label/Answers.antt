-- `sheet::Sheet::take_label` meets its contract. Assumes nothing.
use lib.ListN.{get_or}
use Rattle.rows.specs.Edition.{labels}
use Rattle.format.specs.Records.{whole_refusal, misnamed, twice, after}
use Rattle.sheet.proofs.Cases.{cases}
use Rattle.sheet.proofs.Laws.{cut-entry, cut-store}
use Rattle.sheet.proofs.Sheet.take_label.Goals as goal

pub returns-clause-sheet_value : goal.returns-clause-sheet_value
unfolding whole_refusal misnamed twice after
returns-clause-sheet_value c =
    let v = c.args in
    let n = labels v.wide in
    let e = c.from-l.ensures in
    let h = c.requires.1 in
    rw (cut-store n v.self.types _ _ (get_or v.body.now 1 0) e h, cut-store n v.self.flags _ _ (get_or v.body.now 2 0) e h) (search (cases, cut-entry n v.self.types _ _ e h))
