-- `sheet::Sheet::take_function` meets its contract. Assumes nothing.
use mathlib.Core.Path.{◌≡◌, ◌∙◌}
use Prim.Native.Nat.{◌+◌, ◌-◌, ◌*◌}
use native.Mathlib.Omega.{arith}
use lib.ListN.{length, get_or, drop, length-drop}
use Rattle.std.proofs.lemmas.Slice.{put_mid-paste}
use Rattle.rows.specs.Edition.{labels}
use Rattle.rows.proofs.Edition.{labels-small}
use Rattle.format.specs.Records.{whole_refusal, misnamed, twice, after}
use Rattle.sheet.proofs.Cases.{cases}
use Rattle.sheet.proofs.Laws.{cut-entry, cut-store, cut-copy, part-is}
use borrow.Author.Rules.{rules}
use Rattle.sheet.proofs.Sheet.take_function.Goals as goal

pub returns-clause-sheet_value : goal.returns-clause-sheet_value
unfolding whole_refusal misnamed twice after
returns-clause-sheet_value c =
    let v = c.args in
    let n = labels v.wide in
    let e = c.from-l.ensures in
    let h = c.requires.1 in
    let most = labels-small v.wide in
    let room : length v.self.formals ≡ 1792 = search (rules, c.well_formed.0) in
    let seven : length (drop 1 v.body.now) ≡ 7 = omega (arith, length-drop 1 v.body.now, c.requires.0) in
    let l = get_or v.body.now 0 0 in
    let copied = put_mid-paste (7 * l) (7 * l + 7 - 7 * l) v.self.formals c.copy_from_slice.new.self (drop 1 v.body.now) 7 (c.copy_from_slice.ensures.after ∙ part-is v.body.now) (omega arith) (omega arith) in
    let cut = cut-copy (7 * n) v.self.formals (7 * l) (drop 1 v.body.now) 7 (omega arith) (omega arith) (omega arith) in
    rw (cut-store n v.self.defined _ _ 1 e h, e, copied, cut) (search (cases, cut-entry n v.self.defined _ _ e h))
