-- A set joined to a row: row 0 takes nothing, a row that holds the set stays, else the union is stored. Assumes nothing.
use borrow.Author.Rules.{rules}
use Prim.Native.Nat.{◌+◌, ◌*◌}
use Rattle.rows.specs.Run.{number}
use Rattle.rows.specs.Edition.{words}
use Rattle.sets.specs.Value.{value}
use Rattle.rows.proofs.Run.{number_lt}
use Rattle.lent.proofs.Joins.{joined-nowhere, joined-held, joined-more, lacks-nothing, lacks-some}
use Rattle.lent.proofs.join.Goals as goal

pub returns-then-r-eq0 : goal.returns-then-r-eq0
returns-then-r-eq0 c = joined-nowhere _ _ _ _ _ c.if-r-eq0.true

pub returns-then-is_within : goal.returns-then-is_within
returns-then-is_within c =
    let a = c.args in
    joined-held (words a.wide) a.o a.r (value a.wide a.s) a.t.now c.if-r-eq0.false c.is_within.ensures.bound
    (number_lt _ _ _ (search rules)) (lacks-nothing _ {old = number (words a.wide) a.t.now (a.o + words a.wide * a.r)} c.row-old.ensures c.is_within.ensures.value c.if-is_within.true)

pub returns : goal.returns
returns c =
    let a = c.args in
    joined-more (words a.wide) a.o a.r (value a.wide a.s) a.t.now _ c.if-r-eq0.false c.is_within.ensures.bound
    (number_lt _ _ _ (search rules)) (lacks-some _ {old = number (words a.wide) a.t.now (a.o + words a.wide * a.r)} c.row-old.ensures c.is_within.ensures.value c.if-is_within.false)
    (rw (c.union-new.ensures, c.row-old.ensures) at c.write.ensures)
