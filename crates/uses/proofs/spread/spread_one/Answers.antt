-- A set joined to one row. Assumes nothing.
use Rattle.sets.specs.Value.{value}
use Rattle.uses.proofs.Rows.{row_is}
use Rattle.uses.proofs.Spreads.{spread-nowhere, spread_row, meet-start}
use Rattle.uses.proofs.spread.spread_one.Goals as goal

pub returns-then-r-eq0 : goal.returns-then-r-eq0
returns-then-r-eq0 c = record { spread_to = spread-nowhere c.if-r-eq0.true; by_index = λ m h. h }

pub returns : goal.returns
returns c =
    let a = c.args in record { spread_to = spread_row (value a.wide a.start) c.requires.1 c.join-grew.ensures (row_is a.wide a.o _ a.r c.requires.1 c.row-held.ensures) c.meet.ensures; by_index = meet-start (value a.wide a.start) (value a.wide c.row-held.result) c.meet.ensures }
