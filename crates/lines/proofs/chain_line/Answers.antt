-- One chain: one join. Assumes nothing.
use borrow.Author.Rules.{rules}
use Rattle.sets.specs.Value.{value}
use Rattle.uses.proofs.Rows.{row_fits, row_read, row_is, read-room}
use Rattle.lines.proofs.Lines.{chain-applies}
use Rattle.lines.proofs.chain_line.Goals as goal

pub row-held-requires : goal.row-held-requires
row-held-requires c = search (rules, row_read, read-room)

pub join-requires : goal.join-requires
join-requires c = search (rules, row_fits)

pub returns : goal.returns
returns c =
    let a = c.args in
    λ p. chain-applies (value a.wide c.first_on-first.result) a.kind a.l.0 c.requires.0.apart c.chain-row.ensures.value c.chain-row.ensures.bound
    (row_is a.wide 0 a.t.now c.chain-row.result c.chain-row.ensures.bound c.row-held.ensures) (c.told_chains-on.ensures p)
    c.first_on-first.ensures c.union-joined.ensures c.join.ensures
