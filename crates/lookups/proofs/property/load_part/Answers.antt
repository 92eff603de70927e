-- A part of a load: one join of what labels of the object find. Assumes nothing.
use borrow.Author.Rules.{rules}
use Rattle.sets.specs.Value.{value}
use Rattle.uses.proofs.Rows.{labels-some, row_fits, variable-row}
use Rattle.lookups.proofs.Properties.{part-reached}
use Rattle.lookups.proofs.property.load_part.Goals as goal

pub chain-requires : goal.chain-requires
chain-requires c = search (rules, labels-some)

pub join-requires : goal.join-requires
join-requires c =
    let a = c.args in
    row_fits a.wide 0 _ _ c.requires.0.room (variable-row a.wide c.row.ensures.bound)

pub returns : goal.returns
returns c =
    let a = c.args in
    let here = rw c.row.ensures.value at (variable-row a.wide c.row.ensures.bound) in record {
      reached = λ p w lays. part-reached a.y.0 a.x.0 w a.key (value a.wide a.labels) lays c.requires.1 here c.held-held.ensures c.meet-s.ensures
          c.chain.ensures.value c.gather-on.ensures c.names-names.ensures c.gather_under-more.ensures
          (rw c.row.ensures.value at c.join.ensures);
      t_len_unchanged = c.join.ensures.same_length;
    }
