-- `checker::lowest_gap` meets its contract. Assumes nothing.
use borrow.Author.Rules.{rules}
use Rattle.checker.proofs.Laws.{lent_two, room-two, gap-shown, gap-within}
use Rattle.checker.proofs.lowest_gap.Goals as goal

pub pass_into-requires : goal.pass_into-requires
pass_into-requires c =
    let count = c.word_count-o.ensures.value in
    (lent_two c.args.wide _ _ _ count c.requires.1 (search rules), c.requires.2, c.requires.3)

pub lowest_grown-requires : goal.lowest_grown-requires
lowest_grown-requires c = room-two _ _ _ c.requires.1 (search rules)

pub returns : goal.returns
returns c =
    record {
      value = gap-shown c.args.table.now c.requires.2 c.requires.3 c.declared-known.ensures c.clean.ensures c.word_count-o.ensures.value c.pass_into.ensures _ c.lowest_grown.ensures;
      within = gap-within c.args.wide _ _ c.lowest_grown.ensures;
    }
