-- The label and its prototype. Assumes nothing.
use borrow.Author.Rules.{rules}
use Rattle.analysis.specs.Rules.{parents_of}
use Rattle.sets.specs.Value.{value}
use Rattle.lines.proofs.Lines.{low-label, on-first}
use Rattle.lines.proofs.first_on.Goals as goal

pub single-above-requires : goal.single-above-requires
single-above-requires c = search (rules, low-label)

pub returns : goal.returns
returns c =
    let a = c.args in
    on-first (value a.wide c.union.result) a.l.0 c.parent_of.result.0 (parents_of a.kind)
    (rw (c.single-own.ensures, c.single-above.ensures) at c.union.ensures) c.parent_of.ensures.kind_value
