-- A set joined to the properties of labels: the loop takes the labels one by one. Assumes nothing.
use borrow.Author.Rules.{rules}
use mathlib.Core.Path.{refl}
use Rattle.uses.proofs.Spreads.{spreading-start, spreading-next, spreading-end, spread-for, rows_of, of-rows}
use Rattle.uses.proofs.spread.spread_under.Goals as goal

pub loop-l-init : goal.loop-l-init
loop-l-init c = (cc, refl, spreading-start cc)

pub loop-l-preserved : goal.loop-l-preserved
loop-l-preserved c =
    let h = rw c.loop-l.invariant.0 at c.in-Some.ensures.steps in
    search (rules, spreading-next, spread-for, rows_of, of-rows)

pub returns : goal.returns
returns c =
    let h = rw c.loop-l.invariant.0 at c.in-None.ensures.steps in
    spreading-end c.requires.apart h.1.0 c.loop-l.invariant.2
