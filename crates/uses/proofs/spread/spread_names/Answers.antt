-- A set joined to the rows of the names of a word: the loop takes the names one by one. Assumes nothing.
use borrow.Author.Rules.{rules}
use mathlib.Core.Path.{refl}
use Rattle.uses.proofs.Spreads.{spreading-start, spreading-next, spreading-end}
use Rattle.uses.proofs.spread.spread_names.Goals as goal

pub loop-n-init : goal.loop-n-init
loop-n-init c = (refl, spreading-start cc)

pub loop-n-preserved : goal.loop-n-preserved
loop-n-preserved c = (
  search rules,
  spreading-next c.requires.0.apart c.in-Some.ensures.steps c.spread_one-one.ensures.spread_to c.spread_one-one.ensures.by_index c.loop-n.invariant.1,
)

pub returns-clause-spread_to : goal.returns-clause-spread_to
returns-clause-spread_to c = spreading-end c.requires.0.apart c.in-None.ensures.steps.0 c.loop-n.invariant.1
