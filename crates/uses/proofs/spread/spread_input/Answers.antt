-- A set joined to the inputs of functions: the loop takes the labels one by one. Assumes nothing.
use borrow.Author.Rules.{rules}
use mathlib.Core.Path.{refl, sym, ◌∙◌}
use Rattle.uses.proofs.Spreads.{spreading-start, spreading-next, spreading-end, spread-for}
use Rattle.uses.proofs.spread.spread_input.Goals as goal

pub loop-f-init : goal.loop-f-init
loop-f-init c = (cc, refl, spreading-start cc)

pub loop-f-preserved : goal.loop-f-preserved
loop-f-preserved c =
    let h = rw c.loop-f.invariant.0 at c.in-Some.ensures.steps in
    let apart = c.requires.0.apart in
    let e = c.row.ensures.value ∙ c.formal.ensures in (
      h.0,
      search rules,
      spreading-next apart h.1 (spread-for apart (λ r h. h ∙ e) (λ r h. h ∙ sym e) c.spread_one-one.ensures.spread_to) c.spread_one-one.ensures.by_index
          c.loop-f.invariant.2,
    )

pub returns : goal.returns
returns c =
    let h = rw c.loop-f.invariant.0 at c.in-None.ensures.steps in
    spreading-end c.requires.0.apart h.1.0 c.loop-f.invariant.2
