-- One input: nothing where the variable is empty, else a spread. Assumes nothing.
use borrow.Author.Rules.{rules}
use Rattle.sets.specs.Value.{value}
use Rattle.sets.proofs.Values.{is_none}
use Rattle.lookups.proofs.Calls.{hands-nothing, hands-over}
use Rattle.lookups.proofs.call.hand_over.Goals as goal

pub returns-then-is_empty : goal.returns-then-is_empty
returns-then-is_empty c p formals functions = search (rules, hands-nothing, is_none)

pub returns : goal.returns
returns c =
    let a = c.args in
    λ p formals functions. hands-over (value a.wide a.fs) a.v.0 a.j c.requires.0.apart c.held-x.ensures (c.spread_inputs.ensures p formals functions)
