-- Prim: along the chains, under two names, then the functions. Assumes nothing.
use mathlib.Core.Path.{refl}
use borrow.Author.Rules.{rules}
use native.Mathlib.Omega.{arith}
use Rattle.sets.specs.Value.{value}
use Rattle.sets.proofs.Values.{is_none}
use Rattle.lookups.proofs.Calls.{functions-are}
use Rattle.lookups.proofs.Conversions.{converts-nothing, convert-applies}
use Rattle.lookups.proofs.call.convert.Goals as goal

pub told_under-values-requires : goal.told_under-values-requires
told_under-values-requires c = (omega (arith, c.requires.0.room), refl)

pub returns-then-is_empty : goal.returns-then-is_empty
returns-then-is_empty c =
    let a = c.args in
    λ p lays formals. converts-nothing a.k.0 a.x.0 c.requires.0.apart lays c.held-held.ensures (c.told_chains-on.ensures p)
    (rw c.none-none.ensures at (c.told_under-strings.ensures p lays)) (rw c.none-none.ensures at (c.told_under-values.ensures p lays))
    (rw c.union.ensures at c.functions_among-fs.ensures) (is_none _ c.is_empty.ensures c.if-is_empty.true)

pub spread_inputs-handed-requires : goal.spread_inputs-handed-requires
spread_inputs-handed-requires c =
    (record { room = search rules; apart = c.requires.0.apart }, omega arith)

pub throw_on-thrown-requires : goal.throw_on-thrown-requires
throw_on-thrown-requires c =
    (record { room = search rules; apart = c.requires.0.apart }, c.requires.1)

pub returns : goal.returns
returns c =
    let a = c.args in
    λ p lays formals.
    let is-fs = rw c.union.ensures at c.functions_among-fs.ensures in
    convert-applies a.k.0 a.x.0 c.requires.0.apart lays c.held-held.ensures (c.told_chains-on.ensures p)
    (rw c.none-none.ensures at (c.told_under-strings.ensures p lays)) (rw c.none-none.ensures at (c.told_under-values.ensures p lays)) is-fs
    (c.spread_inputs-handed.ensures p formals (functions-are (value a.wide c.union.result) lays c.functions_among-fs.ensures)) (c.throw_on-thrown.ensures p)
