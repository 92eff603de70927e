-- A call: its inputs, what is handed back, what is thrown. Assumes nothing.
use borrow.Author.Rules.{rules}
use Rattle.sets.specs.Value.{value}
use Rattle.sets.proofs.Values.{is_none}
use Rattle.lookups.proofs.Calls.{functions-are, calls-nothing, call-applies}
use Rattle.lookups.proofs.call.call.Goals as goal

pub returns-then-is_empty : goal.returns-then-is_empty
returns-then-is_empty c p serves = search (rules, calls-nothing, is_none)

pub throw_on-thrown-requires : goal.throw_on-thrown-requires
throw_on-thrown-requires c =
    (record { room = search rules; apart = c.requires.0.apart }, c.requires.1)

pub returns : goal.returns
returns c =
    let s = c.args.site in
    λ p serves.
    let functions = functions-are (value c.args.wide c.held-held.result) serves.lays c.functions_among-fs.ensures in
    call-applies s.scope.0 s.result.0 s.callee.0 s.inputs c.requires.0.apart serves.lays c.held-held.ensures c.functions_among-fs.ensures
    (c.hand_all-handed.ensures p serves.formals-of functions) (c.hand_back-back.ensures p serves.returning functions) (c.throw_on-thrown.ensures p)
