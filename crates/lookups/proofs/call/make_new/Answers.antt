-- New: the object, then a call. Assumes nothing.
use borrow.Author.Rules.{rules}
use Rattle.records.specs.Say.{arguments, input_at}
use Rattle.lookups.proofs.Calls.{new-applies}
use Rattle.lookups.proofs.call.make_new.Goals as goal

pub call-called-requires : goal.call-called-requires
call-called-requires c =
    (record { room = search rules; apart = c.requires.0.apart }, c.requires.1)

pub returns : goal.returns
returns c =
    let s = c.args.site in
    λ p serves.
    new-applies s.scope.0 s.result.0 s.callee.0 (input_at s.inputs 0) c.args.l.0 (arguments s.inputs) c.requires.0.apart
    (c.make_object-made.ensures p serves.lays) (c.call-called.ensures p serves)
