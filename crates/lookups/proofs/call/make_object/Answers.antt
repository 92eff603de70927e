-- The object of new, and its prototype. Assumes nothing.
use mathlib.Core.Path.{refl}
use borrow.Author.Rules.{rules}
use Rattle.records.specs.Say.{input_at}
use Rattle.uses.proofs.Rows.{variable-row}
use Rattle.uses.proofs.Use.{reached-length}
use Rattle.lookups.proofs.Calls.{object-applies}
use Rattle.lookups.proofs.call.make_object.Goals as goal

pub give-gave-requires : goal.give-gave-requires
give-gave-requires c = search (rules, variable-row)

pub copy-same-requires : goal.copy-same-requires
copy-same-requires c =
    rw (reached-length c.give-gave.ensures.only) c.requires.0

pub look_up-found-requires : goal.look_up-found-requires
look_up-found-requires c =
    (rw (reached-length c.copy-same.ensures.only, reached-length c.give-gave.ensures.only) c.requires.0, c.chain.ensures.bound, refl)

pub returns : goal.returns
returns c =
    let a = c.args in
    λ p lays.
    object-applies a.site.result.0 a.site.callee.0 (input_at a.site.inputs 0) a.l.0 c.requires.0.apart
    (rw c.row.ensures.value at c.give-gave.ensures) c.copy-same.ensures c.held-held.ensures (c.told_chains-on.ensures p)
    (rw c.chain.ensures.value at (c.look_up-found.ensures p lays))
