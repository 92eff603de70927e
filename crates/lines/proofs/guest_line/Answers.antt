-- The prototypes, joined to the guest's chain. Assumes nothing.
use borrow.Author.Rules.{rules}
use mathlib.Core.List.{[], ◌∷◌}
use Rattle.uses.proofs.Rows.{row_fits}
use Rattle.lines.proofs.Lines.{guest-used}
use Rattle.lines.proofs.guest_line.Goals as goal

pub join-requires : goal.join-requires
join-requires c = search (rules, row_fits)

pub returns : goal.returns
returns c =
    let a = c.args in
    guest-used a.g.0 (1 ∷ 2 ∷ 4 ∷ []) c.chain.ensures.value c.chain.ensures.bound c.prototypes.ensures c.join.ensures
