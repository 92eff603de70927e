-- `pezvoran::check` meets its contract. Assumes nothing.
use mathlib.Core.Path.{sym, ap, subst, ◌∙◌}
use native.Mathlib.Omega.{arith}
use Rattle.answer.specs.Outcome.{packed, Ranged}
use Rattle.verdicts.proofs.Ranged.{check-ranged}
use Rattle.pezvoran.proofs.check.Goals as goal

pub pack-requires : goal.pack-requires
pack-requires c = subst Ranged (sym c.examine.ensures) (check-ranged 64 (omega arith) _ _)

pub returns : goal.returns
returns c = c.pack.ensures ∙ ap packed c.examine.ensures
