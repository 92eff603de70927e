-- `pezvoran_large::verdict_large` meets its contract. Assumes nothing.
use mathlib.Core.Path.{sym, ap, subst, ◌∙◌}
use native.Mathlib.Omega.{arith}
use Rattle.answer.specs.Outcome.{packed, Ranged}
use Rattle.verdicts.proofs.Ranged.{verdict-ranged}
use Rattle.pezvoran_large.proofs.verdict_large.Goals as goal

pub pack-requires : goal.pack-requires
pack-requires c = subst Ranged (sym c.judge.ensures.result_value) (verdict-ranged 256 (omega arith) _ _)

pub returns : goal.returns
returns c =
    let j = c.judge.ensures in
    record { value = c.pack.ensures ∙ ap packed j.result_value; table_after = j.table_after }
