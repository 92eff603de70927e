-- `pezvoran::verdict` meets its contract: rows of one word are the words. Assumes nothing.
use mathlib.Core.Path.{sym, ap, subst, ◌∙◌}
use Prim.Native.Nat.{ℕ}
use native.Mathlib.Nat.{div-one}
use Rattle.std.proofs.Common.{rules}
use native.Mathlib.Omega.{arith}
use lib.ListN.{length}
use Rattle.answer.specs.Outcome.{packed, Ranged}
use Rattle.verdicts.specs.Verdict.{verdict_outcome}
use Rattle.verdicts.proofs.Ranged.{verdict-ranged}
use Rattle.verdicts.proofs.Words.{words-one}
use Rattle.pezvoran.proofs.verdict.Goals as goal

pub pack-requires : goal.pack-requires
pack-requires c = subst Ranged (sym c.judge.ensures.result_value) (verdict-ranged 64 (omega arith) _ _)

pub returns : goal.returns
returns c =
    let j = c.judge.ensures in
    let a = c.args in record {
      value = c.pack.ensures ∙ ap packed (j.result_value ∙ ap (λ (n : ℕ). verdict_outcome 64 n a.file.now) (div-one (length a.table.now)));
      table_after = j.table_after ∙ words-one a.file.now a.table.now (λ i. search rules);
    }
