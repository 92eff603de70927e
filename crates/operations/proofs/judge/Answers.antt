-- `operations::judge` meets its contract. Assumes nothing.
use mathlib.Core.Path.{◌≡◌, sym, ap, ap₂, ◌∙◌}
use Prim.Native.Nat.{◌<◌, ◌≤◌}
use Rattle.std.proofs.Common.{rules}
use native.Mathlib.Omega.{arith}
use lib.ListN.{length}
use Rattle.rows.specs.Edition.{labels, word_count}
use Rattle.format.specs.Sheet.{Sheet}
use Rattle.format.specs.Reading.{read_file}
use Rattle.answer.specs.Outcome.{refused}
use Rattle.answer.proofs.Numbers.{not-zero}
use Rattle.operations.specs.Judgment.{judgment}
use Rattle.operations.proofs.Laws.{held_in, short-outcome, short-words, refused-outcome, refused-words, judged-outcome, left-words}
use Rattle.operations.proofs.judge.Goals as goal

pub returns-then-table-word_count : goal.returns-then-table-word_count
returns-then-table-word_count c =
    let a = c.args in
    let short : length a.table.now < word_count a.wide = omega (arith, c.if-table-word_count.true, c.word_count.ensures.value) in record {
      result_value = sym (short-outcome a.wide a.file.now a.table.now short);
      table_after = sym (short-words a.wide a.file.now a.table.now (λ i. search rules) short);
    }

pub returns-in-Err : goal.returns-in-Err
returns-in-Err c =
    let a = c.args in
    let r = rw c.in-Err.is at c.read-ending.ensures.ending in
    let full : word_count a.wide ≤ length a.table.now = omega (arith, c.if-table-word_count.false, c.word_count.ensures.value) in
    let some : (read_file (labels a.wide) a.file.now).refusal ≡ 0 → ⊥ = (λ z. not-zero c.in-Err.no.refusal (r.0 ∙ z)) in record {
      result_value = ap₂ refused r.0 r.1 ∙ sym (refused-outcome a.wide a.file.now a.table.now full some);
      table_after = sym (refused-words a.wide a.file.now a.table.now full (λ i. search rules) some);
    }

pub returns : goal.returns
returns c =
    let a = c.args in
    let xs = a.file.now in
    let t = a.table.now in
    let r = rw c.in_default.is at c.read-ending.ensures.ending in
    let full : word_count a.wide ≤ length t = omega (arith, c.if-table-word_count.false, c.word_count.ensures.value) in
    let held = held_in a.wide _ (read_file (labels a.wide) xs).sheet c.held-held.ensures (ap (λ (z : Sheet). z.forbidden) c.read-ending.ensures.sheet_value) in record {
      result_value = c.judged.ensures
          ∙ ap₂ (judgment (labels a.wide)) held c.count.ensures.value
          ∙ sym (judged-outcome a.wide xs t full r.0 _ c.solve.ensures.least);
      table_after = left-words a.wide xs t full r.0 _ (λ i. search rules) c.solve.ensures;
    }
