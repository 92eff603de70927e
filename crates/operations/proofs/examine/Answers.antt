-- `operations::examine` meets its contract. Assumes nothing.
use mathlib.Core.Path.{sym, ap, ap₂, ◌∙◌}
use Prim.Native.Nat.{ℕ, ◌<◌, ◌≤◌}
use native.Mathlib.Omega.{arith}
use lib.Count.{count_trailing_zeros}
use lib.ListN.{length}
use borrow.Author.Tests.{eqb-true}
use Rattle.rows.specs.Edition.{labels, word_count}
use Rattle.format.specs.Sheet.{Sheet}
use Rattle.format.specs.Reading.{read_file}
use Rattle.answer.specs.Outcome.{refused, holds}
use Rattle.answer.proofs.Numbers.{not-zero}
use Rattle.operations.proofs.Laws.{held_in, not_none, check-short, check-refused, check-gap, check-clear, check-held}
use Rattle.operations.proofs.examine.Goals as goal

pub returns-then-table-word_count : goal.returns-then-table-word_count
returns-then-table-word_count c =
    let a = c.args in
    let short : length a.table.now < word_count a.wide = omega (arith, c.if-table-word_count.true, c.word_count.ensures.value) in
    sym (check-short a.wide a.file.now a.table.now short)

pub returns-in-Err : goal.returns-in-Err
returns-in-Err c =
    let a = c.args in
    let r = rw c.in-Err.is at c.read-ending.ensures.ending in
    let full : word_count a.wide ≤ length a.table.now = omega (arith, c.if-table-word_count.false, c.word_count.ensures.value) in
    ap₂ refused r.0 r.1 ∙ sym (check-refused a.wide a.file.now a.table.now full (λ z. not-zero c.in-Err.no.refusal (r.0 ∙ z)))

pub returns-in-Some : goal.returns-in-Some
returns-in-Some c =
    let a = c.args in
    let r = rw c.in_default.is at c.read-ending.ensures.ending in
    let full : word_count a.wide ≤ length a.table.now = omega (arith, c.if-table-word_count.false, c.word_count.ensures.value) in
    let is = c.in-Some.ensures.value in
    ap (refused 10) is ∙ sym (check-gap a.wide a.file.now a.table.now full r.0 (omega (arith, is, c.in-Some.ensures.within)))

pub returns-then-is_empty : goal.returns-then-is_empty
returns-then-is_empty c =
    let a = c.args in
    let r = rw c.in_default.is at c.read-ending.ensures.ending in
    let full : word_count a.wide ≤ length a.table.now = omega (arith, c.if-table-word_count.false, c.word_count.ensures.value) in
    let none = held_in a.wide _ (read_file (labels a.wide) a.file.now).sheet c.held-held.ensures (ap (λ (s : Sheet). s.forbidden) c.read-ending.ensures.sheet_value) in
    sym (
    check-clear a.wide a.file.now a.table.now full r.0 (omega (arith, c.in_default-lowest_gap.ensures.value))
    (sym none ∙ eqb-true _ _ (sym c.is_empty.ensures ∙ c.if-is_empty.true))
    )

pub returns-else-is_empty : goal.returns-else-is_empty
returns-else-is_empty c =
    let a = c.args in
    let r = rw c.in_default.is at c.read-ending.ensures.ending in
    let full : word_count a.wide ≤ length a.table.now = omega (arith, c.if-table-word_count.false, c.word_count.ensures.value) in
    let some = held_in a.wide _ (read_file (labels a.wide) a.file.now).sheet c.held-held.ensures (ap (λ (s : Sheet). s.forbidden) c.read-ending.ensures.sheet_value) in
    ap (λ (l : ℕ). holds l 3) (c.lowest_label.ensures ∙ ap (count_trailing_zeros (labels a.wide)) some)
    ∙ sym (
    check-held a.wide a.file.now a.table.now full r.0 (omega (arith, c.in_default-lowest_gap.ensures.value))
    (not_none c.is_empty.ensures c.if-is_empty.false some)
    )
