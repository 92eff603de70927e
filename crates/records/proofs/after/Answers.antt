-- Where the next record begins: no body is longer than 11. Assumes nothing.
use Rattle.std.proofs.Common.{rules}
use Rattle.layout.proofs.Table.{body-short}
use Rattle.records.proofs.after.Goals as goal

pub overflow_add-result-2 : goal.overflow_add-result-2
overflow_add-result-2 c = search (rules, body-short)
