-- The row of the first table, then that of the second. Assumes nothing.
use Rattle.cleaning.proofs.Copies.{both_stored}
use Rattle.cleaning.proofs.write_both.Goals as goal

pub returns : goal.returns
returns c =
    let a = c.args in
    both_stored a.wide c.word_count-o.result a.r c.word_count-o.ensures.value c.requires.1 c.write.ensures c.write-2.ensures
