-- The four words of a function, one after the other. Assumes nothing.
use Rattle.host.proofs.Returns.{handing-words}
use Rattle.host.proofs.handed.Returns.hand.Goals as goal

pub returns : goal.returns
returns c =
    let a = c.args in
    handing-words a.self.now a.f.0 c.of-variables.result c.of-variables.ensures (c.gather_word-first.ensures.added, c.gather_word-first.ensures.bound)
    (c.gather_word-second.ensures.added, c.gather_word-second.ensures.bound) (c.gather_word-third.ensures.added, c.gather_word-third.ensures.bound)
    (c.gather_word.ensures.added, c.gather_word.ensures.bound)
