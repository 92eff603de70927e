-- Whether label l is in the set: the code computes its bit. Assumes nothing.
use Rattle.words.proofs.Laws.{bit-code}
use Rattle.words.proofs.contains.Goals as goal

pub returns : goal.returns
returns c = rw (bit-code c.args.x c.args.l)
