-- Every label: all bits of each word that counts. Assumes nothing.
use Rattle.sets.proofs.Values.{full-on}
use Rattle.sets.proofs.full.Goals as goal

pub returns : goal.returns
returns c = full-on c.args.wide
