-- A bit more, for a record that reads something. Assumes nothing.
use Rattle.indexing.proofs.Bits.{begins-more}
use Rattle.indexing.proofs.index.Index.enter.Goals as goal

pub returns : goal.returns
returns c = begins-more c.args.self.now.starts c.set.new.self (c.requires.0, c.requires.1) c.requires.2 c.set.ensures
