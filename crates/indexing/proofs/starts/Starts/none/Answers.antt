-- No bits. Assumes nothing.
use mathlib.Core.Path.{refl}
use Rattle.indexing.proofs.Bits.{begins-none}
use Rattle.indexing.proofs.starts.Starts.none.Goals as goal

pub returns : goal.returns
returns c = λ L file. begins-none L file _ refl refl
