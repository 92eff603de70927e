-- Arrays of zeros. Assumes nothing.
use mathlib.Core.Path.{refl}
use Rattle.host.proofs.Returns.{no_returns}
use Rattle.host.proofs.handed.Returns.none.Goals as goal

pub returns : goal.returns
returns c = no_returns _ refl refl refl refl
