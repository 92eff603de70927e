-- The key of the guest's class: one of eight. Assumes nothing.
use mathlib.Core.Path.{refl}
use Rattle.layout.proofs.Keys.{class-key}
use Rattle.host.proofs.Host.guest_key.Goals as goal

pub returns : goal.returns
returns c = (refl, class-key c.args.self.now.guest_class c.args.self.now.in_range)
