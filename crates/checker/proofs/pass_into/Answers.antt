-- A pass before which nothing was kept. Assumes nothing.
use mathlib.Core.List.{[]}
use Rattle.format.proofs.Arrays.{padded}
use Rattle.kept.proofs.Remembers.{remembers-none}
use Rattle.checker.proofs.pass_into.Goals as goal

pub returns : goal.returns
returns c = (c.pass.ensures (c.lay_out.ensures.known (rw c.new-host.ensures.sheet c.requires.2))).uses c.args.t.now (λ r l h. h) (remembers-none (padded [] 256 0))
