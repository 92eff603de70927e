-- The names of a class: the invariant is that they are those below n. Assumes nothing.
use mathlib.Core.Path.{◌≡◌}
use native.Mathlib.Omega.{arith}
use Rattle.laying.specs.Holds.{of_class}
use Rattle.laying.proofs.Words.{holds-none, holds-next}
use Rattle.laying.proofs.class_names.Goals as goal

pub loop-n-init : goal.loop-n-init
loop-n-init c = holds-none _

pub loop-n-preserved : goal.loop-n-preserved
loop-n-preserved c =
    let a = c.args in
    let r = c.loop-n in
    rw (c.with_name-names.ensures, c.mask_of.ensures) (holds-next (of_class a.masks.now a.class) r.n r.names r.invariant)

pub returns : goal.returns
returns c = let e : c.loop-n.n ≡ 32 = omega arith in rw e at c.loop-n.invariant
