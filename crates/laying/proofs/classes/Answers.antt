-- The names of each class: the invariant is that those below c are laid. Assumes nothing.
use borrow.Author.Rules.{rules}
use mathlib.Core.Path.{◌≡◌, refl}
use native.Mathlib.Omega.{arith}
use lib.ListN.{replicate}
use Rattle.laying.proofs.Words.{classes-none, classes-next}
use Rattle.laying.proofs.classes.Goals as goal

pub loop-c-init : goal.loop-c-init
loop-c-init c = (refl, classes-none c.args.masks.now (replicate 8 0))

pub loop-c-preserved : goal.loop-c-preserved
loop-c-preserved c =
    let r = c.loop-c in
    (search rules, classes-next c.args.masks.now r.names r.c c.class_names.result (search rules) r.invariant.1 c.class_names.ensures)

pub returns : goal.returns
returns c = let e : c.loop-c.c ≡ 8 = omega arith in rw e at c.loop-c.invariant.1
