-- A turn for each record of the 64 bytes. Assumes nothing.
use denote.Param.Always.{always_mut}
use Rattle.search.proofs.scan.Scan.find.Given as goal

abbrev pub invariant-loop-place : goal.invariant-loop-place
invariant-loop-place g l = always_mut g.F.FnMut l.initial.test → always_mut g.F.FnMut l.test

abbrev pub decreases-loop-place : goal.decreases-loop-place
decreases-loop-place g l = l.left
