-- All inputs, one after the other. Assumes nothing.
use Rattle.program.specs.Program.{Program}
use Rattle.sets.specs.Value.{value}
use Rattle.host.specs.Lays.{FormalsOf, Functions}
use Rattle.records.specs.Say.{input_at}
use Rattle.shared.specs.Apply.{Applies}
use Rattle.lookups.specs.Passing.{handing_all}
use Rattle.lookups.proofs.call.hand_all.Given as goal

abbrev pub invariant-loop-j : goal.invariant-loop-j
invariant-loop-j l =
    (p : Program) → FormalsOf p l.host.sheet.now.formals → Functions p (value l.wide l.fs)
    → Applies l.wide l.o p (handing_all l.wide p (value l.wide l.fs) (input_at l.inputs) l.j) l.initial.t l.initial.keeps l.t l.keeps l.grew
