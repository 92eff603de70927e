-- The guest's rules: the loop takes its statements one by one. Assumes nothing.
use lib.ListN.{take}
use Rattle.rules.specs.Rule.{every}
use Rattle.program.specs.Program.{Program}
use Rattle.uses.specs.Use.{tells}
use Rattle.host.specs.Lays.{Serves}
use Rattle.shared.specs.Apply.{Applies}
use Rattle.passes.proofs.Guests.{guest_list}
use Rattle.passes.proofs.guest.guest.Given as goal

abbrev pub invariant-loop-i : goal.invariant-loop-i
invariant-loop-i l =
    (p : Program) → Serves l.wide p l.host
    → Applies l.wide l.o p (tells l.wide (every (take l.i (guest_list p l.key l.prototyped)))) l.initial.t l.initial.keeps l.t l.keeps l.grew
