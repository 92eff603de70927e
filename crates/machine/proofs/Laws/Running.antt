-- Runs: every step that can be taken can be taken after any run. Assumes nothing.
use mathlib.Core.Path.{◌≡◌, refl, sym, subst}
use mathlib.Core.List.{List, [], ◌∷◌, ◌++◌}
use Rattle.program.specs.Program.{Program}
use Rattle.machine.specs.State.{State}
use Rattle.machine.specs.Step.{Move, step, run}
use Rattle.machine.specs.Laws.{RunsGoOn}

-- "A run is a finite list of steps, the empty one too"
pub run-of-none : (p : Program) (s : State) → run p [] s ≡ s
run-of-none p s = refl

-- "each taken in what the last one left"
pub run-of-more : (p : Program) (moves : List Move) (m : Move) (s : State) → run p (moves ++ (m ∷ [])) s ≡ step p m (run p moves s)
run-of-more p [] m s = refl
run-of-more p (n ∷ moves) m s = run-of-more p moves m (step p n s)

pub run-goes-on : (p : Program) (s : State) → RunsGoOn p s
run-goes-on p s moves E can = (moves ++ (can.move ∷ []), subst E (sym (run-of-more p moves can.move s)) can.brings)
