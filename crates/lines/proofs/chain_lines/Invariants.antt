-- The chains of all declared labels, one after the other. Assumes nothing.
use mathlib.Core.Path.{◌≡◌}
use lib.ListN.{take}
use Rattle.rows.specs.Edition.{labels}
use Rattle.rules.specs.Rule.{over, chosen}
use Rattle.format.specs.Sheet.{declared}
use Rattle.program.specs.Program.{Program}
use Rattle.analysis.specs.Rules.{chain_rule}
use Rattle.uses.specs.Use.{tells}
use Rattle.shared.specs.Apply.{Applies}
use Rattle.lines.proofs.chain_lines.Given as goal

abbrev pub invariant-loop-l : goal.invariant-loop-l
invariant-loop-l l =
    (p : Program) → p.sheet.types ≡ take (labels l.wide) l.types
    → Applies l.wide l.o p (tells l.wide (over (chosen (declared p.sheet) l.l) (chain_rule p.sheet))) l.initial.t l.initial.keeps l.t l.keeps l.grew
