-- The search: each turn adds only what the rules tell. Assumes nothing.
use mathlib.Core.Path.{◌≡◌}
use lib.ListN.{length}
use Rattle.rows.specs.Edition.{labels}
use Rattle.host.specs.Lays.{Known}
use Rattle.program.specs.Program.{program_in}
use Rattle.turns.specs.Steps.{StepsFor}
use Rattle.turns.proofs.search_on.Given as goal

abbrev pub invariant-turns : goal.invariant-turns
invariant-turns l =
    (length l.t ≡ length l.initial.t)
    × (Known l.wide (program_in (labels l.wide) l.file) l.host → StepsFor l.wide l.file l.initial.t l.initial.keeps l.t l.keeps)
