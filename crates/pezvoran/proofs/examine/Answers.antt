-- `pezvoran::examine` meets its contract: rows of one word are the words. Assumes nothing.
use mathlib.Core.Path.{ap, ◌∙◌}
use Rattle.rows.proofs.Run.{rows-one}
use Rattle.verdicts.specs.Check.{check_outcome}
use Rattle.pezvoran.proofs.examine.Goals as goal

pub returns : goal.returns
returns c =
    let a = c.args in
    c.examine_here.ensures ∙ ap (check_outcome 64 a.file.now) (rows-one a.table.now)
