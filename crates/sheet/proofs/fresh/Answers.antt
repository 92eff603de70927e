-- `sheet::fresh` meets its contract. Assumes nothing.
use Rattle.format.specs.Sheet.{start}
use Rattle.sheet.proofs.Laws.{begun}
use Rattle.sheet.proofs.fresh.Goals as goal

pub returns : goal.returns
unfolding start
returns c = begun c.args.wide _ c.none.ensures
