-- What is told by a pair: what stands there, and what was read of the rest. Assumes nothing.
use Rattle.kept.proofs.Tellings.{tellings, tellings-known}
use Rattle.shared.proofs.Families.{rest_part}
use Rattle.shared.proofs.told.told.Goals as goal

pub returns-in-Told : goal.returns-in-Told
returns-in-Told g c p slot t looked here reads = tellings-known p t looked here c.in-Told.ensures.1

pub returns-in-Open : goal.returns-in-Open
returns-in-Open g c p slot t looked here reads =
    tellings p t looked here c.in-Open.ensures (reads _ _ (rest_part c.in-Open.ensures) c.read-more.ensures) c.answer.ensures
