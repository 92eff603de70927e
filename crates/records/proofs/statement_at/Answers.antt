-- What the record here says: its bytes are in their ranges. Assumes nothing.
use Rattle.std.proofs.Common.{rules}
use Rattle.records.proofs.Walks.{walk-room, body-range, slice-body}
use Rattle.records.proofs.statement_at.Goals as goal

pub slice_bounds-statement_of-end : goal.slice_bounds-statement_of-end
slice_bounds-statement_of-end c =
    let room = walk-room c.requires.0 c.requires.1 in
    search rules

pub statement_of-requires : goal.statement_of-requires
statement_of-requires c = rw (slice-body _ _ _ c.after.ensures) (body-range c.requires.0 c.requires.1)

pub returns-clause-at_value : goal.returns-clause-at_value
returns-clause-at_value c = rw (slice-body _ _ _ c.after.ensures) at c.statement_of.ensures.body_value
