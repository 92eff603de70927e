-- The lines, or a record that begins where the position says. Assumes nothing.
use Rattle.rows.specs.Edition.{labels}
use Rattle.format.proofs.File.{readable-read}
use Rattle.indexing.specs.Begins.{BeginsAt}
use Rattle.turns.proofs.Turning.{steps-lines, steps-record, steps-part}
use Rattle.turns.proofs.single.use_at.Goals as goal

pub returns-in_default-clause-steps_for : goal.returns-in_default-clause-steps_for
returns-in_default-clause-steps_for c known = steps-lines (c.lines.ensures _ known)

pub statement_at-s-requires : goal.statement_at-s-requires
statement_at-s-requires c =
    let named : BeginsAt (labels c.args.wide) c.args.file.now c.in-Record.at = rw c.in-Record.is at c.requires.2 in
    (named.0, named.1, (readable-read (labels c.args.wide) c.args.file.now c.requires.1).short)

pub returns-in-Some-clause-steps_for : goal.returns-in-Some-clause-steps_for
returns-in-Some-clause-steps_for c known =
    let named : BeginsAt (labels c.args.wide) c.args.file.now c.in-Record.at = rw c.in-Record.is at c.requires.2 in
    steps-part c.statement_at-s.result named.0 named.1 (c.statement_at-s.ensures.at_value _) (c.apply_part.ensures.reached _ known.serves.lays)

pub returns-in-None-clause-steps_for : goal.returns-in-None-clause-steps_for
returns-in-None-clause-steps_for c known =
    let named : BeginsAt (labels c.args.wide) c.args.file.now c.in-Record.at = rw c.in-Record.is at c.requires.2 in
    steps-record c.statement_at-s.result named.0 named.1 (c.statement_at-s.ensures.at_value _) (c.apply.ensures _ known.serves)
