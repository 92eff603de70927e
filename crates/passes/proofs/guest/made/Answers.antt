-- How the guest makes a function: one of two statements. Assumes nothing.
use Rattle.passes.proofs.Guests.{three_labels}
use Rattle.passes.proofs.guest.made.Goals as goal

pub returns-then-prototyped : goal.returns-then-prototyped
returns-then-prototyped c = record { result_value = λ p key. rw c.if-prototyped.true; in_bounds = λ wide. (three_labels wide, three_labels wide) }

pub returns-else-prototyped : goal.returns-else-prototyped
returns-else-prototyped c = record { result_value = λ p key. rw c.if-prototyped.false; in_bounds = λ wide. three_labels wide }
