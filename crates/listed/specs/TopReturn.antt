-- The verdicts on these files, computed. Assumes nothing.
use Rattle.std.specs.Prelude.{◌≡◌, refl}
use Rattle.answer.specs.Outcome.{confined, leaks, refused}
use Rattle.listed.specs.Listed.{judged_in, verdict_of, by-sixteen}
use Rattle.listed.specs.TopReturnFiles.{only_return, journal_returned, results_granted, all_returned}

-- "It is to be read": the value is 0 or declared, and 3 is no scope
pub returned-nothing-line : verdict_of (only_return 0 0) ≡ confined 45
unfolding judged_in only_return
returned-nothing-line = by-sixteen (only_return 0 0) refl

pub returned-undeclared-line : verdict_of (only_return 0 9) ≡ refused 3 0
unfolding judged_in only_return
returned-undeclared-line = refl

pub returned-by-the-guest-line : verdict_of (only_return 3 0) ≡ refused 4 0
unfolding judged_in only_return
returned-by-the-guest-line = refl

-- the function of listed file 8 returns the journal to the guest; the top level returns it to nobody
pub returned-by-function-line : verdict_of (journal_returned 6) ≡ leaks 5 3 316
unfolding judged_in journal_returned
returned-by-function-line = by-sixteen (journal_returned 6) refl

pub returned-at-the-top-line : verdict_of (journal_returned 0) ≡ confined 152
unfolding judged_in journal_returned
returned-at-the-top-line = by-sixteen (journal_returned 0) refl

-- "no effect on any fact": neither label 0 nor any function hands back what the top level returns
pub results-granted-line : verdict_of results_granted ≡ confined 54
unfolding judged_in results_granted
results-granted-line = by-sixteen results_granted refl

pub all-returned-line : verdict_of all_returned ≡ confined 54
unfolding judged_in all_returned
all-returned-line = by-sixteen all_returned refl
