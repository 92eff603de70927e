-- The verdicts on these files, computed. Assumes nothing.
use Rattle.std.specs.Prelude.{◌≡◌, refl}
use Rattle.answer.specs.Outcome.{confined, leaks, refused}
use Rattle.listed.specs.Listed.{judged_in, verdict_of, by-sixteen}
use Rattle.listed.specs.OutsideFiles.{loaded_under, hidden_field, open_field, wrapped_under_no_name, stored_under}

-- name 4 is of class 1, and is outside class 7
pub loaded-inside-line : verdict_of (loaded_under 129) ≡ confined 152
unfolding judged_in loaded_under
loaded-inside-line = by-sixteen (loaded_under 129) refl

pub loaded-outside-seven-line : verdict_of (loaded_under 143) ≡ confined 152
unfolding judged_in loaded_under
loaded-outside-seven-line = by-sixteen (loaded_under 143) refl

pub loaded-outside-one-line : verdict_of (loaded_under 137) ≡ confined 52
unfolding judged_in loaded_under
loaded-outside-one-line = by-sixteen (loaded_under 137) refl

-- "so 136 means no name"; "136 now reads and 144 is refused 5"
pub loaded-under-no-name-line : verdict_of (loaded_under 136) ≡ confined 52
unfolding judged_in loaded_under
loaded-under-no-name-line = by-sixteen (loaded_under 136) refl

pub no-key-line : verdict_of (loaded_under 144) ≡ refused 5 28
unfolding judged_in loaded_under
no-key-line = refl

-- confined by the list alone: with the name off the list the journal is the guest's
pub hidden-line : verdict_of hidden_field ≡ confined 52
unfolding judged_in hidden_field
hidden-line = by-sixteen hidden_field refl

pub unlisted-line : verdict_of open_field ≡ leaks 5 3 152
unfolding judged_in open_field
unlisted-line = by-sixteen open_field refl

pub wrapped-line : verdict_of wrapped_under_no_name ≡ leaks 5 3 148
unfolding judged_in wrapped_under_no_name
wrapped-line = by-sixteen wrapped_under_no_name refl

-- a store of the journal under the names outside class 1, of which name 4 is one or is not; the guest gets what is under name 4
pub stored-inside-line : verdict_of (stored_under 137 3) ≡ confined 117
unfolding judged_in stored_under
stored-inside-line = by-sixteen (stored_under 137 3) refl

pub stored-outside-line : verdict_of (stored_under 137 5) ≡ leaks 5 3 219
unfolding judged_in stored_under
stored-outside-line = by-sixteen (stored_under 137 5) refl

pub stored-under-no-name-line : verdict_of (stored_under 136 5) ≡ confined 55
unfolding judged_in stored_under
stored-under-no-name-line = by-sixteen (stored_under 136 5) refl
