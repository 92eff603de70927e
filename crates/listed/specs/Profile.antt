-- The verdicts on these files, computed. Assumes nothing.
use Rattle.std.specs.Prelude.{◌≡◌, refl, [], ◌∷◌}
use Rattle.answer.specs.Outcome.{confined, leaks, refused}
use Rattle.listed.specs.Listed.{judged_in, verdict_of, by-sixteen}
use Rattle.listed.specs.ProfileFiles.{only, field, listener, constructor}

-- held to class 1, which has no name, the guest keeps its one object and no property; where name 3 is of class 1, by a record before or behind, its
-- functions have their prototype property; class 0 has every name
pub no-name-line : verdict_of (only (9 ∷ 1 ∷ [])) ≡ confined 13
unfolding judged_in only
no-name-line = by-sixteen (only (9 ∷ 1 ∷ [])) refl

pub prototype-name-line : verdict_of (only (9 ∷ 1 ∷ 1 ∷ 3 ∷ 3 ∷ [])) ≡ confined 14
unfolding judged_in only
prototype-name-line = by-sixteen (only (9 ∷ 1 ∷ 1 ∷ 3 ∷ 3 ∷ [])) refl

pub prototype-name-before-line : verdict_of (only (1 ∷ 3 ∷ 3 ∷ 9 ∷ 1 ∷ [])) ≡ confined 14
unfolding judged_in only
prototype-name-before-line = by-sixteen (only (1 ∷ 3 ∷ 3 ∷ 9 ∷ 1 ∷ [])) refl

pub other-name-line : verdict_of (only (9 ∷ 1 ∷ 1 ∷ 4 ∷ 3 ∷ [])) ≡ confined 14
unfolding judged_in only
other-name-line = by-sixteen (only (9 ∷ 1 ∷ 1 ∷ 4 ∷ 3 ∷ [])) refl

pub every-name-line : verdict_of (only (9 ∷ 0 ∷ [])) ≡ confined 45
unfolding judged_in only
every-name-line = by-sixteen (only (9 ∷ 0 ∷ [])) refl

pub guest-forbidden-line : verdict_of (only (9 ∷ 7 ∷ 3 ∷ 3 ∷ [])) ≡ leaks 3 3 13
unfolding judged_in only
guest-forbidden-line = by-sixteen (only (9 ∷ 7 ∷ 3 ∷ 3 ∷ [])) refl

-- "A c above 7 is refused 5, a repeat 6."
pub no-class-line : verdict_of (only (9 ∷ 8 ∷ [])) ≡ refused 5 0
unfolding judged_in only
no-class-line = refl

pub no-class-repeated-line : verdict_of (only (9 ∷ 0 ∷ 9 ∷ 9 ∷ [])) ≡ refused 5 2
unfolding judged_in only
no-class-repeated-line = refl

pub repeated-line : verdict_of (only (9 ∷ 0 ∷ 9 ∷ 1 ∷ [])) ≡ refused 6 2
unfolding judged_in only
repeated-line = refl

-- the guest cannot load by a name that is not of its class, and there are fewer alarms
pub field-line : verdict_of (field []) ≡ leaks 5 3 315
unfolding judged_in field
field-line = by-sixteen (field []) refl

pub field-held-line : verdict_of (field (9 ∷ 1 ∷ [])) ≡ confined 23
unfolding judged_in field
field-held-line = by-sixteen (field (9 ∷ 1 ∷ [])) refl

pub field-named-line : verdict_of (field (9 ∷ 1 ∷ 1 ∷ 4 ∷ 3 ∷ [])) ≡ leaks 5 3 34
unfolding judged_in field
field-named-line = by-sixteen (field (9 ∷ 1 ∷ 1 ∷ 4 ∷ 3 ∷ [])) refl

pub field-other-class-line : verdict_of (field (9 ∷ 2 ∷ 1 ∷ 4 ∷ 3 ∷ [])) ≡ confined 23
unfolding judged_in field
field-other-class-line = by-sixteen (field (9 ∷ 2 ∷ 1 ∷ 4 ∷ 3 ∷ [])) refl

-- nor can it store by one
pub listener-line : verdict_of (listener [] 4) ≡ leaks 5 3 327
unfolding judged_in listener
listener-line = by-sixteen (listener [] 4) refl

pub listener-held-line : verdict_of (listener (9 ∷ 1 ∷ []) 4) ≡ confined 27
unfolding judged_in listener
listener-held-line = by-sixteen (listener (9 ∷ 1 ∷ []) 4) refl

pub listener-named-line : verdict_of (listener (9 ∷ 1 ∷ 1 ∷ 4 ∷ 3 ∷ []) 4) ≡ leaks 5 3 46
unfolding judged_in listener
listener-named-line = by-sixteen (listener (9 ∷ 1 ∷ 1 ∷ 4 ∷ 3 ∷ []) 4) refl

-- what hangs on the prototype property: the host finds it in a function of the guest's
pub property-line : verdict_of (listener [] 3) ≡ leaks 5 3 327
unfolding judged_in listener
property-line = by-sixteen (listener [] 3) refl

pub property-absent-line : verdict_of (listener (9 ∷ 1 ∷ []) 3) ≡ confined 27
unfolding judged_in listener
property-absent-line = by-sixteen (listener (9 ∷ 1 ∷ []) 3) refl

pub property-named-line : verdict_of (listener (9 ∷ 1 ∷ 1 ∷ 3 ∷ 3 ∷ []) 3) ≡ leaks 5 3 48
unfolding judged_in listener
property-named-line = by-sixteen (listener (9 ∷ 1 ∷ 1 ∷ 3 ∷ 3 ∷ []) 3) refl

-- its new looks up name 3 all the same
pub constructor-named-line : verdict_of (constructor (9 ∷ 1 ∷ 1 ∷ 4 ∷ 3 ∷ []) 4) ≡ leaks 5 3 52
unfolding judged_in constructor
constructor-named-line = by-sixteen (constructor (9 ∷ 1 ∷ 1 ∷ 4 ∷ 3 ∷ []) 4) refl

pub constructor-held-line : verdict_of (constructor (9 ∷ 1 ∷ 1 ∷ 4 ∷ 3 ∷ []) 9) ≡ confined 42
unfolding judged_in constructor
constructor-held-line = by-sixteen (constructor (9 ∷ 1 ∷ 1 ∷ 4 ∷ 3 ∷ []) 9) refl
