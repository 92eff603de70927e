-- The two lookups outward find what they are to find, however far away it is: their fuel never shows. Assumes nothing.
use mathlib.Core.Path.{◌≡◌, refl}
use mathlib.Core.List.{List}
use mathlib.Core.Option.{Option, none, some}
use Prim.Native.Nat.{ℕ, zero, suc, ◌<◌}
use native.Mathlib.Omega.{arith}
use borrow.Author.Tests.{eq-eqb, ne_eqb}
use lib.ListN.{length}
use Rattle.machine.specs.State.{Value, primitive, object, Object, Frame, State, frame_at}
use Rattle.machine.specs.Lookup.{nearest, nearest_of, find, find_of}
use Rattle.machine.specs.Seen.{Nearest, itself, outward, nowhere, Finds, own, inherited, lacking}

-- ---- to the nearest frame

pub starts-there : {s : State} {k f : ℕ} {r : Option ℕ} → Nearest s k f r → f < length s.frames
starts-there (itself f l e) = l
starts-there (outward f g r l n e o h) = l
starts-there (nowhere f l n e) = l

past-the-last : (fs : List Frame) (d k : ℕ) → nearest fs d none k ≡ none
past-the-last fs zero k = refl
past-the-last fs (suc d) k = refl

nearest-within : {s : State} {k f : ℕ} {r : Option ℕ} (d : ℕ) → f < d → Nearest s k f r → nearest s.frames d (some f) k ≡ r
nearest-within zero q h = absurd (omega arith)
nearest-within (suc d) q (itself f l e) = rw (eq-eqb _ _ e)
nearest-within {s} {k} (suc d) q (outward f g r l n e o h) = rw (ne_eqb (frame_at s f).scope k n, e) (nearest-within d (omega arith) h)
nearest-within {s} {k} (suc d) q (nowhere f l n e) = rw (ne_eqb (frame_at s f).scope k n, e) (past-the-last s.frames d k)

-- "A variable is found in the nearest frame, outward, of its owner scope"
pub nearest-found : {s : State} {k f : ℕ} {r : Option ℕ} → Nearest s k f r → nearest_of s f k ≡ r
nearest-found {s} h = nearest-within (length s.frames) (starts-there h) h

-- ---- along the prototypes

pub begins-there : {s : State} {n j i : ℕ} {r : Option Value} → Finds s n j i r → i < length s.objects
begins-there (own i u l e) = l
begins-there (inherited i q r l e e' o h) = l
begins-there (lacking i l e e') = l

past-the-first : (os : List Object) (d n j : ℕ) → find os d primitive n j ≡ none
past-the-first os zero n j = refl
past-the-first os (suc d) n j = refl

finds-within : {s : State} {n j i : ℕ} {r : Option Value} (d : ℕ) → i < d → Finds s n j i r → find s.objects d (object i) n j ≡ r
finds-within zero q h = absurd (omega arith)
finds-within (suc d) q (own i u l e) = rw e
finds-within (suc d) q (inherited i _ r l e e' o h) = rw (e, e') (finds-within d (omega arith) h)
finds-within {s} {n} {j} (suc d) q (lacking i l e e') = rw (e, e') (past-the-first s.objects d n j)

-- "Load looks outward along the prototypes"
pub value_found : {s : State} {n j i : ℕ} {r : Option Value} → Finds s n j i r → find_of s (object i) n j ≡ r
value_found {s} h = finds-within (length s.objects) (begins-there h) h
