-- Laws of copy, grant, load and store: for every program, state, frame and choice, what a step can bring about. Assumes nothing.
use mathlib.Core.Path.{◌≡◌, refl}
use mathlib.Core.List.{[], ◌∷◌}
use mathlib.Core.Bool.{true, false}
use mathlib.Core.Option.{Option, none}
use Prim.Native.Nat.{ℕ, ◌<◌}
use native.Mathlib.Omega.{arith}
use borrow.Author.Tests.{eq-eqb}
use lib.ListN.{length, length-append, get_or-append}
use lib.Seq.{get_or-set_same, get_or-append_seam}
use Rattle.program.specs.Program.{Program, names_of}
use Rattle.machine.specs.State.{Value, object, Object, State, no_object, object_at, or_primitive, with_object, set_object, with_value}
use Rattle.machine.specs.Property.{prototype_for, fresh}
use Rattle.machine.specs.Seen.{Finds, own, inherited, lacking}
use Rattle.machine.specs.Laws.{GrantsToGuest, GrantsFromGuest, Copies, Loads, LoadsOnPrimitive, Stores}
use Rattle.machine.specs.Effect.{Gives, gives_found, gives-primitive, Stored}
use Rattle.machine.proofs.Laws.Grown.{grown-object}
use Rattle.machine.proofs.Laws.Outward.{begins-there, value_found}
use Rattle.machine.proofs.Laws.Reading.{before, can-read}
use Rattle.machine.proofs.Laws.Writing.{writable-stays, stored-elsewhere}
use Rattle.machine.proofs.Laws.Sparing.{spares-object, puts, put-since}
use Rattle.machine.proofs.Laws.Making.{can-take}
use Rattle.machine.proofs.Laws.Acting.{fields, pair, granting, acts, is_member}

-- ---- from a fresh object

finds-more : {s : State} {n j i : ℕ} {r : Option Value} (o : Object) → Finds s n j i r → Finds (with_object s o) n j i r
finds-more {s} o (own i x l e) =
    own i x (omega (arith, length-append s.objects (o ∷ []))) (rw (get_or-append s.objects (o ∷ []) no_object i l) e)
finds-more {s} o (inherited i q r l e e' h d) =
    let same = get_or-append s.objects (o ∷ []) no_object i l in
    inherited i q r (omega (arith, length-append s.objects (o ∷ []))) (rw same e) (rw same e') h (finds-more o d)
finds-more {s} o (lacking i l e e') =
    let same = get_or-append s.objects (o ∷ []) no_object i l in
    lacking i (omega (arith, length-append s.objects (o ∷ []))) (rw same e) (rw same e')

-- an object with nothing in it finds what its prototype finds
finds-from : {s : State} {n j q : ℕ} {r : Option Value} (o : Object) → o.values n j ≡ none → o.prototype ≡ object q → Finds s n j q r
    → Finds (with_object s o) n j (length s.objects) r
finds-from {s} {q = q} {r = r} o e e' d =
    let seam = get_or-append_seam s.objects o [] no_object in
    inherited (length s.objects) q r (omega (arith, length-append s.objects (o ∷ []))) (rw seam e) (rw seam e') (begins-there d) (finds-more o d)

given : {r : Option Value} {x : Value} → Gives r x → or_primitive r ≡ x
given (gives_found x) = refl
given gives-primitive = refl

-- ---- a value under a pair

stores : {s : State} (i n j : ℕ) (x : Value) → i < length s.objects → Stored s (set_object s i (with_value (object_at s i) n j x)) i n j x
stores {s} i n j x l =
    record {
      stored = rw (get_or-set_same s.objects i (with_value (object_at s i) n j x) no_object l, eq-eqb n n refl, eq-eqb j j refl);
      other-pairs = λ i' n' j' e. stored-elsewhere s i n j x i' n' j' e;
      other-variables = λ f v. refl;
    }

-- ---- copy and grant

pub grant-copies-to-guest : (p : Program) (s : State) → GrantsToGuest p s
grant-copies-to-guest p s f v b x here says h w = let c = can-read h in acts says here refl (granting c.0 true) (λ _. rw c.1 (puts x w))

pub grant-copies-from-guest : (p : Program) (s : State) → GrantsFromGuest p s
grant-copies-from-guest p s f v b x here says h w = let c = can-read h in acts says here refl (granting c.0 false) (λ _. rw c.1 (puts x w))

pub copy-copies : (p : Program) (s : State) (f k : ℕ) → Copies p s f k
copy-copies p s f k here y v x says h w = let c = can-read h in acts says here refl (fields (λ j. c.0)) (λ _. rw c.1 (puts x w))

-- ---- load and store

pub load-loads : (p : Program) (s : State) (f k : ℕ) → Loads p s f k
load-loads p s f k here y v key w i n j r x says h m d g a =
    let c = can-read h in
    acts says here refl (pair (λ j. c.0) n j 0) (λ _. rw (is_member n (names_of p.sheet key) m, c.1, value_found d, given g) (puts x a))

pub load-loads-on-primitive : (p : Program) (s : State) (f k : ℕ) → LoadsOnPrimitive p s f k
load-loads-on-primitive p s f k here y v key w q n j r x says h m t d g a =
    let c = can-read h in
    let z = can-take t in
    let o = fresh w (prototype_for p w z.0) f in
    let put = puts x (writable-stays (grown-object s o) a) in
    acts says here refl (pair (λ j. c.0) n j z.0)
    (λ _.
    rw (is_member n (names_of p.sheet key) m, c.1, value_found (finds-from o refl z.1 d), given g) (put-since (grown-object s o) (spares-object s o) put))

pub store-stores : (p : Program) (s : State) (f k : ℕ) → Stores p s f k
store-stores p s f k here v key a i n j x says h h' l b m =
    let c = can-read h in
    let c' = can-read h' in
    acts says here refl (pair (before c.0 (λ j. c'.0)) n j 0) (λ _. rw (is_member n (names_of p.sheet key) m, c.1, c'.1, b) (stores i n j x l))
