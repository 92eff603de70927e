-- Reading variable v gives what S(v) allows, whichever frame it is found in; writing what S(v) allows leaves the state described. Assumes nothing.
use mathlib.Core.Path.{◌≡◌, refl}
use mathlib.Core.List.{List, [], ◌∷◌}
use mathlib.Core.Option.{Option, none, some}
use Prim.Native.Nat.{ℕ, zero, suc, ◌<◌}
use native.Mathlib.Omega.{arith}
use lib.ListN.{length, length-set, replicate}
use Rattle.rules.specs.Table.{Table}
use Rattle.rules.specs.Told.{Closed}
use Rattle.program.specs.Program.{Program}
use Rattle.analysis.specs.Rules.{passing}
use Rattle.machine.specs.State.{Value, primitive, Object, Frame, State, no_frame, object_at, frame_at, with_value, with_variable}
use Rattle.machine.specs.Lookup.{nearest_of}
use Rattle.machine.specs.Variable.{Place, nowhere, bag, named, local, place_of, read_in, read_place, read, read_all, write_in, write_place, write, write_all}
use Rattle.soundness.specs.Described.{H, label_in, Allowed, primitive-allowed, Described}
use Rattle.machine.proofs.Laws.Writing.{field-set}
use Rattle.soundness.proofs.Values.{Keeps, keeps-refl, keeps-set, allowed-kept, allowed-more, any-allowed, element-allowed}
use Rattle.soundness.proofs.States.{described-value, described-variable, described-bagged}
use Rattle.soundness.proofs.Setting.{Setting}

-- ---- what writing leaves as it is

-- labels of objects, the number of frames and their scopes
pub record Untouched (s s' : State) : Type 0 where
  pub objects-kept : Keeps s.objects s'.objects
  pub frames-length : length s'.frames ≡ length s.frames
  pub scopes-kept : (i : ℕ) → (frame_at s' i).scope ≡ (frame_at s i).scope

untouched-refl : (s : State) → Untouched s s
untouched-refl s = record { objects-kept = keeps-refl s.objects; frames-length = refl; scopes-kept = λ i. refl }

pub write-untouched : (p : Program) (s : State) (f v : ℕ) (x : Value) → Untouched s (write p s f v x)
write-untouched p s f v x = go (place_of p v)
  where
    at : (g : Option ℕ) → Untouched s (write_in s g v x)
    at none = untouched-refl s
    at (some g) =
        record {
          objects-kept = keeps-refl s.objects;
          frames-length = length-set s.frames g _;
          scopes-kept = field-set (λ (z : Frame). z.scope) s.frames g (with_variable (frame_at s g) v x) no_frame refl;
        }

    go : (q : Place) → Untouched s (write_place q s f v x)
    go nowhere = untouched-refl s
    go bag = record { objects-kept = keeps-refl s.objects; frames-length = refl; scopes-kept = λ i. refl }
    go (named n) =
        record { objects-kept = keeps-set s.objects 1 (with_value (object_at s 1) n 0 x) refl; frames-length = refl; scopes-kept = λ i. refl }
    go (local k) = at (nearest_of s f k)

-- ---- values for variables

-- each value is allowed by its variable
pub data AllAllowed (t : Table) (os : List Object) : List ℕ → List Value → Type 0 where
  all_none : AllAllowed t os [] []
  all_more : (v : ℕ) (x : Value) (vs : List ℕ) (xs : List Value) → Allowed t os v x → AllAllowed t os vs xs → AllAllowed t os (v ∷ vs) (x ∷ xs)

pub all-kept : {t : Table} {os os' : List Object} {vs : List ℕ} {xs : List Value} → Keeps os os' → AllAllowed t os vs xs → AllAllowed t os' vs xs
all-kept k all_none = all_none
all-kept k (all_more v x vs xs h hs) = all_more v x vs xs (allowed-kept k h) (all-kept k hs)

-- values for variables that they are written to, one after the other; each is allowed where it goes
pub data Fitting (t : Table) (os : List Object) : List ℕ → List Value → Type 0 where
  no-variable : (xs : List Value) → Fitting t os [] xs
  no_value : (v : ℕ) (vs : List ℕ) → Fitting t os (v ∷ vs) []
  one_more : (v : ℕ) (x : Value) (vs : List ℕ) (xs : List Value) → (0 < v → Allowed t os v x) → Fitting t os vs xs → Fitting t os (v ∷ vs) (x ∷ xs)

pub fitting-kept : {t : Table} {os os' : List Object} {vs : List ℕ} {xs : List Value} → Keeps os os' → Fitting t os vs xs → Fitting t os' vs xs
fitting-kept k (no-variable xs) = no-variable xs
fitting-kept k (no_value v vs) = no_value v vs
fitting-kept k (one_more v x vs xs h hs) = one_more v x vs xs (λ q. allowed-kept k (h q)) (fitting-kept k hs)

-- arguments fit the formals, where the table holds what the rule of a call says of them
pub passed-fitting : (L : ℕ) {t : Table} {os : List Object} (p : Program) (ys : List ℕ) {vs : List ℕ} {xs : List Value} → Closed L t (passing p ys vs)
    → AllAllowed t os vs xs → Fitting t os ys xs
passed-fitting L p [] c h = no-variable _
passed-fitting L p (y ∷ ys) c all_none = no_value y ys
passed-fitting L p (y ∷ ys) c (all_more v x vs xs h hs) = one_more y x ys xs (λ q. allowed-more (c.0 q) h) (passed-fitting L p ys c.1 hs)

pub primitives-fitting : {t : Table} {os : List Object} (ys : List ℕ) (n : ℕ) → Fitting t os ys (replicate n primitive)
primitives-fitting [] n = no-variable (replicate n primitive)
primitives-fitting (y ∷ ys) zero = no_value y ys
primitives-fitting (y ∷ ys) (suc n) = one_more y primitive ys (replicate n primitive) (λ q. primitive-allowed) (primitives-fitting ys n)

module _ {L : ℕ} {t : Table} {p : Program} (w : Setting L t p) where
  pub read-allowed : (s : State) (f v i : ℕ) → Described L t p s → Allowed t s.objects v (read p s f v i)
  read-allowed s f v i d = go (place_of p v) refl
    where
      at : (g : Option ℕ) → Allowed t s.objects v (read_in s g v)
      at none = primitive-allowed
      at (some g) = (d.frames-described g).variables-allowed v

      positive : (u n : ℕ) → place_of p u ≡ named n → 0 < u
      positive zero n e = let z : ◌≡◌ {A = ℕ} 0 1 = cc in absurd (omega arith)
      positive (suc u) n e = omega arith

      go : (q : Place) → place_of p v ≡ q → Allowed t s.objects v (read_place q s f v i)
      go nowhere e = primitive-allowed
      go bag e = element-allowed (s.bags v) (d.bags-allowed v) i
      go (named n) e =
          let h = any-allowed ((d.objects-described 1).values-allowed n 0) in
          allowed-more ((w.name-rule v n e).0 (positive v n e)) (rw d.first-objects.global-label at h)
      go (local k) e = at (nearest_of s f k)

  pub read-all-allowed : (s : State) (f : ℕ) (vs : List ℕ) (which : ℕ → ℕ) (i : ℕ) → Described L t p s
      → AllAllowed t s.objects vs (read_all p s f vs which i)
  read-all-allowed s f [] which i d = all_none
  read-all-allowed s f (v ∷ vs) which i d = all_more v _ vs _ (read-allowed s f v (which i) d) (read-all-allowed s f vs which (suc i) d)

  pub write-described : (s : State) (f v : ℕ) (x : Value) → Described L t p s → (0 < v → Allowed t s.objects v x) → Described L t p (write p s f v x)
  write-described s f zero x d h = d
  write-described s f (suc v) x d h = go (place_of p (suc v)) refl
    where
      hx : Allowed t s.objects (suc v) x
      hx = h (omega arith)

      at : (g : Option ℕ) → Described L t p (write_in s g (suc v) x)
      at none = d
      at (some g) = described-variable s g (suc v) x d hx

      go : (q : Place) → place_of p (suc v) ≡ q → Described L t p (write_place q s f (suc v) x)
      go nowhere e = d
      go bag e = described-bagged s (suc v) x d hx
      go (named n) e =
          let h' : Allowed t s.objects (H L (label_in s.objects 1) n) x =
          rw d.first-objects.global-label (allowed-more ((w.name-rule (suc v) n e).1 (omega arith)) hx) in
          described-value s 1 n 0 x d h'
      go (local k) e = at (nearest_of s f k)

  pub write-all-described : (s : State) (f : ℕ) (vs : List ℕ) (xs : List Value) → Described L t p s → Fitting t s.objects vs xs
      → Described L t p (write_all p s f vs xs)
  write-all-described s f [] xs d h = d
  write-all-described s f (v ∷ vs) [] d h = d
  write-all-described s f (v ∷ vs) (x ∷ xs) d (one_more _ _ _ _ h hs) =
      write-all-described (write p s f v x) f vs xs (write-described s f v x d h) (fitting-kept (write-untouched p s f v x).objects-kept hs)
