-- What a run never takes back: objects keep label, prototype and frame, frames keep scope, outward frame and caller, and what was thrown or put in a
-- bag stays there. Assumes nothing.
use Rattle.std.specs.Prelude.{◌≡◌, ℕ, ◌≤◌, ◌<◌, length}
use mathlib.Core.List.{Memᴰ}
use Rattle.machine.specs.State.{Value, Object, Frame, State, object_at, frame_at}

-- "a prototype fixed when made"
pub record SameObject (o o' : Object) : Type 0 where
  pub same-label : o'.label ≡ o.label
  pub same-prototype : o'.prototype ≡ o.prototype
  pub same_kept : o'.kept ≡ o.kept

-- thrown values are never used up
pub record SameFrame (f f' : Frame) : Type 0 where
  pub same-scope : f'.scope ≡ f.scope
  pub same-outward : f'.outward ≡ f.outward
  pub same-caller : f'.caller ≡ f.caller
  pub thrown-stays : (x : Value) → Memᴰ x f.thrown → Memᴰ x f'.thrown

-- s' is what became of s; "any value ever put in its bag"
pub record Grown (s s' : State) : Type 0 where
  pub more-objects : length s.objects ≤ length s'.objects
  pub same-objects : (i : ℕ) → i < length s.objects → SameObject (object_at s i) (object_at s' i)
  pub more-frames : length s.frames ≤ length s'.frames
  pub same-frames : (f : ℕ) → f < length s.frames → SameFrame (frame_at s f) (frame_at s' f)
  pub bags-stay : (b : ℕ) (x : Value) → Memᴰ x (s.bags b) → Memᴰ x (s'.bags b)
