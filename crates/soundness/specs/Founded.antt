-- Lookups never run dry: every reference is to something that is there, and the prototype of an object and the outward frame of a frame are older
-- than it. Assumes nothing.
use mathlib.Core.List.{Memᴰ}
use Rattle.std.proofs.Math.Option.{Option, none, some}
use Rattle.std.specs.Prelude.{ℕ, ◌≤◌, ◌<◌, length}
use Rattle.machine.specs.State.{Value, primitive, object, Object, Caller, Frame, State, object_at, frame_at}

-- a primitive, or one of the first n objects
pub data ObjectBelow (n : ℕ) : Value → Type 0 where
  primitive-below : ObjectBelow n primitive
  object-below : (i : ℕ) → i < n → ObjectBelow n (object i)

pub data AnyBelow (n : ℕ) : Option Value → Type 0 where
  none_below : AnyBelow n none
  value-below : (x : Value) → ObjectBelow n x → AnyBelow n (some x)

-- no frame, or one of the first n
pub data FrameBelow (n : ℕ) : Option ℕ → Type 0 where
  no-frame-below : FrameBelow n none
  frame_below : (f : ℕ) → f < n → FrameBelow n (some f)

pub data CallerBelow (n : ℕ) : Option Caller → Type 0 where
  no-caller-below : CallerBelow n none
  caller-below : (c : Caller) → c.frame < n → CallerBelow n (some c)

-- object i among `objects` objects and `frames` frames: its prototype is older than it
pub record ObjectFounded (objects frames i : ℕ) (o : Object) : Type 0 where
  pub prototype-older : ObjectBelow i o.prototype
  pub values-there : (n j : ℕ) → AnyBelow objects (o.values n j)
  pub kept_there : o.kept < frames

-- frame f: its outward frame and its caller are older than it
pub record FrameFounded (objects f : ℕ) (frame : Frame) : Type 0 where
  pub outward-older : FrameBelow f frame.outward
  pub caller-older : CallerBelow f frame.caller
  pub variables-there : (v : ℕ) → ObjectBelow objects (frame.variables v)
  pub thrown-there : (x : Value) → Memᴰ x frame.thrown → ObjectBelow objects x

pub record Founded (s : State) : Type 0 where
  -- the objects of labels 1, 0, 2 and 4
  pub four-objects : 4 ≤ length s.objects
  pub objects-founded : (i : ℕ) → i < length s.objects → ObjectFounded (length s.objects) (length s.frames) i (object_at s i)
  pub frames-founded : (f : ℕ) → f < length s.frames → FrameFounded (length s.objects) f (frame_at s f)
  pub bags-there : (b : ℕ) (x : Value) → Memᴰ x (s.bags b) → ObjectBelow (length s.objects) x
