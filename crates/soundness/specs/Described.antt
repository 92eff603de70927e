-- A table describes a state (the invariant of demand 3): every value is a primitive or an object whose label stands in the row of the place where
-- the value is. L is the number of labels. Assumes nothing.
use Rattle.std.specs.Prelude.{◌≡◌, true, ℕ, ◌≤◌, ◌<◌, length}
use mathlib.Core.List.{List, Memᴰ}
use Rattle.std.proofs.Math.Option.{Option, none, some}
use Rattle.rows.specs.Row.{number, property, chain, thrown}
use Rattle.rules.specs.Table.{Table, Has}
use Rattle.format.specs.Sheet.{declared}
use Rattle.program.specs.Program.{Program, returns_of}
use Rattle.machine.specs.State.{Value, primitive, object, Object, Caller, Frame, State, object_in, frame_in}
use Rattle.machine.specs.Variable.{global_object}
use Rattle.machine.specs.Property.{object_prototype, function_prototype, array_prototype}

-- the numbers of the rows that document 01 calls P(l), H(l,n) and T(k); S(v) is row v
abbrev pub P : ℕ → ℕ → ℕ
P L l = number L (chain l)

abbrev pub H : ℕ → ℕ → ℕ → ℕ
H L l n = number L (property l n)

abbrev pub T : ℕ → ℕ → ℕ
T L k = number L (thrown k)

abbrev pub label_in : List Object → ℕ → ℕ
label_in os i = (object_in os i).label

-- a primitive, or an object whose label row r holds
pub data Allowed (t : Table) (os : List Object) (r : ℕ) : Value → Type 0 where
  primitive-allowed : Allowed t os r primitive
  object-allowed : (i : ℕ) → i < length os → Has t r (label_in os i) → Allowed t os r (object i)

-- nothing, or a value that row r allows
pub data AllowedIfAny (t : Table) (os : List Object) (r : ℕ) : Option Value → Type 0 where
  nothing-there : AllowedIfAny t os r none
  value_there : (x : Value) → Allowed t os r x → AllowedIfAny t os r (some x)

-- the prototype's label is on the object's chain, and what it holds under name n is in H(label, n)
pub record ObjectDescribed (L : ℕ) (t : Table) (os : List Object) (o : Object) : Type 0 where
  pub prototype-on-chain : Allowed t os (P L o.label) o.prototype
  pub values-allowed : (n j : ℕ) → AllowedIfAny t os (H L o.label n) (o.values n j)

-- what a frame of scope k hands its caller is allowed there: T(k) is within the caller's T, and each variable returned in k within y
pub record Linked (L : ℕ) (t : Table) (p : Program) (fs : List Frame) (k : ℕ) (c : Caller) : Type 0 where
  pub caller-there : c.frame < length fs
  pub thrown-within : (l : ℕ) → Has t (T L k) l → Has t (T L (frame_in fs c.frame).scope) l
  pub returned-within : (x : ℕ) → Memᴰ x (returns_of p k) → 0 < c.result → (l : ℕ) → Has t x l → Has t c.result l

pub data LinkedIfCalled (L : ℕ) (t : Table) (p : Program) (fs : List Frame) (k : ℕ) : Option Caller → Type 0 where
  no-caller : LinkedIfCalled L t p fs k none
  called : (c : Caller) → Linked L t p fs k c → LinkedIfCalled L t p fs k (some c)

pub record FrameDescribed (L : ℕ) (t : Table) (p : Program) (os : List Object) (fs : List Frame) (f : Frame) : Type 0 where
  pub variables-allowed : (v : ℕ) → Allowed t os v (f.variables v)
  pub thrown-allowed : (x : Value) → Memᴰ x f.thrown → Allowed t os (T L f.scope) x
  pub linked : LinkedIfCalled L t p fs f.scope f.caller

-- the objects of labels 1, 0, 2 and 4 stand first
pub record FirstObjects (os : List Object) : Type 0 where
  pub four : 4 ≤ length os
  pub object-label : label_in os object_prototype ≡ 1
  pub global-label : label_in os global_object ≡ 0
  pub function-label : label_in os function_prototype ≡ 2
  pub array-label : label_in os array_prototype ≡ 4

pub record Described (L : ℕ) (t : Table) (p : Program) (s : State) : Type 0 where
  pub objects-described : (i : ℕ) → ObjectDescribed L t s.objects (object_in s.objects i)
  pub frames-described : (f : ℕ) → FrameDescribed L t p s.objects s.frames (frame_in s.frames f)
  pub bags-allowed : (b : ℕ) (x : Value) → Memᴰ x (s.bags b) → Allowed t s.objects b x
  pub labels-declared : (i : ℕ) → declared p.sheet (label_in s.objects i) ≡ true
  pub first-objects : FirstObjects s.objects
