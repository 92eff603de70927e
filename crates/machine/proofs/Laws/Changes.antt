-- What each change of a state keeps, every step keeps: a step is made of a few changes. Assumes nothing.
use mathlib.Core.Path.{◌≡◌, refl}
use mathlib.Core.List.{List, [], ◌∷◌}
use mathlib.Core.Bool.{Bool, true, false, cond}
use mathlib.Core.Option.{Option, none, some}
use Prim.Native.Nat.{ℕ}
use Rattle.program.specs.Statement as say
use Rattle.program.specs.Program.{Program, is_function}
use Rattle.machine.specs.State.{Value, primitive, object, Object, Caller, State, object_at, frame_at, with_object, with_frame, set_object, set_frame, with_bagged, with_value, with_variable, with_thrown}
use Rattle.machine.specs.Lookup.{nearest_of}
use Rattle.machine.specs.Variable.{Place, nowhere, bag, named, local, place_of, global_object, write_in, write_place, write, write_all}
use Rattle.machine.specs.Property.{load_from, store_to}
use Rattle.machine.specs.Call.{frame_of, enter, call_of, new_of, prim_of, return_to, hand_to}
use Rattle.machine.specs.Step.{Choice, Move, act, hand, grant_of, perform, step, run}

-- from the first state to the second, C holds of each change, and of one after the other
pub record Kept (p : Program) (C : State → State → Type 0) : Type 0 where
  pub nothing : (s : State) → C s s
  pub together : {s s' s'' : State} → C s s' → C s' s'' → C s s''
  pub object-made : (s : State) (o : Object) → C s (with_object s o)
  pub value-stored : (s : State) (i n j : ℕ) (x : Value) → C s (set_object s i (with_value (object_at s i) n j x))
  pub variable-set : (s : State) (f v : ℕ) (x : Value) → C s (set_frame s f (with_variable (frame_at s f) v x))
  pub value-thrown : (s : State) (f : ℕ) (x : Value) → C s (set_frame s f (with_thrown (frame_at s f) x))
  pub value-bagged : (s : State) (b : ℕ) (x : Value) → C s (with_bagged s b x)
  -- a function's frame
  pub frame_made : (s : State) (f y : ℕ) (by_new : Bool) (o : Object) → is_function p.sheet o.label ≡ true → C s (with_frame s (frame_of o f y by_new))

module _ (p : Program) (C : State → State → Type 0) (k : Kept p C) where
  pub kept-write : (s : State) (f v : ℕ) (x : Value) → C s (write p s f v x)
  kept-write s f v x = go (place_of p v)
    where
      at : (g : Option ℕ) → C s (write_in s g v x)
      at none = k.nothing s
      at (some g) = k.variable-set s g v x

      go : (q : Place) → C s (write_place q s f v x)
      go nowhere = k.nothing s
      go bag = k.value-bagged s v x
      go (named n) = k.value-stored s global_object n 0 x
      go (local l) = at (nearest_of s f l)

  pub kept-write-all : (s : State) (f : ℕ) (vs : List ℕ) (xs : List Value) → C s (write_all p s f vs xs)
  kept-write-all s f [] xs = k.nothing s
  kept-write-all s f (v ∷ vs) [] = k.nothing s
  kept-write-all s f (v ∷ vs) (x ∷ xs) = k.together (kept-write s f v x) (kept-write-all (write p s f v x) f vs xs)

  -- ---- one change after another

  same : (s : State) → C s s
  same s = k.nothing s

  either : (b : Bool) {s x y : State} → C s x → C s y → C s (cond b x y)
  either true h h' = h
  either false h h' = h'

  after-object : {s : State} (s' : State) (o : Object) → C s s' → C s (with_object s' o)
  after-object s' o h = k.together h (k.object-made s' o)

  after-value : {s : State} (s' : State) (i n j : ℕ) (x : Value) → C s s' → C s (set_object s' i (with_value (object_at s' i) n j x))
  after-value s' i n j x h = k.together h (k.value-stored s' i n j x)

  after-thrown : {s : State} (s' : State) (f : ℕ) (x : Value) → C s s' → C s (set_frame s' f (with_thrown (frame_at s' f) x))
  after-thrown s' f x h = k.together h (k.value-thrown s' f x)

  after_write : {s : State} (s' : State) (f v : ℕ) (x : Value) → C s s' → C s (write p s' f v x)
  after_write s' f v x h = k.together h (kept-write s' f v x)

  after-write-all : {s : State} (s' : State) (f : ℕ) (vs : List ℕ) (xs : List Value) → C s s' → C s (write_all p s' f vs xs)
  after-write-all s' f vs xs h = k.together h (kept-write-all s' f vs xs)

  ruleset changes = (same, either, after-object, after-value, after-thrown, after_write, after-write-all)

  -- ---- each part of a step

  kept-load : (s : State) (f y : ℕ) (x : Value) (u c n j : ℕ) → C s (load_from p s f y x u c n j)
  kept-load s f y (object i) u c n j = search changes
  kept-load s f y primitive u c n j = search changes

  kept_store : (s : State) (x a : Value) (n j : ℕ) → C s (store_to p s x a n j)
  kept_store s primitive a n j = search changes
  kept_store s (object i) a n j = search changes

  pub kept-enter : (s : State) (f y : ℕ) (by_new : Bool) (o : Object) (this : Value) (xs : List Value) → is_function p.sheet o.label ≡ true
      → C s (enter p s f y by_new o this xs)
  kept-enter s f y by_new o this xs is = let made = k.frame_made s f y by_new o is in search changes

  after_call : {s : State} (s' : State) (f y : ℕ) (by_new : Bool) (x this : Value) (xs : List Value) → C s s' → C s (call_of p s' f y by_new x this xs)
  after_call s' f y by_new primitive this xs h = h
  after_call {s} s' f y by_new (object i) this xs h = go (is_function p.sheet (object_at s' i).label) refl
    where
      go : (b : Bool) → is_function p.sheet (object_at s' i).label ≡ b → C s (cond b (enter p s' f y by_new (object_at s' i) this xs) s')
      go true e = k.together h (kept-enter s' f y by_new (object_at s' i) this xs e)
      go false e = h

  kept_new : (s : State) (f y u l j : ℕ) (x : Value) (xs : List Value) → C s (new_of p s f y u l x j xs)
  kept_new s f y u l j primitive xs = search changes
  kept_new s f y u l j (object i) xs = search (changes, after_call) depth 8

  kept-prim : (s : State) (f : ℕ) (x : Value) (n j : ℕ) → C s (prim_of p s f x n j)
  kept-prim s f primitive n j = search changes
  kept-prim s f (object i) n j = search (changes, after_call)

  kept-return : (s : State) (c : Option Caller) (x : Value) → C s (return_to p s c x)
  kept-return s none x = search changes
  kept-return s (some c) primitive = search changes
  kept-return s (some c) (object i) = search changes

  kept-hand : (s : State) (c : Option Caller) (x : Value) → C s (hand_to s c x)
  kept-hand s none x = search changes
  kept-hand s (some c) x = search changes

  kept-grant : (to : Bool) (s : State) (f v b i : ℕ) → C s (grant_of p to s f v b i)
  kept-grant true s f v b i = search changes
  kept-grant false s f v b i = search changes

  -- ---- steps and runs

  ruleset parts = (changes, kept-load, kept_store, after_call, kept_new, kept-prim, kept-return, kept-hand, kept-grant)

  kept-perform : (c : Choice) (s : State) (f : ℕ) (a : say.Statement) → C s (perform p c s f a)
  kept-perform c s f (say.named v n) = search parts
  kept-perform c s f (say.grant v b) = search parts
  kept-perform c s f (say.property l n m) = search parts
  kept-perform c s f (say.held v l) = search parts
  kept-perform c s f (say.copy l y x) = search parts
  kept-perform c s f (say.load l y x key u) = search parts
  kept-perform c s f (say.store l x key a) = search parts
  kept-perform c s f (say.make l y m) = search parts
  kept-perform c s f (say.make_function l y m q) = search parts
  kept-perform c s f (say.call l y g u vs) = search parts
  kept-perform c s f (say.new l y g u m vs) = search parts
  kept-perform c s f (say.return l x) = search parts
  kept-perform c s f (say.throw l x) = search parts
  kept-perform c s f (say.catch l y) = search parts
  kept-perform c s f (say.prim l x) = search parts

  pub kept_step : (m : Move) (s : State) → C s (step p m s)
  kept_step (act c) s = search (parts, kept-perform)
  kept_step (hand f i) s = search parts

  pub kept_run : (moves : List Move) (s : State) → C s (run p moves s)
  kept_run [] s = k.nothing s
  kept_run (m ∷ moves) s = k.together (kept_step m s) (kept_run moves (step p m s))
