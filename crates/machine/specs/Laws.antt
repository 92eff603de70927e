-- The laws of the machine, in the words of document 01, "The handset machine": what a step can bring about from any state, whatever the program, in a
-- frame f of scope k; what no step takes back; what a return at top level does after any run (request 02); what stands at the start. A machine that does
-- less than one of these sentences says breaks its law, and so does one that does more where a law says that nothing happens. The files of proofs/ prove them.
-- Assumes nothing.
use Rattle.std.specs.Prelude.{◌≡◌, ◌⊎◌, true, false, ℕ, ◌<◌, length, replicate}
use mathlib.Core.List.{List, ◌∷◌, ◌++◌, Memᴰ}
use Rattle.std.proofs.Math.Option.{Option, none, some}
use Rattle.format.specs.Sheet.{type_of, built_in}
use Rattle.program.specs.Statement as say
use Rattle.program.specs.Program.{Program, Guest, names_of}
use Rattle.machine.specs.State.{Value, primitive, object, Caller, State, object_at, frame_at}
use Rattle.machine.specs.Variable.{global_object, read}
use Rattle.machine.specs.Property.{object_prototype, function_prototype, array_prototype}
use Rattle.machine.specs.Step.{Choice, Move, act, statement_at, step, run}
use Rattle.machine.specs.Start.{top_frame, start}
use Rattle.machine.specs.Grown.{Grown}
use Rattle.machine.specs.Seen.{Named, Finds, Holds, Reads, ReadsAll, Writable}
use Rattle.machine.specs.Effect.{Says, GuestSays, In, Can, Spares, Put, Gives, Stored, Thrown, Prototype, Made, Takes, entering, Called, Built, NoFunction, NoStore}
use Rattle.machine.specs.Begun.{Begins, StandsFor, Numbered, LastOf}

-- ---- what a statement in a frame of its scope can bring about

module _ (p : Program) (s : State) (f k : ℕ) where
  -- 16: y gets what the source holds
  abbrev pub Copies : Type 0
  Copies = In s f k → (y v : ℕ) (x : Value) → Says p (say.copy k y v) → Reads p s f v x → Writable p s f y → Can p s (λ s'. Put p s s' f y x)

  -- 17: "Load looks outward along the prototypes", under any name of the key and any number; "nothing found is a primitive"
  abbrev pub Loads : Type 0
  Loads =
      In s f k → (y v key w i n j : ℕ) (r : Option Value) (x : Value) → Says p (say.load k y v key w) → Reads p s f v (object i)
      → Memᴰ n (names_of p.sheet key) → Finds s n j i r → Gives r x → Writable p s f y → Can p s (λ s'. Put p s s' f y x)

  -- "on a primitive starting from a fresh object w", whose prototype is any that an object of label w may take
  abbrev pub LoadsOnPrimitive : Type 0
  LoadsOnPrimitive =
      In s f k → (y v key w q n j : ℕ) (r : Option Value) (x : Value) → Says p (say.load k y v key w) → Reads p s f v primitive
      → Memᴰ n (names_of p.sheet key) → Prototype p w q → Finds s n j q r → Gives r x → Writable p s f y → Can p s (λ s'. Put p s s' f y x)

  -- 18: the value goes under any pair that the key allows, of any object that is not built-in
  abbrev pub Stores : Type 0
  Stores =
      In s f k → (v key a i n j : ℕ) (x : Value) → Says p (say.store k v key a) → Reads p s f v (object i) → Reads p s f a x
      → i < length s.objects → built_in p.sheet (object_at s i).label ≡ false → Memᴰ n (names_of p.sheet key)
      → Can p s (λ s'. Stored s s' i n j x)

  -- 19: y gets a new object of label l
  abbrev pub Makes : Type 0
  Makes =
      In s f k → global_object < length s.objects → (y l q : ℕ) → Says p (say.make k y l) → Prototype p l q → Writable p s f y
      → Can p s (λ s'. (i : ℕ) × Made s s' i f l q none × Put p s s' f y (object i))

  -- 20: y gets a new function of label l, and "Make function puts a fresh q under (3, 0)."
  abbrev pub MakesFunction : Type 0
  MakesFunction =
      In s f k → global_object < length s.objects → (y l q a b : ℕ) → Says p (say.make_function k y l q) → Prototype p l a → Prototype p q b
      → Writable p s f y
      → Can p s (λ s'. (i : ℕ) × (j : ℕ) × Made s s' i f l a (some (object j)) × Made s s' j f q b none × Put p s s' f y (object i))

  -- 21: whatever function object, this and arguments are read, each by itself
  abbrev pub Calls : Type 0
  Calls =
      In s f k → (y g t i : ℕ) (args : List ℕ) (this : Value) (xs : List Value) → Says p (say.call k y g t args) → Reads p s f g (object i)
      → type_of p.sheet (object_at s i).label ≡ 2 → Reads p s f t this → ReadsAll p s f args xs
      → Can p s (λ s'. Called p s s' i f y false this xs × Spares p s s' (entering p (object_at s i).label))

  -- 22: "it looks up name 3 from the callee as a load does, and takes what it finds as prototype where it is an object, else label 1; t and y get the
  -- new object", and the callee is called with it as this
  abbrev pub News : Type 0
  News =
      In s f k → global_object < length s.objects → (y g t l i j q : ℕ) (r : Option Value) (args : List ℕ) (xs : List Value)
      → Says p (say.new k y g t l args) → Reads p s f g (object i) → type_of p.sheet (object_at s i).label ≡ 2 → Finds s 3 j i r → Takes r q
      → ReadsAll p s f args xs → Can p s (λ s'. Built p s s' i f y t l q xs)

  -- 23: "A return puts its value in the caller's y"
  abbrev pub Returns : Type 0
  Returns =
      In s f k → (v g y : ℕ) (x : Value) → Says p (say.return k v) → Reads p s f v x
      → (frame_at s f).caller ≡ some (record { frame = g; result = y; by_new = false }) → Writable p s g y → Can p s (λ s'. Put p s s' g y x)

  -- an object also where new made the call
  abbrev pub ReturnsObject : Type 0
  ReturnsObject =
      In s f k → (v i : ℕ) (c : Caller) → Says p (say.return k v) → Reads p s f v (object i) → (frame_at s f).caller ≡ some c
      → Writable p s c.frame c.result → Can p s (λ s'. Put p s s' c.frame c.result (object i))

  -- 24: the value is thrown in the frame
  abbrev pub Throws : Type 0
  Throws = In s f k → (v : ℕ) (x : Value) → Says p (say.throw k v) → Reads p s f v x → Can p s (λ s'. Thrown p s s' f x)

  -- 25: "A catch puts in y any value thrown in its frame or handed to it."
  abbrev pub Catches : Type 0
  Catches =
      In s f k → (y : ℕ) (x : Value) → Says p (say.catch k y) → Memᴰ x (frame_at s f).thrown → Writable p s f y
      → Can p s (λ s'. Put p s s' f y x)

  -- 26: "prim finds a value under name 1 or 2 as a load does and calls it with the object as this, dropping the result"
  abbrev pub Prims : Type 0
  Prims =
      In s f k → (v i n j g : ℕ) → Says p (say.prim k v) → Reads p s f v (object i) → (n ≡ 1) ⊎ (n ≡ 2) → Finds s n j i (some (object g))
      → type_of p.sheet (object_at s g).label ≡ 2
      → Can p s (λ s'. Called p s s' g f 0 false (object i) (replicate 6 primitive) × Spares p s s' (entering p (object_at s g).label))

-- ---- grants, handing on, and every step

module _ (p : Program) (s : State) where
  -- 6: "A grant copies between v and 1 each way"; "A grant is a step of the top frame", the frame of scope 0
  abbrev pub GrantsToGuest : Type 0
  GrantsToGuest =
      (f v b : ℕ) (x : Value) → In s f 0 → Says p (say.grant v b) → Reads p s f v x → Writable p s f b → Can p s (λ s'. Put p s s' f b x)

  abbrev pub GrantsFromGuest : Type 0
  GrantsFromGuest =
      (f v b : ℕ) (x : Value) → In s f 0 → Says p (say.grant v b) → Reads p s f b x → Writable p s f v → Can p s (λ s'. Put p s s' f v x)

  -- "or hands a value thrown in a frame, or handed to it, to that frame's caller": any such value
  abbrev pub Hands : Type 0
  Hands =
      (f : ℕ) (c : Caller) (x : Value) → Memᴰ x (frame_at s f).thrown → (frame_at s f).caller ≡ some c → c.frame < length s.frames
      → Can p s (λ s'. Thrown p s s' c.frame x)

  -- "a prototype fixed when made"; "any value ever put in its bag"; thrown values are never used up
  abbrev pub TakesNothingBack : Type 0
  TakesNothingBack = (m : Move) → Grown s (step p m s)

  -- "frames may step on afterwards": after a return as after any other step
  abbrev pub FramesStay : Type 0
  FramesStay = (m : Move) (f k : ℕ) → In s f k → In (step p m s) f k

  -- "A run is a finite list of steps .. each taken in what the last one left": what a step can bring about after a run, a run brings about
  abbrev pub RunsGoOn : Type 1
  RunsGoOn = (moves : List Move) (E : State → Type 0) → Can p (run p moves s) E → (longer : List Move) × E (run p longer s)

-- ---- what does nothing, whatever the choice

module _ (p : Program) (s : State) (c : Choice) where
  -- "Calling what is no function does nothing"
  abbrev pub CallsNothing : Type 0
  CallsNothing =
      (k y g t : ℕ) (args : List ℕ) → (statement_at p c.statement).1 ≡ say.call k y g t args → NoFunction p s (read p s c.frame g (c.which 0))
      → step p (act c) s ≡ s

  -- "New on what is no function does nothing"
  abbrev pub BuildsNothing : Type 0
  BuildsNothing =
      (k y g t l : ℕ) (args : List ℕ) → (statement_at p c.statement).1 ≡ say.new k y g t l args → NoFunction p s (read p s c.frame g (c.which 0))
      → step p (act c) s ≡ s

  -- "nor does prim on a primitive"
  abbrev pub PrimsNothing : Type 0
  PrimsNothing =
      (k v : ℕ) → (statement_at p c.statement).1 ≡ say.prim k v → read p s c.frame v (c.which 0) ≡ primitive → step p (act c) s ≡ s

  -- "Stores to primitives or built-in objects do nothing."
  abbrev pub StoresNothing : Type 0
  StoresNothing =
      (k v key a : ℕ) → (statement_at p c.statement).1 ≡ say.store k v key a → NoStore p s (read p s c.frame v (c.which 0)) → step p (act c) s ≡ s

  -- a load or store does nothing under a name that its key does not allow. Of request 04: "The machine's guest is held likewise."
  abbrev pub LoadsNoOther : Type 0
  LoadsNoOther =
      (k y v key w : ℕ) → (statement_at p c.statement).1 ≡ say.load k y v key w → (Memᴰ c.name (names_of p.sheet key) → ⊥)
      → step p (act c) s ≡ s

  abbrev pub StoresNoOther : Type 0
  StoresNoOther =
      (k v key a : ℕ) → (statement_at p c.statement).1 ≡ say.store k v key a → (Memᴰ c.name (names_of p.sheet key) → ⊥)
      → step p (act c) s ≡ s

  -- of new: "returning a primitive from it changes nothing"
  abbrev pub ReturnsNothing : Type 0
  ReturnsNothing =
      (k v : ℕ) (d : Caller) → (statement_at p c.statement).1 ≡ say.return k v → read p s c.frame v (c.which 0) ≡ primitive
      → (frame_at s c.frame).caller ≡ some d → d.by_new ≡ true → step p (act c) s ≡ s

-- ---- a return at top level

module _ (p : Program) where
  -- where label 0 is no function, no frame of scope 0 has a caller: nothing called "the top frame", and no call makes another
  abbrev pub NothingCalledTheTop : Type 0
  NothingCalledTheTop =
      (type_of p.sheet 0 ≡ 2 → ⊥) → (moves : List Move) (f : ℕ) → (frame_at (run p moves (start p)) f).scope ≡ 0
      → (frame_at (run p moves (start p)) f).caller ≡ none

  -- request 02: "The machine does nothing on that step.", in whatever state a run has left
  abbrev pub ReturnsToNobody : Type 0
  ReturnsToNobody =
      (type_of p.sheet 0 ≡ 2 → ⊥) → (moves : List Move) (c : Choice) (v : ℕ) → (statement_at p c.statement).1 ≡ say.return 0 v
      → step p (act c) (run p moves (start p)) ≡ run p moves (start p)

-- ---- statements and the start

module _ (p : Program) where
  -- "Allowed to the guest are the statements that the rules give it."
  abbrev pub GuestsSay : Type 0
  GuestsSay = (g : Guest) → Memᴰ g p.guests → GuestSays p g

  abbrev pub RecordsSay : Type 0
  RecordsSay = (at : ℕ) (a : say.Statement) → Memᴰ (at, a) p.host → Says p a

  -- "the top frame": of scope 0, and outward of it is none
  abbrev pub TopFrame : Type 0
  TopFrame = In (start p) top_frame 0 × ((frame_at (start p) top_frame).outward ≡ none) × ((frame_at (start p) top_frame).caller ≡ none)

  -- "in which the guest's first frame is made before any step"; "The guest's first frame has no caller"
  abbrev pub GuestFrames : Type 0
  GuestFrames =
      (g : Guest) → Memᴰ g p.guests
      → (f : ℕ) × In (start p) f g.label × ((frame_at (start p) f).outward ≡ some top_frame) × ((frame_at (start p) f).caller ≡ none)

  -- "At the start there is one object for labels 0, 1, 2, 4 and for each label of kinds 7 and 8"
  abbrev pub StartObjects : Type 0
  StartObjects = (l : ℕ) → Begins p l → (i : ℕ) × StandsFor p (start p) l i

  -- the places of the objects that the machine itself looks for
  abbrev pub FirstObjects : Type 0
  FirstObjects =
      ((object_at (start p) object_prototype).label ≡ 1)
      × ((object_at (start p) global_object).label ≡ 0)
      × ((object_at (start p) function_prototype).label ≡ 2)
      × ((object_at (start p) array_prototype).label ≡ 4)

  -- 7: "the j-th kind 7 record for the same l and n uses pair (n, j), from 0", and what it put there stands, where no record of kind 8 fills the pair
  -- again as a named variable
  abbrev pub StartProperties : Type 0
  StartProperties =
      (at l n m j : ℕ) (before after : List (ℕ × say.Statement)) → p.host ≡ before ++ ((at, say.property l n m) ∷ after) → Numbered l n before j
      → ((at u k : ℕ) → Memᴰ (at, say.held u k) after → Named p u n → l ≡ 0 → j ≡ 0 → ⊥)
      → (i : ℕ) × (i' : ℕ) × StandsFor p (start p) l i × StandsFor p (start p) m i' × ((object_at (start p) i).values n j ≡ some (object i'))

  -- 8: the variable holds the object of the label, where no later record fills it
  abbrev pub StartVariables : Type 0
  StartVariables =
      (at v l : ℕ) (before after : List (ℕ × say.Statement)) → p.host ≡ before ++ ((at, say.held v l) ∷ after) → LastOf p v after
      → Writable p (start p) top_frame v → (i : ℕ) × StandsFor p (start p) l i × Holds p (start p) top_frame v (object i)
