-- Steps and runs (document 01, "The handset machine"). A step is a function of a move, and a move makes every choice that the paper leaves open;
-- a move that makes no sense changes nothing, which is a step too. Assumes nothing.
use Rattle.std.specs.Prelude.{List, [], ◌∷◌, Bool, true, false, cond, ◌&&◌, ◌||◌, ℕ, length, get_or, eqb, ltb}
use Rattle.std.proofs.Math.Option.{Option, none, some}
use Rattle.program.specs.Statement as say
use Rattle.program.specs.Program.{Program, no_record_position, statements, names_of}
use Rattle.machine.specs.State.{Value, primitive, State, frame_at}
use Rattle.machine.specs.Variable.{read, read_all, write}
use Rattle.machine.specs.Property.{make_object, make_function_object, load_from, store_to}
use Rattle.machine.specs.Call.{call_of, new_of, prim_of, return_to, throw_in, hand_to}

-- "A step carries out one statement in any frame of its scope, choosing any pair the key allows"
pub record Choice : Type 0 where
  pub statement : ℕ  -- its place in the list of all statements, the guests' first
  pub frame : ℕ
  pub which : ℕ → ℕ  -- for each variable field that is read, from 0 on, which value of a bag
  pub name : ℕ  -- the pair (name, number)
  pub number : ℕ
  pub prototype : ℕ  -- of a guest's object: 0, 1 or more for the prototype of label 1, 2 or 4
  pub prototype' : ℕ  -- and of the q of a guest's function
  pub thrown : ℕ  -- which of the values thrown in the frame, or handed to it
  pub to_guest : Bool  -- which way a grant copies

-- "or hands a value thrown in a frame, or handed to it, to that frame's caller"
pub data Move : Type 0 where
  act : Choice → Move
  hand : ℕ → ℕ → Move  -- the frame, and which of its thrown values

-- the scope of a statement that is a step; "a grant is a step of the top frame", the one frame of scope 0
abbrev pub scope_of : say.Statement → Option ℕ
scope_of (say.named v n) = none
scope_of (say.grant v b) = some 0
scope_of (say.property l n m) = none
scope_of (say.held v l) = none
scope_of (say.copy k y x) = some k
scope_of (say.load k y x key w) = some k
scope_of (say.store k x key a) = some k
scope_of (say.make k y l) = some k
scope_of (say.make_function k y l q) = some k
scope_of (say.call k y c t args) = some k
scope_of (say.new k y c t l args) = some k
scope_of (say.return k x) = some k
scope_of (say.throw k x) = some k
scope_of (say.catch k y) = some k
scope_of (say.prim k x) = some k

abbrev pub in_scope : Option ℕ → ℕ → Bool
in_scope none k = false
in_scope (some k') k = eqb k' k

abbrev pub member : ℕ → List ℕ → Bool
member x [] = false
member x (y ∷ ys) = eqb x y || member x ys

-- 26: "(toString or valueOf is called)"
abbrev pub prim_names : List ℕ
prim_names = 1 ∷ 2 ∷ []

-- a value thrown in frame f or handed to it
abbrev pub thrown_in : State → ℕ → ℕ → Value
thrown_in s f i = get_or (frame_at s f).thrown i primitive

-- the frame has such a value
abbrev pub is_thrown : State → ℕ → ℕ → Bool
is_thrown s f i = ltb i (length (frame_at s f).thrown)

module _ (p : Program) where
  -- 6: a grant copies to the guest's bag or from it
  abbrev pub grant_of : Bool → State → ℕ → ℕ → ℕ → ℕ → State
  grant_of true s f v b i = write p s f b (read p s f v i)
  grant_of false s f v b i = write p s f v (read p s f b i)

  -- the statement in frame f, which is one of its scope
  abbrev pub perform : Choice → State → ℕ → say.Statement → State
  perform c s f (say.named v n) = s
  perform c s f (say.grant v b) = grant_of c.to_guest s f v b (c.which 0)
  perform c s f (say.property l n m) = s
  perform c s f (say.held v l) = s
  perform c s f (say.copy k y x) = write p s f y (read p s f x (c.which 0))
  perform c s f (say.load k y x key w) =
      cond (member c.name (names_of p.sheet key))
      (load_from p s f y (read p s f x (c.which 0)) w c.prototype c.name c.number) s
  perform c s f (say.store k x key a) =
      cond (member c.name (names_of p.sheet key))
      (store_to p s (read p s f x (c.which 0)) (read p s f a (c.which 1)) c.name c.number) s
  perform c s f (say.make k y l) = make_object p s f y l c.prototype
  perform c s f (say.make_function k y l q) = make_function_object p s f y l q c.prototype c.prototype'
  perform c s f (say.call k y g t args) =
      call_of p s f y false (read p s f g (c.which 0)) (read p s f t (c.which 1)) (read_all p s f args c.which 2)
  perform c s f (say.new k y g t l args) =
      new_of p s f y t l (read p s f g (c.which 0)) c.number (read_all p s f args c.which 2)
  perform c s f (say.return k x) = return_to p s (frame_at s f).caller (read p s f x (c.which 0))
  perform c s f (say.throw k x) = throw_in s f (read p s f x (c.which 0))
  -- "A catch puts in y any value thrown in its frame or handed to it."
  perform c s f (say.catch k y) = cond (is_thrown s f c.thrown) (write p s f y (thrown_in s f c.thrown)) s
  perform c s f (say.prim k x) =
      cond (member c.name prim_names) (prim_of p s f (read p s f x (c.which 0)) c.name c.number) s

  -- the statement at a place of the list
  abbrev pub statement_at : ℕ → ℕ × say.Statement
  statement_at i = get_or (statements p) i (no_record_position, say.named 0 0)

  -- there are such a statement and such a frame, and the frame is of the statement's scope
  abbrev pub makes_sense : Choice → State → Bool
  makes_sense c s =
      ltb c.statement (length (statements p))
      && (ltb c.frame (length s.frames) && in_scope (scope_of (statement_at c.statement).1) (frame_at s c.frame).scope)

  abbrev pub step : Move → State → State
  step (act c) s = cond (makes_sense c s) (perform c s c.frame (statement_at c.statement).1) s
  step (hand f i) s = cond (is_thrown s f i) (hand_to s (frame_at s f).caller (thrown_in s f i)) s

  -- "A run is a finite list of steps, the empty one too, .. each taken in what the last one left"
  abbrev pub run : List Move → State → State
  run [] s = s
  run (m ∷ moves) s = run moves (step m s)
