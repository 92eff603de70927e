-- Every step, and so every run, leaves a well-founded state well founded, whatever the program. Assumes nothing.
use mathlib.Core.Path.{◌≡◌, subst}
use mathlib.Core.List.{List, [], ◌∷◌}
use mathlib.Core.Bool.{true, false}
use mathlib.Core.Option.{Option, none, some}
use Prim.Native.Nat.{ℕ, ◌<◌}
use native.Mathlib.Omega.{arith}
use native.Mathlib.Decide.{dec_lt}
use lib.ListN.{length, get_or-eq_default}
use lib.Dec.{ltb}
use borrow.Author.Tests.{ltb-true}
use Rattle.format.proofs.Tests.{and_first, and_second}
use Rattle.program.specs.Statement as say
use Rattle.program.specs.Program.{Program, statements, names_of}
use Rattle.machine.specs.State.{Value, Caller, Frame, State, no_frame, frame_at}
use Rattle.machine.specs.Variable.{read, read_all, write}
use Rattle.machine.specs.Property.{load_from, store_to}
use Rattle.machine.specs.Call.{prim_of, hand_to}
use Rattle.machine.specs.Step.{Choice, Move, act, hand, member, prim_names, thrown_in, is_thrown, perform, statement_at, makes_sense, step, run}
use Rattle.soundness.specs.Founded.{ObjectBelow, Founded}
use Rattle.soundness.proofs.Founded.{founded-thrown, founded-cond}
use Rattle.soundness.proofs.FoundedSteps.{read-founded, read-all-founded, write-founded, make-founded, make-function-founded, load-founded, store-founded, call-founded, new-founded, prim-founded, return-founded, thrown-founded, grant-founded}

module _ (p : Program) where
  -- ---- steps

  perform-founded : (c : Choice) (s : State) (f : ℕ) (a : say.Statement) → Founded s → f < length s.frames → Founded (perform p c s f a)
  perform-founded c s f (say.named v n) d h = d
  perform-founded c s f (say.grant v b) d h = grant-founded p c.to_guest s f v b (c.which 0) d
  perform-founded c s f (say.property l n m) d h = d
  perform-founded c s f (say.held v l) d h = d
  perform-founded c s f (say.copy k y x) d h = write-founded p s f y (read p s f x (c.which 0)) d (read-founded p s f x (c.which 0) d)
  perform-founded c s f (say.load k y x key u) d h =
      founded-cond (member c.name (names_of p.sheet key)) (load_from p s f y (read p s f x (c.which 0)) u c.prototype c.name c.number) s
      (λ e. load-founded p s f y (read p s f x (c.which 0)) u c.prototype c.name c.number d h (read-founded p s f x (c.which 0) d)) (λ e. d)
  perform-founded c s f (say.store k x key a) d h =
      founded-cond (member c.name (names_of p.sheet key))
      (store_to p s (read p s f x (c.which 0)) (read p s f a (c.which 1)) c.name c.number) s
      (λ e. store-founded p s (read p s f x (c.which 0)) (read p s f a (c.which 1)) c.name c.number d (read-founded p s f a (c.which 1) d))
      (λ e. d)
  perform-founded c s f (say.make k y l) d h = make-founded p s f y l c.prototype d h
  perform-founded c s f (say.make_function k y l q) d h = make-function-founded p s f y l q c.prototype c.prototype' d h
  perform-founded c s f (say.call k y g u vs) d h =
      call-founded p s f y false (read p s f g (c.which 0)) (read p s f u (c.which 1)) (read_all p s f vs c.which 2) d h
      (read-founded p s f g (c.which 0) d) (read-founded p s f u (c.which 1) d) (read-all-founded p s f vs c.which 2 d)
  perform-founded c s f (say.new k y g u l vs) d h =
      new-founded p s f y u l c.number (read p s f g (c.which 0)) (read_all p s f vs c.which 2) d h (read-founded p s f g (c.which 0) d)
      (read-all-founded p s f vs c.which 2 d)
  perform-founded c s f (say.return k x) d h =
      return-founded p s (frame_at s f).caller (read p s f x (c.which 0)) d (read-founded p s f x (c.which 0) d)
  perform-founded c s f (say.throw k x) d h = founded-thrown s f (read p s f x (c.which 0)) d (read-founded p s f x (c.which 0) d)
  perform-founded c s f (say.catch k y) d h =
      founded-cond (is_thrown s f c.thrown) (write p s f y (thrown_in s f c.thrown)) s
      (λ e. write-founded p s f y (thrown_in s f c.thrown) d (thrown-founded p s f c.thrown d h)) (λ e. d)
  perform-founded c s f (say.prim k x) d h =
      founded-cond (member c.name prim_names) (prim_of p s f (read p s f x (c.which 0)) c.name c.number) s
      (λ e. prim-founded p s f (read p s f x (c.which 0)) c.name c.number d h (read-founded p s f x (c.which 0) d)) (λ e. d)

  hand-founded : (s : State) (c : Option Caller) (x : Value) → Founded s → ObjectBelow (length s.objects) x → Founded (hand_to s c x)
  hand-founded s none x d h = d
  hand-founded s (some c) x d h = founded-thrown s c.frame x d h

  -- a frame that has a thrown value is there
  thrown-there : (s : State) (f i : ℕ) → is_thrown s f i ≡ true → f < length s.frames
  thrown-there s f i e = go (dec_lt f (length s.frames))
    where
      go : Dec (f < length s.frames) → f < length s.frames
      go (yes l) = l
      go (no l) =
          let z : i < length no_frame.thrown =
          subst (λ (g : Frame). i < length g.thrown) (get_or-eq_default s.frames no_frame {n = f} (omega arith)) (ltb-true _ _ e) in
          absurd (omega arith)

  pub step-founded : (m : Move) (s : State) → Founded s → Founded (step p m s)
  step-founded (act c) s d =
      founded-cond (makes_sense p c s) (perform p c s c.frame (statement_at p c.statement).1) s
      (λ e. perform-founded c s c.frame (statement_at p c.statement).1 d
      (ltb-true _ _ (and_first _ _ (and_second (ltb c.statement (length (statements p))) _ e))))
      (λ e. d)
  step-founded (hand f i) s d =
      founded-cond (is_thrown s f i) (hand_to s (frame_at s f).caller (thrown_in s f i)) s
      (λ e. hand-founded s (frame_at s f).caller (thrown_in s f i) d (thrown-founded p s f i d (thrown-there s f i e))) (λ e. d)

  pub run-founded : (moves : List Move) (s : State) → Founded s → Founded (run p moves s)
  run-founded [] s d = d
  run-founded (m ∷ moves) s d = run-founded moves (step p m s) (step-founded m s d)
