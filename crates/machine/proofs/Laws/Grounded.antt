-- After every run no frame of scope 0 has a caller, since label 0 is no function; so a return in scope 0 does nothing. Assumes nothing.
use mathlib.Core.Path.{◌≡◌, refl, sym}
use mathlib.Core.List.{List, [], ◌∷◌}
use mathlib.Core.Bool.{Bool, true, false, cond}
use mathlib.Core.Option.{none}
use Prim.Native.Nat.{ℕ, zero, suc}
use lib.ListN.{length}
use lib.Dec.{ltb}
use borrow.Author.Tests.{eqb-true}
use Rattle.format.specs.Sheet.{type_of}
use Rattle.format.proofs.Tests.{and_second}
use Rattle.program.specs.Statement as say
use Rattle.program.specs.Program.{Program, Guest, statements}
use Rattle.machine.specs.State.{Frame, State, no_frame, frame_in, frame_at, set_frame, with_variable, with_thrown}
use Rattle.machine.specs.Call.{frame_of}
use Rattle.machine.specs.Step.{Choice, Move, act, perform, statement_at, makes_sense, step, run}
use Rattle.machine.specs.Start.{top_frame, Filling, property, held, nothing, guest_frames, start_labels, unfilled, fillings, fill, start}
use Rattle.machine.specs.Laws.{NothingCalledTheTop, ReturnsToNobody}
use Rattle.machine.proofs.Laws.Places.{at-append, at_set}
use Rattle.machine.proofs.Laws.Changes.{Kept, kept-write, kept_step, kept_run}

-- nothing called the frame, if it is of scope 0
abbrev pub TopFirst : Frame → Type 0
TopFirst f = f.scope ≡ 0 → f.caller ≡ none

pub record Grounded (s : State) : Type 0 where
  pub top-first : (f : ℕ) → TopFirst (frame_at s f)

-- s' has no called frame of scope 0 if s has none
abbrev StaysGrounded : State → State → Type 0
StaysGrounded s s' = Grounded s → Grounded s'

stays-set : (s : State) (i : ℕ) (f : Frame) → (Grounded s → TopFirst f) → StaysGrounded s (set_frame s i f)
stays-set s i f h d = record { top-first = at_set TopFirst s.frames i f no_frame d.top-first (h d) }

module _ (p : Program) (plain : type_of p.sheet 0 ≡ 2 → ⊥) where
  stays-kept : Kept p StaysGrounded
  stays-kept =
      record {
        nothing = λ s d. d;
        together = λ h h' d. h' (h d);
        object-made = λ s o d. record { top-first = d.top-first };
        value-stored = λ s i n j x d. record { top-first = d.top-first };
        variable-set = λ s f v x. stays-set s f (with_variable (frame_at s f) v x) (λ d. d.top-first f);
        value-thrown = λ s f x. stays-set s f (with_thrown (frame_at s f) x) (λ d. d.top-first f);
        value-bagged = λ s b x d. record { top-first = d.top-first };
        -- a function is called, and label 0 is none
        frame_made = λ s f y by_new o is d.
            record {
              top-first =
                  at-append TopFirst s.frames (frame_of o f y by_new) no_frame d.top-first
                  (λ e. absurd (plain (eqb-true (type_of p.sheet 0) 2 (rw e at is))));
            };
      }

  pub after-step : (m : Move) (s : State) → Grounded s → Grounded (step p m s)
  after-step = kept_step p StaysGrounded stays-kept

  -- ---- the start

  none-called : (gs : List Guest) (f : ℕ) → (frame_in (guest_frames gs) f).caller ≡ none
  none-called [] f = refl
  none-called (g ∷ gs) zero = refl
  none-called (g ∷ gs) (suc f) = none-called gs f

  unfilled-grounded : (ls : List ℕ) → Grounded (unfilled p ls)
  unfilled-grounded ls = record { top-first = go }
    where
      go : (f : ℕ) → TopFirst (frame_at (unfilled p ls) f)
      go zero e = refl
      go (suc f) e = none-called p.guests f

  after-fillings : (ls : List ℕ) (earlier : List Filling) (s : State) (rest : List Filling) → Grounded s → Grounded (fill p ls earlier s rest)
  after-fillings ls earlier s [] d = d
  after-fillings ls earlier s (property l n m ∷ rest) d = after-fillings ls (property l n m ∷ earlier) _ rest (stays-kept.value-stored s _ _ _ _ d)
  after-fillings ls earlier s (held v l ∷ rest) d = after-fillings ls (held v l ∷ earlier) _ rest (kept-write p StaysGrounded stays-kept s top_frame v _ d)
  after-fillings ls earlier s (nothing ∷ rest) d = after-fillings ls (nothing ∷ earlier) s rest d

  pub start-grounded : Grounded (start p)
  start-grounded = after-fillings (start_labels p) [] (unfilled p (start_labels p)) (fillings p) (unfilled-grounded (start_labels p))

-- ---- the laws

pub top-return-idle : (p : Program) (s : State) → Grounded s → (c : Choice) (v : ℕ) → (statement_at p c.statement).1 ≡ say.return 0 v → step p (act c) s ≡ s
top-return-idle p s d c v e = go (makes_sense p c s) refl
  where
    go : (b : Bool) → makes_sense p c s ≡ b → cond b (perform p c s c.frame (statement_at p c.statement).1) s ≡ s
    go false q = refl
    go true q =
        let sense = and_second (ltb c.statement (length (statements p))) _ q in
        let scope = and_second (ltb c.frame (length s.frames)) _ sense in
        let top : (frame_at s c.frame).scope ≡ 0 = sym (eqb-true 0 _ (rw e at scope)) in
        rw (e, d.top-first c.frame top)

pub nothing-called-the-top : (p : Program) → NothingCalledTheTop p
nothing-called-the-top p plain moves = (kept_run p StaysGrounded (stays-kept p plain) moves (start p) (start-grounded p plain)).top-first

pub returns-to-nobody : (p : Program) → ReturnsToNobody p
returns-to-nobody p plain moves = top-return-idle p (run p moves (start p)) (kept_run p StaysGrounded (stays-kept p plain) moves (start p) (start-grounded p plain))
