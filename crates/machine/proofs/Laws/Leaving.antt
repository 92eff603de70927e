-- Laws of return, throw, catch and of handing on: for every program, state, frame and choice, what a step can bring about. Assumes nothing.
use mathlib.Core.Path.{◌≡◌, refl, ◌∙◌}
use mathlib.Core.List.Memᴰ
use mathlib.Core.Bool.{false}
use mathlib.Core.Option.{some}
use Prim.Native.Nat.{ℕ, ◌<◌}
use native.Mathlib.Omega.{arith}
use borrow.Author.Tests.{lt-ltb}
use lib.ListN.{length}
use lib.Seq.{get_or-set_same}
use Rattle.program.specs.Program.{Program}
use Rattle.machine.specs.State.{Value, primitive, object, State, no_frame, frame_at, with_thrown}
use Rattle.machine.specs.Variable.{write}
use Rattle.machine.specs.Call.{return_to, throw_in}
use Rattle.machine.specs.Step.{hand}
use Rattle.machine.specs.Laws.{FramesStay, Hands, Throws, Catches, Returns, ReturnsObject}
use Rattle.machine.specs.Effect.{Thrown}
use Rattle.machine.proofs.Laws.Grown.{step-grown}
use Rattle.machine.proofs.Laws.Reading.{place-of, can-read}
use Rattle.machine.proofs.Laws.Sparing.{spares-throw, puts}
use Rattle.machine.proofs.Laws.Acting.{fields, throwing, acts}

pub frame-stays : (p : Program) (s : State) → FramesStay p s
frame-stays p s m f k here =
    let w = step-grown p s m in
    record {
      frame-there = omega (arith, w.more-frames, here.frame-there);
      scope-is = (w.same-frames f here.frame-there).same-scope ∙ here.scope-is;
    }

-- ---- thrown values

throws : {p : Program} (s : State) (f : ℕ) (x : Value) → f < length s.frames → Thrown p s (throw_in s f x) f x
throws s f x l =
    record {
      is-thrown =
          rw (get_or-set_same s.frames f (with_thrown (frame_at s f) x) no_frame l) (Memᴰ.append_right (frame_at s f).thrown (Memᴰ.head refl));
      spares = spares-throw s f x;
    }

pub throw-throws : (p : Program) (s : State) (f k : ℕ) → Throws p s f k
throw-throws p s f k here v x says h =
    let c = can-read h in acts says here refl (fields (λ j. c.0)) (λ _. rw c.1 (throws s f x here.frame-there))

pub hand-any-thrown : (p : Program) (s : State) → Hands p s
hand-any-thrown p s f c x m e l =
    let r = place-of primitive m in
    record { move = hand f r.0; brings = rw (lt-ltb r.0 (length (frame_at s f).thrown) r.1, e, r.2) (throws s c.frame x l) }

pub catch-any-thrown : (p : Program) (s : State) (f k : ℕ) → Catches p s f k
catch-any-thrown p s f k here y x says m w =
    let r = place-of primitive m in
    acts says here refl (throwing r.0) (λ _. rw (lt-ltb r.0 (length (frame_at s f).thrown) r.1, r.2) (puts x w))

-- ---- return

pub return-puts : (p : Program) (s : State) (f k : ℕ) → Returns p s f k
return-puts p s f k here v g y x says h e w =
    let c = can-read h in acts says here refl (fields (λ j. c.0)) (λ _. rw (c.1, e, back x) (puts x w))
  where
    back : (x : Value) → return_to p s (some (record { frame = g; result = y; by_new = false })) x ≡ write p s g y x
    back primitive = refl
    back (object i) = refl

pub return-puts-object : (p : Program) (s : State) (f k : ℕ) → ReturnsObject p s f k
return-puts-object p s f k here v i c says h e w =
    let r = can-read h in acts says here refl (fields (λ j. r.0)) (λ _. rw (r.1, e) (puts (object i) w))
