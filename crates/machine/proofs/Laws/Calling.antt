-- Laws of call, new and prim: for every program, state, frame and choice, what a step can bring about. Assumes nothing.
use mathlib.Core.Path.{◌≡◌, refl, ap, ◌∙◌}
use mathlib.Core.Logic.{◌⊎◌, inl, inr}
use mathlib.Core.List.{List, [], ◌∷◌}
use mathlib.Core.Bool.{Bool, true, false}
use Prim.Native.Nat.{ℕ, ◌<◌}
use native.Mathlib.Omega.{arith}
use lib.ListN.{length, replicate, length-append}
use lib.Seq.{get_or-append_seam}
use Rattle.program.specs.Program.{Program}
use Rattle.machine.specs.State.{Value, primitive, object, Frame, State, no_frame, object_at, with_frame}
use Rattle.machine.specs.Call.{frame_of, enter}
use Rattle.machine.specs.Step.{member, prim_names}
use Rattle.machine.specs.Laws.{Calls, Prims}
use Rattle.machine.specs.Effect.{Spares, entering, Called}
use Rattle.machine.proofs.Laws.Grown.{grown-frame, grown-write-all}
use Rattle.machine.proofs.Laws.Outward.{value_found}
use Rattle.machine.proofs.Laws.Reading.{can-read}
use Rattle.machine.proofs.Laws.Writing.{write-all-number, writable-was, all-written}
use Rattle.machine.proofs.Laws.Sparing.{spares-both, spares-frame, spares-write-all}
use Rattle.machine.proofs.Laws.Acting.{fields, pair, acts, can-read-call}

-- ---- a function is entered

pub entered : (p : Program) (s : State) (i f y : ℕ) (by_new : Bool) (this : Value) (xs : List Value)
    → Called p s (enter p s f y by_new (object_at s i) this xs) i f y by_new this xs
entered p s i f y by_new this xs =
    let o = object_at s i in
    let new = frame_of o f y by_new in
    let s' = with_frame s new in
    let vs = entering p o.label in
    let g = length s.frames in
    let there : g < length s'.frames = omega (arith, length-append s.frames (new ∷ [])) in
    let w = grown-write-all p s' g vs (this ∷ xs) in
    let same = w.same-frames g there in
    let seam = get_or-append_seam s.frames new [] no_frame in
    record {
      frame = g;
      was-not-there = omega arith;
      is-there = omega (arith, w.more-frames);
      scope-is = same.same-scope ∙ ap (λ (z : Frame). z.scope) seam;
      outward-is = same.same-outward ∙ ap (λ (z : Frame). z.outward) seam;
      caller-is = same.same-caller ∙ ap (λ (z : Frame). z.caller) seam;
      passed = λ v x h a. all-written s' h (writable-was w (write-all-number p s' g vs (this ∷ xs)) a);
    }

pub entered-spares : (p : Program) (s : State) (i f y : ℕ) (by_new : Bool) (this : Value) (xs : List Value)
    → Spares p s (enter p s f y by_new (object_at s i) this xs) (entering p (object_at s i).label)
entered-spares p s i f y by_new this xs =
    let o = object_at s i in
    let new = frame_of o f y by_new in
    spares-both (grown-frame s new) (spares-frame s new) (spares-write-all p (with_frame s new) (length s.frames) (entering p o.label) (this ∷ xs))

pub call-calls : (p : Program) (s : State) (f k : ℕ) → Calls p s f k
call-calls p s f k here y g t i args this xs says h e h' hs =
    let c = can-read-call h h' hs in
    acts says here refl (fields c.0) (λ _. rw (c.1, c.2, c.3, e) (entered p s i f y false this xs, entered-spares p s i f y false this xs))

pub prim-calls : (p : Program) (s : State) (f k : ℕ) → Prims p s f k
prim-calls p s f k here v i n j g says h m d e =
    let c = can-read h in
    acts says here refl (pair (λ j. c.0) n j 0)
    (λ _.
    rw (name m, c.1, value_found d, e)
    (entered p s g f 0 false (object i) (replicate 6 primitive), entered-spares p s g f 0 false (object i) (replicate 6 primitive)))
  where
    name : (n ≡ 1) ⊎ (n ≡ 2) → member n prim_names ≡ true
    name (inl e) = rw e
    name (inr e) = rw e
