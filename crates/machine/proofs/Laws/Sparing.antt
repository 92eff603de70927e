-- What each change leaves as it was: "nothing else alters the machine". Assumes nothing.
use mathlib.Core.Path.{◌≡◌, refl, ap, ◌∙◌}
use mathlib.Core.List.Memᴰ
use mathlib.Core.List.{List, [], ◌∷◌, ◌++◌}
use mathlib.Core.Option.{some}
use Prim.Native.Nat.{ℕ, ◌<◌}
use native.Mathlib.Omega.{arith}
use native.Mathlib.Decide.{dec_lt}
use lib.ListN.{length, get_or-append, get_or-eq_default}
use Rattle.program.specs.Program.{Program}
use Rattle.machine.specs.State.{Value, Object, Frame, State, no_object, no_frame, object_at, frame_at, with_object, with_frame, with_thrown}
use Rattle.machine.specs.Variable.{global_object, write, write_all}
use Rattle.machine.specs.Call.{throw_in}
use Rattle.machine.specs.Grown.{Grown}
use Rattle.machine.specs.Seen.{Holds, in-bag, in-global, in_frame, Writable}
use Rattle.machine.specs.Effect.{Spares, Put}
use Rattle.machine.proofs.Laws.Grown.{grown-object, grown-frame, grown-thrown, grown-write}
use Rattle.machine.proofs.Laws.Writing.{nearest-there, nearest-stays, field-set, pair-stays, write-spares, written}

pub spares-all : {p : Program} (s : State) (vs : List ℕ) → Spares p s s vs
spares-all s vs = record { variables-stay = λ f v x a h. h; pairs-stay = λ i n j l a. refl }

pub spares-both : {p : Program} {s s₁ s' : State} {us vs : List ℕ} → Grown s s₁ → Spares p s s₁ us → Spares p s₁ s' vs → Spares p s s' (us ++ vs)
spares-both {us = us} {vs = vs} w a b =
    record {
      variables-stay = λ f v x l h.
          b.variables-stay f v x (λ u m. l u (Memᴰ.append_right us m)) (a.variables-stay f v x (λ u m. l u (Memᴰ.append_left vs m)) h);
      pairs-stay = λ i n j l e.
          b.pairs-stay i n j (omega (arith, w.more-objects)) (λ v m. e v (Memᴰ.append_right us m))
          ∙ a.pairs-stay i n j l (λ v m. e v (Memᴰ.append_left vs m));
    }

-- ---- an object more, a frame more, a value thrown

global-there : (s : State) (n : ℕ) (x : Value) → (object_at s global_object).values n 0 ≡ some x → global_object < length s.objects
global-there s n x e = go (dec_lt global_object (length s.objects))
  where
    go : Dec (global_object < length s.objects) → global_object < length s.objects
    go (yes l) = l
    go (no l) =
        let d : object_at s global_object ≡ no_object = get_or-eq_default s.objects no_object (omega arith) in
        let z : ◌≡◌ {A = ℕ} 0 1 = cc (ap (λ (o : Object). o.values n 0) d) in
        absurd (omega arith)

pub spares-object : {p : Program} (s : State) (o : Object) → Spares p s (with_object s o) []
spares-object {p} s o = record { variables-stay = λ f v x a h. holds h; pairs-stay = λ i n j l a. rw (same i l) }
  where
    same : (i : ℕ) → i < length s.objects → object_at (with_object s o) i ≡ object_at s i
    same i l = get_or-append s.objects (o ∷ []) no_object i l

    holds : {f v : ℕ} {x : Value} → Holds p s f v x → Holds p (with_object s o) f v x
    holds (in-bag b m) = in-bag b m
    holds {x = x} (in-global n h e) = in-global n h (rw (same global_object (global-there s n x e)) e)
    holds (in_frame k g h q e) = in_frame k g h (nearest-stays (grown-object s o) q) e

pub spares-frame : {p : Program} (s : State) (new : Frame) → Spares p s (with_frame s new) []
spares-frame {p} s new = record { variables-stay = λ f v x a h. holds h; pairs-stay = λ i n j l a. refl }
  where
    holds : {f v : ℕ} {x : Value} → Holds p s f v x → Holds p (with_frame s new) f v x
    holds (in-bag b m) = in-bag b m
    holds (in-global n h e) = in-global n h e
    holds (in_frame k g h q e) =
        in_frame k g h (nearest-stays (grown-frame s new) q) (rw (get_or-append s.frames (new ∷ []) no_frame g (nearest-there q)) e)

pub spares-throw : {p : Program} (s : State) (f : ℕ) (x : Value) → Spares p s (throw_in s f x) []
spares-throw {p} s f x = record { variables-stay = λ f v x a h. holds h; pairs-stay = λ i n j l a. refl }
  where
    holds : {g v : ℕ} {y : Value} → Holds p s g v y → Holds p (throw_in s f x) g v y
    holds (in-bag b m) = in-bag b m
    holds (in-global n h e) = in-global n h e
    holds {v = v} (in_frame k g h q e) =
        in_frame k g h (nearest-stays (grown-thrown s f x) q)
        (field-set (λ (z : Frame). z.variables v) s.frames f (with_thrown (frame_at s f) x) no_frame refl g ∙ e)

-- ---- writes

pub spares-write : (p : Program) (s : State) (f v : ℕ) (x : Value) → Spares p s (write p s f v x) (v ∷ [])
spares-write p s f v x =
    record {
      variables-stay = λ g u y a h. write-spares p s f v x (a v (Memᴰ.head refl)) h;
      pairs-stay = λ i n j l a. pair-stays p s f v x i n j (a v (Memᴰ.head refl));
    }

pub spares-write-all : (p : Program) (s : State) (f : ℕ) (vs : List ℕ) (xs : List Value) → Spares p s (write_all p s f vs xs) vs
spares-write-all p s f [] xs = spares-all s []
spares-write-all p s f (v ∷ vs) [] = spares-all s (v ∷ vs)
spares-write-all p s f (v ∷ vs) (x ∷ xs) =
    spares-both (grown-write p s f v x) (spares-write p s f v x) (spares-write-all p (write p s f v x) f vs xs)

pub puts : {p : Program} {s : State} {f v : ℕ} (x : Value) → Writable p s f v → Put p s (write p s f v x) f v x
puts {p} {s} {f} {v} x w = record { holds-it = written x w; spares = spares-write p s f v x }

-- a write after changes that spare all variables
pub put-since : {p : Program} {s s₁ s' : State} {f v : ℕ} {x : Value} → Grown s s₁ → Spares p s s₁ [] → Put p s₁ s' f v x → Put p s s' f v x
put-since w a h = record { holds-it = h.holds-it; spares = spares-both w a h.spares }
