-- What is written to a variable is what it holds afterwards; every other variable holds what it held, and a bag whatever it ever held.
-- Assumes nothing.
use mathlib.Core.Path.{◌≡◌, refl, sym, ap, ◌∙◌}
use mathlib.Core.Logic.{◌⊎◌, inl, inr}
use mathlib.Core.List.Memᴰ
use mathlib.Core.List.{List, [], ◌∷◌}
use mathlib.Core.Option.{Option, none, some}
use Prim.Native.Nat.{ℕ, ◌<◌}
use native.Mathlib.Omega.{arith}
use native.Mathlib.Decide.{ℕ_discrete, dec_lt}
use borrow.Author.Tests.{eq-eqb, ne_eqb}
use lib.ListN.{length, get_or, set, length-set}
use lib.Seq.{get_or-set_same, get_or-set_other, set_out}
use Rattle.program.specs.Program.{Program}
use Rattle.machine.specs.State.{Value, Object, Frame, State, no_object, no_frame, object_at, frame_at, set_object, with_value, with_variable}
use Rattle.machine.specs.Lookup.{nearest_of}
use Rattle.machine.specs.Variable.{Place, nowhere, bag, named, local, place_of, global_object, write_in, write_place, write, write_all}
use Rattle.machine.specs.Grown.{Grown}
use Rattle.machine.specs.Seen as seen
use Rattle.machine.specs.Seen.{Nearest, itself, outward, Bag, Named, Holds, in-bag, in-global, in_frame, Writable, to-bag, to-global, to-frame, Apart, Lasts, Gets, gets-it, gets-later}
use Rattle.machine.proofs.Laws.Grown.{grown-write}
use Rattle.machine.proofs.Laws.Outward.{nearest-found}
use Rattle.machine.proofs.Laws.Reading.{bag-place, named-place, local-place, Sort, is_none, is-a-bag, is-named, is-local, sort-of}

-- ---- the nearest frame

pub nearest-there : {s : State} {k f g : ℕ} → Nearest s k f (some g) → g < length s.frames
nearest-there (itself f l e) = l
nearest-there (outward f g r l n e o h) = nearest-there h

-- frames never change scope or outward frame, so that the nearest one stays the nearest
pub nearest-stays : {s s' : State} {k f : ℕ} {r : Option ℕ} → Grown s s' → Nearest s k f r → Nearest s' k f r
nearest-stays w (itself f l e) = itself f (omega (arith, w.more-frames)) ((w.same-frames f l).same-scope ∙ e)
nearest-stays w (outward f g r l n e o h) =
    let q = w.same-frames f l in
    outward f g r (omega (arith, w.more-frames)) (λ z. n (sym q.same-scope ∙ z)) (q.same-outward ∙ e) o (nearest-stays w h)
nearest-stays w (seen.nowhere f l n e) =
    let q = w.same-frames f l in
    seen.nowhere f (omega (arith, w.more-frames)) (λ z. n (sym q.same-scope ∙ z)) (q.same-outward ∙ e)

-- what can be written can be written later
pub writable-stays : {p : Program} {s s' : State} {f v : ℕ} → Grown s s' → Writable p s f v → Writable p s' f v
writable-stays w (to-bag b) = to-bag b
writable-stays w (to-global n h l) = to-global n h (omega (arith, w.more-objects))
writable-stays w (to-frame k g h q) = to-frame k g h (nearest-stays w q)

-- ---- the variable that is written

pub written : {p : Program} {s : State} {f v : ℕ} (x : Value) → Writable p s f v → Holds p (write p s f v x) f v x
written {s = s} {v = v} x (to-bag b) = in-bag b (rw (bag-place v b, eq-eqb v v refl) (Memᴰ.append_right (s.bags v) (Memᴰ.head refl)))
written {s = s} {v = v} x (to-global n h l) =
    in-global n h (rw (named-place v h, get_or-set_same s.objects global_object (with_value (object_at s global_object) n 0 x) no_object l, eq-eqb n n refl))
written {p} {s} {f} {v} x (to-frame k g h q) =
    in_frame k g h (nearest-stays (grown-write p s f v x) q)
    (rw (local-place v h, nearest-found q, get_or-set_same s.frames g (with_variable (frame_at s g) v x) no_frame (nearest-there q), eq-eqb v v refl))

-- ---- every other variable

-- a field that another element at a place has in common with the old one
pub field-set : {A B : Type 0} (f : A → B) (xs : List A) (k : ℕ) (x d : A) → f x ≡ f (get_or xs k d) → (i : ℕ) → f (get_or (set xs k x) i d) ≡ f (get_or xs i d)
field-set f xs k x d e i = go (ℕ_discrete i k) (dec_lt k (length xs))
  where
    go : Dec (i ≡ k) → Dec (k < length xs) → f (get_or (set xs k x) i d) ≡ f (get_or xs i d)
    go (no n) l = ap f (get_or-set_other xs k i x d n)
    go (yes q) (yes l) = rw q (ap f (get_or-set_same xs k x d l) ∙ e)
    go (yes q) (no l) = rw (set_out xs k x (omega arith))

-- a value put under a pair of an object leaves every other pair
pub stored-elsewhere : (s : State) (k m l : ℕ) (y : Value) (i n j : ℕ) → (i ≡ k → n ≡ m → j ≡ l → ⊥)
    → (object_at (set_object s k (with_value (object_at s k) m l y)) i).values n j ≡ (object_at s i).values n j
stored-elsewhere s k m l y i n j other = go (ℕ_discrete i k) (ℕ_discrete n m) (ℕ_discrete j l)
  where
    o : Object
    o = with_value (object_at s k) m l y

    kept : o.values n j ≡ (object_at s k).values n j → (object_at (set_object s k o) i).values n j ≡ (object_at s i).values n j
    kept e = field-set (λ (z : Object). z.values n j) s.objects k o no_object e i

    go : Dec (i ≡ k) → Dec (n ≡ m) → Dec (j ≡ l) → (object_at (set_object s k o) i).values n j ≡ (object_at s i).values n j
    go (no e) d d' = ap (λ (z : Object). z.values n j) (get_or-set_other s.objects k i o no_object e)
    go (yes e) (no e') d' = kept (rw (ne_eqb n m e'))
    go (yes e) (yes e') (no e'') = kept (rw (eq-eqb n m e', ne_eqb j l e''))
    go (yes e) (yes e') (yes e'') = absurd (other e e' e'')

module _ (p : Program) (s : State) (f u : ℕ) (y : Value) where
  pub pair-stays : (i n j : ℕ) → (Named p u n → i ≡ global_object → j ≡ 0 → ⊥) → (object_at (write p s f u y) i).values n j ≡ (object_at s i).values n j
  pair-stays i n j other = go (sort-of p u)
    where
      at : (g : Option ℕ) → (object_at (write_in s g u y) i).values n j ≡ (object_at s i).values n j
      at none = refl
      at (some g) = refl

      go : Sort p u → (object_at (write p s f u y) i).values n j ≡ (object_at s i).values n j
      go (is_none e) = rw e
      go (is-a-bag b) = rw (bag-place u b)
      go (is-named m h) = rw (named-place u h) (stored-elsewhere s global_object m 0 y i n j (λ e e' e''. other (rw (← e') at h) e e''))
      go (is-local k h) = rw (local-place u h) (at (nearest_of s f k))

  variable-stays : (g v : ℕ) → (u ≡ v → ⊥) → (frame_at (write p s f u y) g).variables v ≡ (frame_at s g).variables v
  variable-stays g v other = go (sort-of p u)
    where
      at : (h : Option ℕ) → (frame_at (write_in s h u y) g).variables v ≡ (frame_at s g).variables v
      at none = refl
      at (some h) =
          field-set (λ (z : Frame). z.variables v) s.frames h (with_variable (frame_at s h) u y) no_frame (rw (ne_eqb v u (λ e. other (sym e)))) g

      go : Sort p u → (frame_at (write p s f u y) g).variables v ≡ (frame_at s g).variables v
      go (is_none e) = rw e
      go (is-a-bag b) = rw (bag-place u b)
      go (is-named m h) = rw (named-place u h)
      go (is-local k h) = rw (local-place u h) (at (nearest_of s f k))

  pub write-spares : {g v : ℕ} {x : Value} → Bag p v ⊎ Apart p u v → Holds p s g v x → Holds p (write p s f u y) g v x
  write-spares {v = v} {x = x} a (in-bag b m) = in-bag b ((grown-write p s f u y).bags-stay v x m)
  write-spares (inl b) (in-global n h e) = absurd (h.no-bag b.guest b.among b.its-bag)
  write-spares {v = v} (inr a) (in-global n h e) = in-global n h (pair-stays global_object n 0 (λ q _ _. a.other_name n q h) ∙ e)
  write-spares (inl b) (in_frame k g h q e) = absurd (h.no-bag b.guest b.among b.its-bag)
  write-spares {v = v} (inr a) (in_frame k g h q e) =
      in_frame k g h (nearest-stays (grown-write p s f u y) q) (variable-stays g v a.another ∙ e)

-- ---- one write after another

pub write-all-spares : {p : Program} {g v : ℕ} {x : Value} (s : State) (f : ℕ) (us : List ℕ) (ys : List Value) → Lasts p v us → Holds p s g v x
    → Holds p (write_all p s f us ys) g v x
write-all-spares s f [] ys a h = h
write-all-spares s f (u ∷ us) [] a h = h
write-all-spares {p} s f (u ∷ us) (y ∷ ys) a h =
    write-all-spares (write p s f u y) f us ys (λ w m. a w (Memᴰ.tail m)) (write-spares p s f u y (a u (Memᴰ.head refl)) h)

pub all-written : {p : Program} {f v : ℕ} {x : Value} {vs : List ℕ} {xs : List Value} (s : State) → Gets p v x vs xs → Writable p s f v
    → Holds p (write_all p s f vs xs) f v x
all-written {p} {f} {v} {x} s (gets-it vs xs a) w = write-all-spares (write p s f v x) f vs xs a (written x w)
all-written {p} {f} s (gets-later u y vs xs h) w =
    all-written (write p s f u y) h (writable-stays (grown-write p s f u y) w)

-- ---- what was there before some writes

pub record SameNumber (s s' : State) : Type 0 where
  pub of-objects : length s'.objects ≡ length s.objects
  pub of-frames : length s'.frames ≡ length s.frames

pub write-number : (p : Program) (s : State) (f v : ℕ) (x : Value) → SameNumber s (write p s f v x)
write-number p s f v x = go (place_of p v)
  where
    at : (g : Option ℕ) → SameNumber s (write_in s g v x)
    at none = record { of-objects = refl; of-frames = refl }
    at (some g) = record { of-objects = refl; of-frames = length-set s.frames g _ }

    go : (q : Place) → SameNumber s (write_place q s f v x)
    go nowhere = record { of-objects = refl; of-frames = refl }
    go bag = record { of-objects = refl; of-frames = refl }
    go (named n) = record { of-objects = length-set s.objects _ _; of-frames = refl }
    go (local k) = at (nearest_of s f k)

pub write-all-number : (p : Program) (s : State) (f : ℕ) (vs : List ℕ) (xs : List Value) → SameNumber s (write_all p s f vs xs)
write-all-number p s f [] xs = record { of-objects = refl; of-frames = refl }
write-all-number p s f (v ∷ vs) [] = record { of-objects = refl; of-frames = refl }
write-all-number p s f (v ∷ vs) (x ∷ xs) =
    let a = write-number p s f v x in
    let b = write-all-number p (write p s f v x) f vs xs in
    record { of-objects = b.of-objects ∙ a.of-objects; of-frames = b.of-frames ∙ a.of-frames }

nearest-was : {s s' : State} {k f g : ℕ} → Grown s s' → SameNumber s s' → Nearest s' k f (some g) → Nearest s k f (some g)
nearest-was {s} w e (itself f l q) =
    let h : f < length s.frames = omega (arith, e.of-frames) in
    itself f h (sym (w.same-frames f h).same-scope ∙ q)
nearest-was {s} w e (outward f g r l n q o d) =
    let h : f < length s.frames = omega (arith, e.of-frames) in
    let z = w.same-frames f h in
    outward f g r h (λ i. n (z.same-scope ∙ i)) (sym z.same-outward ∙ q) o (nearest-was w e d)

pub writable-was : {p : Program} {s s' : State} {f v : ℕ} → Grown s s' → SameNumber s s' → Writable p s' f v → Writable p s f v
writable-was w e (to-bag b) = to-bag b
writable-was w e (to-global n h l) = to-global n h (omega (arith, e.of-objects))
writable-was w e (to-frame k g h q) = to-frame k g h (nearest-was w e q)
