-- Each change of a state leaves it well founded. Assumes nothing.
use mathlib.Core.Path.{◌≡◌, refl, sym, subst}
use mathlib.Core.Logic.{inl, inr}
use mathlib.Core.List.Memᴰ
use mathlib.Core.List.{List, [], ◌∷◌, ◌++◌, Memᴰ}
use mathlib.Core.Bool.{Bool, true, false, cond, ◌&&◌}
use mathlib.Core.Option.{Option, some}
use Prim.Native.Nat.{ℕ, zero, suc, ◌≤◌, ◌<◌}
use native.Mathlib.Omega.{arith}
use native.Mathlib.Decide.{ℕ_discrete, dec_lt}
use lib.ListN.{length, get_or, set, length-set, length-append, get_or-append}
use lib.Seq.{get_or-set_same, get_or-set_other, get_or-append_seam}
use lib.Dec.{eqb}
use Rattle.machine.specs.State.{Value, primitive, object, Object, Frame, State, no_object, no_frame, object_at, frame_at, or_primitive, with_object, with_frame, set_object, set_frame, with_bagged, with_value, with_variable, with_thrown}
use Rattle.soundness.specs.Founded.{ObjectBelow, primitive-below, object-below, AnyBelow, none_below, value-below, ObjectFounded, FrameFounded, Founded}

-- ---- lists, one element more or another one at a place

append-there : {A : Type 0} (C : ℕ → A → Type 0) (xs : List A) (x d : A) → ((i : ℕ) → i < length xs → C i (get_or xs i d)) → C (length xs) x
    → (i : ℕ) → i < length (xs ++ (x ∷ [])) → C i (get_or (xs ++ (x ∷ [])) i d)
append-there C xs x d h hx i l = go (dec_lt i (length xs))
  where
    go : Dec (i < length xs) → C i (get_or (xs ++ (x ∷ [])) i d)
    go (yes q) = subst (C i) (sym (get_or-append xs (x ∷ []) d i q)) (h i q)
    go (no q) =
        let e : i ≡ length xs = omega (arith, length-append xs (x ∷ [])) in
        rw (e, get_or-append_seam xs x [] d) hx

set_there : {A : Type 0} (C : ℕ → A → Type 0) (xs : List A) (k : ℕ) (x d : A) → ((i : ℕ) → i < length xs → C i (get_or xs i d)) → (k < length xs → C k x)
    → (i : ℕ) → i < length (set xs k x) → C i (get_or (set xs k x) i d)
set_there C xs k x d h hx i l = go (ℕ_discrete i k)
  where
    there : i < length xs
    there = omega (arith, length-set xs k x)

    go : Dec (i ≡ k) → C i (get_or (set xs k x) i d)
    go (no e) = subst (C i) (sym (get_or-set_other xs k i x d e)) (h i there)
    go (yes e) = let q : k < length xs = omega (arith, there) in rw (e, get_or-set_same xs k x d q) (hx q)

-- ---- values

pub below_more : {n m : ℕ} {x : Value} → n ≤ m → ObjectBelow n x → ObjectBelow m x
below_more h primitive-below = primitive-below
below_more h (object-below i l) = object-below i (omega arith)

any-more : {n m : ℕ} {x : Option Value} → n ≤ m → AnyBelow n x → AnyBelow m x
any-more h none_below = none_below
any-more h (value-below x l) = value-below x (below_more h l)

pub any_value : {n : ℕ} {x : Option Value} → AnyBelow n x → ObjectBelow n (or_primitive x)
any_value none_below = primitive-below
any_value (value-below x l) = l

pub is_below : {n i : ℕ} → ObjectBelow n (object i) → i < n
is_below (object-below i l) = l

pub element-below : {n : ℕ} (xs : List Value) → ((x : Value) → Memᴰ x xs → ObjectBelow n x) → (i : ℕ) → ObjectBelow n (get_or xs i primitive)
element-below [] h i = primitive-below
element-below (x ∷ xs) h zero = h x (Memᴰ.head refl)
element-below (x ∷ xs) h (suc i) = element-below xs (λ y m. h y (Memᴰ.tail m)) i

members-below : {n : ℕ} (xs : List Value) (x : Value) → ((y : Value) → Memᴰ y xs → ObjectBelow n y) → ObjectBelow n x
    → (y : Value) → Memᴰ y (xs ++ (x ∷ [])) → ObjectBelow n y
members-below {n} xs x h hx y m =
    elim (Memᴰ.append_cases xs m) [
      | inl q ↦ h y q
      | inr q ↦ subst (ObjectBelow n) (sym (Memᴰ.eq_of_singleton q)) hx
    ]

-- ---- objects and frames as their number grows

object-more : {a b c d i : ℕ} {o : Object} → a ≤ b → c ≤ d → ObjectFounded a c i o → ObjectFounded b d i o
object-more h k f =
    record {
      prototype-older = f.prototype-older;
      values-there = λ n j. any-more h (f.values-there n j);
      kept_there = omega (arith, f.kept_there);
    }

frame-more : {a b f : ℕ} {g : Frame} → a ≤ b → FrameFounded a f g → FrameFounded b f g
frame-more h k =
    record {
      outward-older = k.outward-older;
      caller-older = k.caller-older;
      variables-there = λ v. below_more h (k.variables-there v);
      thrown-there = λ x m. below_more h (k.thrown-there x m);
    }

pub value-founded : {a c i : ℕ} (o : Object) (n j : ℕ) (x : Value) → ObjectFounded a c i o → ObjectBelow a x → ObjectFounded a c i (with_value o n j x)
value-founded {a} o n j x h hx =
    record { prototype-older = h.prototype-older; values-there = λ m i. go m i (eqb m n && eqb i j); kept_there = h.kept_there }
  where
    go : (m i : ℕ) (b : Bool) → AnyBelow a (cond b (some x) (o.values m i))
    go m i true = value-below x hx
    go m i false = h.values-there m i

-- ---- changes

pub founded-object : (s : State) (o : Object) → Founded s → ObjectFounded (suc (length s.objects)) (length s.frames) (length s.objects) o
    → Founded (with_object s o)
founded-object s o d h =
    let e : length (s.objects ++ (o ∷ [])) ≡ suc (length s.objects) = omega (arith, length-append s.objects (o ∷ [])) in
    record {
      four-objects = omega (arith, d.four-objects);
      objects-founded =
          append-there (λ (i : ℕ) (z : Object). ObjectFounded (length (s.objects ++ (o ∷ []))) (length s.frames) i z) s.objects o no_object
          (λ i l. object-more (omega arith) (omega arith) (d.objects-founded i l)) (rw e h);
      frames-founded = λ f l. frame-more (omega arith) (d.frames-founded f l);
      bags-there = λ b x m. below_more (omega arith) (d.bags-there b x m);
    }

pub founded-value : (s : State) (i n j : ℕ) (x : Value) → Founded s → ObjectBelow (length s.objects) x
    → Founded (set_object s i (with_value (object_at s i) n j x))
founded-value s i n j x d h =
    let o = with_value (object_at s i) n j x in
    let e : length (set s.objects i o) ≡ length s.objects = length-set s.objects i o in
    record {
      four-objects = omega (arith, d.four-objects);
      objects-founded =
          set_there (λ (k : ℕ) (z : Object). ObjectFounded (length (set s.objects i o)) (length s.frames) k z) s.objects i o no_object
          (λ k l. object-more (omega arith) (omega arith) (d.objects-founded k l))
          (λ l. object-more (omega arith) (omega arith) (value-founded (object_at s i) n j x (d.objects-founded i l) h));
      frames-founded = λ f l. frame-more (omega arith) (d.frames-founded f l);
      bags-there = λ b y m. below_more (omega arith) (d.bags-there b y m);
    }

pub founded-frame : (s : State) (f : Frame) → Founded s → FrameFounded (length s.objects) (length s.frames) f → Founded (with_frame s f)
founded-frame s f d h =
    record {
      four-objects = d.four-objects;
      objects-founded = λ i l. object-more (omega arith) (omega (arith, length-append s.frames (f ∷ []))) (d.objects-founded i l);
      frames-founded = append-there (λ (k : ℕ) (z : Frame). FrameFounded (length s.objects) k z) s.frames f no_frame d.frames-founded h;
      bags-there = d.bags-there;
    }

founded-set-frame : (s : State) (i : ℕ) (f : Frame) → Founded s → (i < length s.frames → FrameFounded (length s.objects) i f)
    → Founded (set_frame s i f)
founded-set-frame s i f d h =
    record {
      four-objects = d.four-objects;
      objects-founded = λ k l. object-more (omega arith) (omega (arith, length-set s.frames i f)) (d.objects-founded k l);
      frames-founded = set_there (λ (k : ℕ) (z : Frame). FrameFounded (length s.objects) k z) s.frames i f no_frame d.frames-founded h;
      bags-there = d.bags-there;
    }

pub founded-variable : (s : State) (i v : ℕ) (x : Value) → Founded s → ObjectBelow (length s.objects) x
    → Founded (set_frame s i (with_variable (frame_at s i) v x))
founded-variable s i v x d h = founded-set-frame s i (with_variable (frame_at s i) v x) d changed
  where
    at : (u : ℕ) (b : Bool) → ObjectBelow (length s.objects) ((frame_at s i).variables u) → ObjectBelow (length s.objects) (cond b x ((frame_at s i).variables u))
    at u true k = h
    at u false k = k

    changed : i < length s.frames → FrameFounded (length s.objects) i (with_variable (frame_at s i) v x)
    changed l =
        let g = d.frames-founded i l in
        record {
          outward-older = g.outward-older;
          caller-older = g.caller-older;
          variables-there = λ u. at u (eqb u v) (g.variables-there u);
          thrown-there = g.thrown-there;
        }

pub founded-thrown : (s : State) (i : ℕ) (x : Value) → Founded s → ObjectBelow (length s.objects) x
    → Founded (set_frame s i (with_thrown (frame_at s i) x))
founded-thrown s i x d h =
    founded-set-frame s i (with_thrown (frame_at s i) x) d
    (λ l.
    let g = d.frames-founded i l in
    record {
      outward-older = g.outward-older;
      caller-older = g.caller-older;
      variables-there = g.variables-there;
      thrown-there = members-below (frame_at s i).thrown x g.thrown-there h;
    })

pub founded-bagged : (s : State) (b : ℕ) (x : Value) → Founded s → ObjectBelow (length s.objects) x → Founded (with_bagged s b x)
founded-bagged s b x d h =
    record {
      four-objects = d.four-objects;
      objects-founded = d.objects-founded;
      frames-founded = d.frames-founded;
      bags-there = λ c. go c (eqb c b);
    }
  where
    go : (c : ℕ) (a : Bool) (y : Value) → Memᴰ y (cond a (s.bags c ++ (x ∷ [])) (s.bags c)) → ObjectBelow (length s.objects) y
    go c true y m = members-below (s.bags c) x (d.bags-there c) h y m
    go c false y m = d.bags-there c y m

pub founded-cond : (b : Bool) (s s' : State) → (b ≡ true → Founded s) → (b ≡ false → Founded s') → Founded (cond b s s')
founded-cond true s s' h h' = h refl
founded-cond false s s' h h' = h' refl
