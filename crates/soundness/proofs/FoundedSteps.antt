-- Every step leaves a well-founded state well founded, whatever the program. Assumes nothing.
use mathlib.Core.Path.{sym, subst}
use mathlib.Core.List.Memᴰ
use mathlib.Core.List.{List, [], ◌∷◌}
use mathlib.Core.Bool.{Bool, true, false, cond}
use mathlib.Core.Option.{Option, none, some}
use Prim.Native.Nat.{ℕ, zero, suc, ◌≤◌, ◌<◌}
use native.Mathlib.Omega.{arith}
use native.Mathlib.Decide.{dec_lt}
use lib.ListN.{length, replicate, length-append, get_or-eq_default}
use Rattle.format.specs.Sheet.{type_of, built_in}
use Rattle.program.specs.Program.{Program, is_function, this_of, formals_of}
use Rattle.machine.specs.State.{Value, primitive, object, Object, Caller, Frame, State, no_frame, object_at, frame_at, or_primitive, with_object, with_frame, set_object, with_value}
use Rattle.machine.specs.Lookup.{nearest_of, or_else, find, find_of}
use Rattle.machine.specs.Variable.{Place, nowhere, bag, named, local, place_of, read_in, read_place, read, read_all, write_in, write_place, write, write_all}
use Rattle.machine.specs.Property.{prototype_of_type, is_guest, prototype_for, fresh, next, make_object, make_function_object, load_from, store_to}
use Rattle.machine.specs.Call.{frame_of, enter, call_of, prototype_found, new_of, prim_of, return_to}
use Rattle.machine.specs.Step.{grant_of, thrown_in}
use Rattle.soundness.specs.Founded.{ObjectBelow, primitive-below, object-below, AnyBelow, none_below, value-below, frame_below, caller-below, ObjectFounded, Founded}
use Rattle.soundness.proofs.Variables.{write-untouched}
use Rattle.soundness.proofs.Founded.{below_more, any_value, is_below, element-below, value-founded, founded-object, founded-value, founded-frame, founded-variable, founded-bagged, founded-cond}

-- a value of the state
abbrev pub Below : State → Value → Type 0
Below s x = ObjectBelow (length s.objects) x

-- values of the state
pub data AllBelow (n : ℕ) : List Value → Type 0 where
  all_none : AllBelow n []
  all_more : (x : Value) (xs : List Value) → ObjectBelow n x → AllBelow n xs → AllBelow n (x ∷ xs)

all-later : {n m : ℕ} {xs : List Value} → n ≤ m → AllBelow n xs → AllBelow m xs
all-later h all_none = all_none
all-later h (all_more x xs k ks) = all_more x xs (below_more h k) (all-later h ks)

primitives : (n m : ℕ) → AllBelow n (replicate m primitive)
primitives n zero = all_none
primitives n (suc m) = all_more primitive (replicate m primitive) primitive-below (primitives n m)

next-below : (s : State) (o : Object) → Below (with_object s o) (next s)
next-below s o = object-below (length s.objects) (omega (arith, length-append s.objects (o ∷ [])))

module _ (p : Program) where
  later_write : (s : State) (f v : ℕ) (y : Value) {x : Value} → Below s x → Below (write p s f v y) x
  later_write s f v y h = below_more (write-untouched p s f v y).objects-kept.longer h

  -- ---- variables

  pub read-founded : (s : State) (f v i : ℕ) → Founded s → Below s (read p s f v i)
  read-founded s f v i d = go (place_of p v)
    where
      here : (g : ℕ) → Dec (g < length s.frames) → Below s ((frame_at s g).variables v)
      here g (yes l) = (d.frames-founded g l).variables-there v
      here g (no l) =
          subst (λ (z : Frame). Below s (z.variables v)) (sym (get_or-eq_default s.frames no_frame {n = g} (omega arith))) primitive-below

      at : (g : Option ℕ) → Below s (read_in s g v)
      at none = primitive-below
      at (some g) = here g (dec_lt g (length s.frames))

      go : (q : Place) → Below s (read_place q s f v i)
      go nowhere = primitive-below
      go bag = element-below (s.bags v) (d.bags-there v) i
      go (named n) = any_value ((d.objects-founded 1 (omega (arith, d.four-objects))).values-there n 0)
      go (local k) = at (nearest_of s f k)

  pub read-all-founded : (s : State) (f : ℕ) (vs : List ℕ) (which : ℕ → ℕ) (i : ℕ) → Founded s → AllBelow (length s.objects) (read_all p s f vs which i)
  read-all-founded s f [] which i d = all_none
  read-all-founded s f (v ∷ vs) which i d = all_more _ _ (read-founded s f v (which i) d) (read-all-founded s f vs which (suc i) d)

  pub write-founded : (s : State) (f v : ℕ) (x : Value) → Founded s → Below s x → Founded (write p s f v x)
  write-founded s f v x d h = go (place_of p v)
    where
      at : (g : Option ℕ) → Founded (write_in s g v x)
      at none = d
      at (some g) = founded-variable s g v x d h

      go : (q : Place) → Founded (write_place q s f v x)
      go nowhere = d
      go bag = founded-bagged s v x d h
      go (named n) = founded-value s 1 n 0 x d h
      go (local k) = at (nearest_of s f k)

  write-all-founded : (s : State) (f : ℕ) (vs : List ℕ) (xs : List Value) → Founded s → AllBelow (length s.objects) xs → Founded (write_all p s f vs xs)
  write-all-founded s f [] xs d h = d
  write-all-founded s f (v ∷ vs) [] d h = d
  write-all-founded s f (v ∷ vs) (x ∷ xs) d (all_more _ _ h hs) =
      write-all-founded (write p s f v x) f vs xs (write-founded s f v x d h) (all-later (write-untouched p s f v x).objects-kept.longer hs)

  -- ---- objects

  or-below : {n : ℕ} {a b : Option Value} → AnyBelow n a → AnyBelow n b → AnyBelow n (or_else a b)
  or-below none_below k = k
  or-below (value-below x h) k = value-below x h

  find-founded : (s : State) (d : ℕ) (x : Value) (n j : ℕ) → Founded s → Below s x → AnyBelow (length s.objects) (find s.objects d x n j)
  find-founded s zero x n j f h = none_below
  find-founded s (suc d) primitive n j f h = none_below
  find-founded s (suc d) (object i) n j f h =
      let o = f.objects-founded i (is_below h) in
      or-below (o.values-there n j) (find-founded s d (object_at s i).prototype n j f (below_more (omega (arith, is_below h)) o.prototype-older))

  pub prototype-below : (n : ℕ) → 4 ≤ n → (k : ℕ) → ObjectBelow n (prototype_of_type k)
  prototype-below n h zero = primitive-below
  prototype-below n h (suc zero) = object-below 0 (omega arith)
  prototype-below n h (suc (suc zero)) = object-below 2 (omega arith)
  prototype-below n h (suc (suc (suc k))) = object-below 3 (omega arith)

  made-below : (n : ℕ) → 4 ≤ n → (l c : ℕ) → ObjectBelow n (prototype_for p l c)
  made-below n h l c = go (is_guest p.guests l)
    where
      go : (b : Bool) → ObjectBelow n (cond b (prototype_of_type (suc c)) (prototype_of_type (type_of p.sheet l)))
      go true = prototype-below n h (suc c)
      go false = prototype-below n h (type_of p.sheet l)

  pub bare-founded : (a c i l f : ℕ) (x : Value) → ObjectBelow i x → f < c → ObjectFounded a c i (fresh l x f)
  bare-founded a c i l f x h k = record { prototype-older = h; values-there = λ n j. none_below; kept_there = k }

  fresh-founded : (s : State) (l f : ℕ) (x : Value) → Founded s → f < length s.frames → Below s x → Founded (with_object s (fresh l x f))
  fresh-founded s l f x d h k = founded-object s (fresh l x f) d (bare-founded (suc (length s.objects)) (length s.frames) (length s.objects) l f x k h)

  pub make-founded : (s : State) (f y l c : ℕ) → Founded s → f < length s.frames → Founded (make_object p s f y l c)
  make-founded s f y l c d h =
      let o = fresh l (prototype_for p l c) f in
      write-founded (with_object s o) f y (next s) (fresh-founded s l f (prototype_for p l c) d h (made-below (length s.objects) d.four-objects l c))
      (next-below s o)

  pub make-function-founded : (s : State) (f y l q c c' : ℕ) → Founded s → f < length s.frames → Founded (make_function_object p s f y l q c c')
  make-function-founded s f y l q c c' d h =
      let o = fresh q (prototype_for p q c') f in
      let s' = with_object s o in
      let d' = fresh-founded s q f (prototype_for p q c') d h (made-below (length s.objects) d.four-objects q c') in
      let bare = fresh l (prototype_for p l c) f in
      let n' = length s'.objects in
      let o' = with_value bare 3 0 (next s) in
      write-founded (with_object s' o') f y (next s')
      (founded-object s' o' d'
      (value-founded bare 3 0 (next s) (bare-founded (suc n') (length s.frames) n' l f (prototype_for p l c) (made-below n' d'.four-objects l c) h)
      (below_more (omega arith) (next-below s o))))
      (next-below s' o')

  pub load-founded : (s : State) (f y : ℕ) (x : Value) (u c n j : ℕ) → Founded s → f < length s.frames → Below s x → Founded (load_from p s f y x u c n j)
  load-founded s f y (object i) u c n j d h k =
      write-founded s f y (or_primitive (find_of s (object i) n j)) d (any_value (find-founded s (length s.objects) (object i) n j d k))
  load-founded s f y primitive u c n j d h k =
      let o = fresh u (prototype_for p u c) f in
      let s' = with_object s o in
      let d' = fresh-founded s u f (prototype_for p u c) d h (made-below (length s.objects) d.four-objects u c) in
      write-founded s' f y (or_primitive (find_of s' (next s) n j)) d'
      (any_value (find-founded s' (length s'.objects) (next s) n j d' (next-below s o)))

  pub store-founded : (s : State) (x a : Value) (n j : ℕ) → Founded s → Below s a → Founded (store_to p s x a n j)
  store-founded s primitive a n j d h = d
  store-founded s (object i) a n j d h =
      founded-cond (built_in p.sheet (object_at s i).label) s (set_object s i (with_value (object_at s i) n j a)) (λ e. d) (λ e. founded-value s i n j a d h)

  -- ---- calls

  pub call-founded : (s : State) (f y : ℕ) (by_new : Bool) (x this : Value) (xs : List Value) → Founded s → f < length s.frames → Below s x → Below s this
      → AllBelow (length s.objects) xs → Founded (call_of p s f y by_new x this xs)
  call-founded s f y by_new primitive this xs d h hx ht ha = d
  call-founded s f y by_new (object i) this xs d h hx ht ha =
      let o = object_at s i in
      let g = length s.frames in
      let s' = with_frame s (frame_of o f y by_new) in
      let v = this_of p.sheet o.label in
      let d' = founded-frame s (frame_of o f y by_new) d
      (record {
        outward-older = frame_below o.kept (d.objects-founded i (is_below hx)).kept_there;
        caller-older = caller-below _ h;
        variables-there = λ u. primitive-below;
        thrown-there = λ z m. absurd (Memᴰ.not-nil m);
      }) in
      founded-cond (is_function p.sheet o.label) (enter p s f y by_new o this xs) s
      (λ e. write-all-founded (write p s' g v this) g (formals_of p.sheet o.label) xs (write-founded s' g v this d' ht)
      (all-later (write-untouched p s' g v this).objects-kept.longer ha))
      (λ e. d)

  found_below : (n : ℕ) → 4 ≤ n → {r : Option Value} → AnyBelow n r → ObjectBelow n (prototype_found r)
  found_below n h none_below = object-below 0 (omega arith)
  found_below n h (value-below primitive k) = object-below 0 (omega arith)
  found_below n h (value-below (object i) k) = k

  pub new-founded : (s : State) (f y u l j : ℕ) (x : Value) (xs : List Value) → Founded s → f < length s.frames → Below s x
      → AllBelow (length s.objects) xs → Founded (new_of p s f y u l x j xs)
  new-founded s f y u l j primitive xs d h hx ha = d
  new-founded s f y u l j (object i) xs d h hx ha =
      let r = prototype_found (find_of s (object i) 3 j) in
      let o = fresh l r f in
      let s1 = with_object s o in
      let d1 = fresh-founded s l f r d h (found_below (length s.objects) d.four-objects (find-founded s (length s.objects) (object i) 3 j d hx)) in
      let in1 = next-below s o in
      let s2 = write p s1 f u (next s) in
      let n2 = write-untouched p s1 f u (next s) in
      let d2 = write-founded s1 f u (next s) d1 in1 in
      let in2 = later_write s1 f u (next s) in1 in
      let s3 = write p s2 f y (next s) in
      let n3 = write-untouched p s2 f y (next s) in
      let d3 = write-founded s2 f y (next s) d2 in2 in
      let more : length s.objects ≤ length s3.objects =
      omega (arith, n2.objects-kept.longer, n3.objects-kept.longer, length-append s.objects (o ∷ [])) in
      founded-cond (is_function p.sheet (object_at s i).label) (call_of p s3 f y true (object i) (next s) xs) s
      (λ e. call-founded s3 f y true (object i) (next s) xs d3 (omega (arith, n2.frames-length, n3.frames-length)) (below_more more hx)
      (later_write s2 f y (next s) in2) (all-later more ha))
      (λ e. d)

  pub prim-founded : (s : State) (f : ℕ) (x : Value) (n j : ℕ) → Founded s → f < length s.frames → Below s x → Founded (prim_of p s f x n j)
  prim-founded s f primitive n j d h hx = d
  prim-founded s f (object i) n j d h hx =
      call-founded s f 0 false (or_primitive (find_of s (object i) n j)) (object i) (replicate 6 primitive) d h
      (any_value (find-founded s (length s.objects) (object i) n j d hx)) hx (primitives (length s.objects) 6)

  pub return-founded : (s : State) (c : Option Caller) (x : Value) → Founded s → Below s x → Founded (return_to p s c x)
  return-founded s none x d h = d
  return-founded s (some c) primitive d h =
      founded-cond c.by_new s (write p s c.frame c.result primitive) (λ e. d) (λ e. write-founded s c.frame c.result primitive d h)
  return-founded s (some c) (object i) d h = write-founded s c.frame c.result (object i) d h

  pub thrown-founded : (s : State) (f i : ℕ) → Founded s → f < length s.frames → Below s (thrown_in s f i)
  thrown-founded s f i d h = element-below (frame_at s f).thrown (d.frames-founded f h).thrown-there i

  pub grant-founded : (to : Bool) (s : State) (f v b i : ℕ) → Founded s → Founded (grant_of p to s f v b i)
  grant-founded true s f v b i d = write-founded s f b (read p s f v i) d (read-founded s f v i d)
  grant-founded false s f v b i d = write-founded s f v (read p s f b i) d (read-founded s f b i d)
