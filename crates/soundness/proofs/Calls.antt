-- Call, new, prim, and what goes back to the caller. Assumes nothing.
use mathlib.Core.Path.{◌≡◌, refl, ap, ◌∙◌}
use mathlib.Core.List.{List, [], ◌∷◌, ◌++◌, Memᴰ}
use mathlib.Core.Bool.{Bool, true, false}
use mathlib.Core.Option.{Option, none, some}
use Prim.Native.Nat.{ℕ, ◌<◌}
use native.Mathlib.Omega.{arith}
use lib.ListN.{length, length-append, replicate, get_or-append}
use Rattle.rows.specs.Row.{variable, thrown, chain, property}
use Rattle.rules.specs.Rule.{include, each, ◌also◌}
use Rattle.rules.specs.Table.{Table, Has}
use Rattle.rules.specs.Told.{Closed}
use Rattle.program.specs.Program.{Program, is_function, this_of, formals_of, returns_of}
use Rattle.analysis.specs.Rules.{entering, calling, making, converting}
use Rattle.machine.specs.State.{Value, primitive, object, Object, Caller, Frame, State, no_frame, frame_in, object_at, frame_at, or_primitive, with_object, with_frame}
use Rattle.machine.specs.Lookup.{find_of}
use Rattle.machine.specs.Variable.{read, write}
use Rattle.machine.specs.Property.{fresh, next}
use Rattle.machine.specs.Call.{frame_of, enter, call_of, prototype_found, new_of, prim_of, return_to, hand_to}
use Rattle.machine.specs.Step.{prim_names, thrown_in}
use Rattle.soundness.specs.Described.{P, T, label_in, Allowed, primitive-allowed, FirstObjects, Linked, LinkedIfCalled, called, Described}
use Rattle.soundness.proofs.Values.{Keeps, keeps-append, keeps-trans, allowed-kept, allowed-more, holds-label, element-allowed, next-allowed}
use Rattle.soundness.proofs.States.{Declared, empty-described, new-frame, described-object, described-frame, described-thrown, described-cond}
use Rattle.soundness.proofs.Setting.{Setting, when-closed, object-on}
use Rattle.soundness.proofs.Variables.{write-untouched, AllAllowed, all-kept, Fitting, fitting-kept, passed-fitting, primitives-fitting, read-allowed, write-described, write-all-described}
use Rattle.soundness.proofs.Properties.{Found, found_nothing, found-on-chain, allowed-found}

-- frame f is there and of scope k
pub record Stands (s : State) (f k : ℕ) : Type 0 where
  pub there : f < length s.frames
  pub of-scope : (frame_at s f).scope ≡ k

module _ {L : ℕ} {t : Table} {p : Program} (w : Setting L t p) where
  -- a function of label g is entered from a frame of scope k, where T(g) is within T(k), each return within y, and this and the arguments fit
  pub enter-described : (s : State) (f k y : ℕ) (by_new : Bool) (o : Object) (this : Value) (xs : List Value) → Described L t p s → Stands s f k
      → Closed L t (include (thrown k) (thrown o.label))
      → ((x : ℕ) → Memᴰ x (returns_of p o.label) → 0 < y → (l : ℕ) → Has t x l → Has t y l)
      → (0 < this_of p.sheet o.label → Allowed t s.objects (this_of p.sheet o.label) this)
      → Fitting t s.objects (formals_of p.sheet o.label) xs → Described L t p (enter p s f y by_new o this xs)
  enter-described s f k y by_new o this xs d st c r ht ha =
      let g = length s.frames in
      let fr = frame_of o f y by_new in
      let s' = with_frame s fr in
      let scope : (frame_in (s.frames ++ (fr ∷ [])) f).scope ≡ k =
      ap (λ (z : Frame). z.scope) (get_or-append s.frames (fr ∷ []) no_frame f st.there) ∙ st.of-scope in
      let link : Linked L t p (s.frames ++ (fr ∷ [])) o.label (record { frame = f; result = y; by_new = by_new }) =
      record {
        caller-there = omega (arith, st.there, length-append s.frames (fr ∷ []));
        thrown-within = λ l h. rw scope (c (omega arith) l h);
        returned-within = r;
      } in
      let d' = described-frame s fr d (new-frame (λ v. refl) refl (called _ link)) in
      write-all-described w (write p s' g (this_of p.sheet o.label) this) g (formals_of p.sheet o.label) xs
      (write-described w s' g (this_of p.sheet o.label) this d' ht)
      (fitting-kept (write-untouched p s' g (this_of p.sheet o.label) this).objects-kept ha)

  pub call-described : (s : State) (f k y : ℕ) (by_new : Bool) (x this : Value) (xs : List Value) (v u : ℕ) (vs : List ℕ) → Described L t p s → Stands s f k
      → Closed L t (calling p k y v u vs) → Allowed t s.objects v x → Allowed t s.objects u this → AllAllowed t s.objects vs xs
      → Described L t p (call_of p s f y by_new x this xs)
  call-described s f k y by_new primitive this xs v u vs d st c hx ht ha = d
  call-described s f k y by_new (object i) this xs v u vs d st c hx ht ha =
      described-cond (is_function p.sheet (object_at s i).label) (enter p s f y by_new (object_at s i) this xs) s
      (λ e.
      let g = (object_at s i).label in
      let r = when-closed L t (is_function p.sheet g) (entering p k y u vs g) e (c g (holds-label hx)) in
      enter-described s f k y by_new (object_at s i) this xs d st r.1.1.1 r.1.1.0 (λ q. allowed-more (r.0 q) ht)
      (passed-fitting L p (formals_of p.sheet g) r.1.0 ha))
      (λ e. d)

  -- ---- new

  found-prototype : (os : List Object) (l g : ℕ) {r : Option Value} → FirstObjects os → Has t (P L l) 1
      → Closed L t (each (chain g) (λ m. include (chain l) (property m 3))) → Found L t os g 3 r → Allowed t os (P L l) (prototype_found r)
  found-prototype os l g first h c found_nothing = object-on first h
  found-prototype os l g first h c (found-on-chain m primitive q a) = object-on first h
  found-prototype os l g first h c (found-on-chain m (object i) q a) = allowed-more (c m q (omega arith)) a

  pub new-described : (s : State) (f k y v u l j : ℕ) (x : Value) (xs : List Value) (vs : List ℕ) → Described L t p s → Stands s f k
      → Closed L t (making p k y v u l vs) → 0 < u → Declared p l → Has t (P L l) 1 → Allowed t s.objects v x → AllAllowed t s.objects vs xs
      → Described L t p (new_of p s f y u l x j xs)
  new-described s f k y v u l j primitive xs vs d st c u0 dl h1 hx ha = d
  new-described s f k y v u l j (object i) xs vs d st c u0 dl h1 hx ha =
      let os = s.objects in
      let pr = found-prototype os l (label_in os i) d.first-objects h1 (c.1.1.0 _ (holds-label hx)) (allowed-found w s i v 3 j d hx) in
      let o = fresh l (prototype_found (find_of s (object i) 3 j)) f in
      let k1 = keeps-append os o in
      let s1 = with_object s o in
      let d1 = described-object s o d dl (empty-described (allowed-kept k1 pr) (λ n i. refl)) in
      let in1 : Allowed t s1.objects u (next s) = next-allowed os o (c.0 u0) in
      let s2 = write p s1 f u (next s) in
      let n2 = write-untouched p s1 f u (next s) in
      let in2 = allowed-kept n2.objects-kept in1 in
      let d2 = write-described w s1 f u (next s) d1 (λ q. in1) in
      let s3 = write p s2 f y (next s) in
      let n3 = write-untouched p s2 f y (next s) in
      let d3 = write-described w s2 f y (next s) d2 (λ q. allowed-more (c.1.0 q) in2) in
      let k3 : Keeps os s3.objects = keeps-trans k1 (keeps-trans n2.objects-kept n3.objects-kept) in
      let st3 : Stands s3 f k =
      record {
        there = omega (arith, n2.frames-length, n3.frames-length, st.there);
        of-scope = n3.scopes-kept f ∙ n2.scopes-kept f ∙ st.of-scope;
      } in
      described-cond (is_function p.sheet (object_at s i).label) (call_of p s3 f y true (object i) (next s) xs) s
      (λ e. call-described s3 f k y true (object i) (next s) xs v u vs d3 st3 c.1.1.1 (allowed-kept k3 hx) (allowed-kept n3.objects-kept in2)
      (all-kept k3 ha))
      (λ e. d)

  -- ---- prim

  pub prim-described : (s : State) (f k v n j : ℕ) (x : Value) → Described L t p s → Stands s f k → Closed L t (converting p k v) → Memᴰ n prim_names
      → Allowed t s.objects v x → Described L t p (prim_of p s f x n j)
  prim-described s f k v n j primitive d st c m hx = d
  prim-described s f k v n j (object i) d st c m hx = go (find_of s (object i) n j) (allowed-found w s i v n j d hx)
    where
      go : (r : Option Value) → Found L t s.objects (label_in s.objects i) n r
          → Described L t p (call_of p s f 0 false (or_primitive r) (object i) (replicate 6 primitive))
      go none found_nothing = d
      go (some primitive) (found-on-chain _ _ q a) = d
      go (some (object g)) (found-on-chain b _ q a) =
          described-cond (is_function p.sheet (object_at s g).label) (enter p s f 0 false (object_at s g) (object i) (replicate 6 primitive)) s
          (λ e.
          let l = (object_at s g).label in
          let r = when-closed L t (is_function p.sheet l)
          (include (variable (this_of p.sheet l)) (variable v) also include (thrown k) (thrown l)) e (c _ (holds-label hx) b q n m l (holds-label a)) in
          enter-described s f k 0 false (object_at s g) (object i) (replicate 6 primitive) d st r.1 (λ y h q0. absurd (omega arith))
          (λ q0. allowed-more (r.0 q0) hx) (primitives-fitting (formals_of p.sheet l) 6))
          (λ e. d)

  -- ---- back to the caller

  pub return-described : (s : State) (f v i : ℕ) → Described L t p s → Memᴰ v (returns_of p (frame_at s f).scope)
      → Described L t p (return_to p s (frame_at s f).caller (read p s f v i))
  return-described s f v i d m = go (frame_at s f).caller (d.frames-described f).linked (read p s f v i) (read-allowed w s f v i d)
    where
      go : (c : Option Caller) → LinkedIfCalled L t p s.frames (frame_at s f).scope c → (x : Value) → Allowed t s.objects v x
          → Described L t p (return_to p s c x)
      go none h x hx = d
      go (some c) h primitive hx =
          described-cond c.by_new s (write p s c.frame c.result primitive) (λ e. d)
          (λ e. write-described w s c.frame c.result primitive d (λ q. primitive-allowed))
      go (some c) (called _ h) (object j) hx =
          write-described w s c.frame c.result (object j) d (λ q. allowed-more (h.returned-within v m q) hx)

  pub thrown-in-allowed : (s : State) (f i : ℕ) → Described L t p s → Allowed t s.objects (T L (frame_at s f).scope) (thrown_in s f i)
  thrown-in-allowed s f i d = element-allowed (frame_at s f).thrown (d.frames-described f).thrown-allowed i

  pub hand-described : (s : State) (f i : ℕ) → Described L t p s → Described L t p (hand_to s (frame_at s f).caller (thrown_in s f i))
  hand-described s f i d = go (frame_at s f).caller (d.frames-described f).linked
    where
      go : (c : Option Caller) → LinkedIfCalled L t p s.frames (frame_at s f).scope c → Described L t p (hand_to s c (thrown_in s f i))
      go none h = d
      go (some c) (called _ h) = described-thrown s c.frame (thrown_in s f i) d (allowed-more h.thrown-within (thrown-in-allowed s f i d))
