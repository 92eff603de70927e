-- Load, store and what is made: whatever is met along an object's prototypes has its label on the object's chain. Assumes nothing.
use mathlib.Core.Path.{◌≡◌, refl, ap}
use mathlib.Core.List.{List, [], ◌∷◌, ◌++◌, Memᴰ}
use mathlib.Core.Bool.{not}
use mathlib.Core.Option.{Option, none, some}
use Prim.Native.Nat.{ℕ, zero, suc, ◌<◌}
use native.Mathlib.Omega.{arith}
use lib.ListN.{length}
use Rattle.rules.specs.Table.{Table, Has}
use Rattle.rules.specs.Told.{Closed}
use Rattle.format.specs.Sheet.{built_in}
use Rattle.program.specs.Statement as say
use Rattle.program.specs.Program.{Program, names_of}
use Rattle.analysis.specs.Rules.{looking, loading, storing, rule_of}
use Rattle.machine.specs.State.{Value, primitive, object, Object, State, object_in, object_at, or_primitive, with_object, set_object, with_value}
use Rattle.machine.specs.Lookup.{or_else, find, find_of}
use Rattle.machine.specs.Property.{prototype_for, fresh, next, make_object, make_function_object, load_from, store_to}
use Rattle.soundness.specs.Described.{P, H, label_in, Allowed, primitive-allowed, object-allowed, AllowedIfAny, nothing-there, value_there, ObjectDescribed, Described}
use Rattle.soundness.proofs.Values.{keeps-append, first-kept, allowed-kept, allowed-more, is-there, holds-label, next-allowed}
use Rattle.soundness.proofs.States.{Declared, empty-described, value-described, described-object, described-value, described-cond}
use Rattle.soundness.proofs.Setting.{Setting, when-closed, made-prototype}
use Rattle.soundness.proofs.Variables.{write-described}

-- nothing was found, or a value that is in H(m,n) for a label m of P(l)
pub data Found (L : ℕ) (t : Table) (os : List Object) (l n : ℕ) : Option Value → Type 0 where
  found_nothing : Found L t os l n none
  found-on-chain : (m : ℕ) (x : Value) → Has t (P L l) m → Allowed t os (H L m n) x → Found L t os l n (some x)

found_first : {L : ℕ} {t : Table} {os : List Object} {l n : ℕ} (m : ℕ) {a b : Option Value} → Has t (P L l) m → AllowedIfAny t os (H L m n) a → Found L t os l n b
    → Found L t os l n (or_else a b)
found_first m h nothing-there g = g
found_first m h (value_there x a) g = found-on-chain m x h a

-- a load into y may take what was found
found-allowed : (L : ℕ) {t : Table} {os : List Object} (p : Program) (l n y key : ℕ) {r : Option Value} → Closed L t (looking p y key l)
    → Memᴰ n (names_of p.sheet key) → Found L t os l n r → 0 < y → Allowed t os y (or_primitive r)
found-allowed L p l n y key c m found_nothing q = primitive-allowed
found-allowed L p l n y key c m (found-on-chain k x h a) q = allowed-more (c k h n m q) a

module _ {L : ℕ} {t : Table} {p : Program} (w : Setting L t p) where
  -- from a value whose label is on the chain of l
  find-found : (os : List Object) → ((i : ℕ) → ObjectDescribed L t os (object_in os i)) → (l : ℕ) → Declared p l → (d : ℕ) (x : Value) (n j : ℕ)
      → Allowed t os (P L l) x → Found L t os l n (find os d x n j)
  find-found os ok l dl zero x n j h = found_nothing
  find-found os ok l dl (suc d) primitive n j h = found_nothing
  find-found os ok l dl (suc d) (object i) n j h =
      found_first (label_in os i) (holds-label h) ((ok i).values-allowed n j)
      (find-found os ok l dl d (object_in os i).prototype n j
      (allowed-more ((w.chain-rule l dl).1.1 (label_in os i) (holds-label h) (omega arith)) (ok i).prototype-on-chain))

  -- from an object of label l
  pub object-found : (s : State) (i l n j : ℕ) → Described L t p s → Declared p l → i < length s.objects → label_in s.objects i ≡ l
      → Found L t s.objects l n (find_of s (object i) n j)
  object-found s i l n j d dl h e =
      find-found s.objects d.objects-described l dl (length s.objects) (object i) n j
      (object-allowed i h (rw e ((w.chain-rule l dl).0 (omega arith))))

  -- from a value that a row allows
  pub allowed-found : (s : State) (i r n j : ℕ) → Described L t p s → Allowed t s.objects r (object i)
      → Found L t s.objects (label_in s.objects i) n (find_of s (object i) n j)
  allowed-found s i r n j d h = object-found s i _ n j d (d.labels-declared i) (is-there h) refl

  -- ---- what is made, unless by new

  pub fresh-described : (s : State) (l c f : ℕ) → Described L t p s → Declared p l → Described L t p (with_object s (fresh l (prototype_for p l c) f))
  fresh-described s l c f d dl =
      let o = fresh l (prototype_for p l c) f in
      described-object s o d dl
      (empty-described (made-prototype (first-kept (keeps-append s.objects o) d.first-objects) w l c dl) (λ n j. refl))

  pub make-described : (s : State) (f y l c : ℕ) → Described L t p s → Declared p l → (0 < y → Has t y l) → Described L t p (make_object p s f y l c)
  make-described s f y l c d dl h =
      write-described w (with_object s (fresh l (prototype_for p l c) f)) f y (next s) (fresh-described s l c f d dl)
      (λ q. next-allowed s.objects (fresh l (prototype_for p l c) f) (h q))

  pub make-function-described : (s : State) (f k y l q c c' : ℕ) → Described L t p s → Declared p l → Declared p q
      → Closed L t (rule_of p (say.make_function k y l q)) → Described L t p (make_function_object p s f y l q c c')
  make-function-described s f k y l q c c' d dl dq rule =
      let o = fresh q (prototype_for p q c') f in
      let s' = with_object s o in
      let d' = fresh-described s q c' f d dq in
      let bare = fresh l (prototype_for p l c) f in
      let o' = with_value bare 3 0 (next s) in
      let k' = keeps-append s'.objects o' in
      let q-allowed : Allowed t (s'.objects ++ (o' ∷ [])) (H L l 3) (next s) =
      allowed-kept k' (next-allowed s.objects o (rule.1 (omega arith))) in
      write-described w (with_object s' o') f y (next s')
      (described-object s' o' d' dl
      (value-described bare 3 0 (next s) (empty-described (made-prototype (first-kept k' d'.first-objects) w l c dl) (λ n j. refl)) q-allowed))
      (λ h. next-allowed s'.objects o' (rule.0 h))

  -- ---- load and store

  pub load-described : (s : State) (f y : ℕ) (x : Value) (v key u c n j : ℕ) → Described L t p s → Closed L t (loading p y v key u) → Declared p u
      → Memᴰ n (names_of p.sheet key) → Allowed t s.objects v x → Described L t p (load_from p s f y x u c n j)
  load-described s f y (object i) v key u c n j d rule du m h =
      write-described w s f y (or_primitive (find_of s (object i) n j)) d
      (found-allowed L p (label_in s.objects i) n y key (rule.1.1 _ (holds-label h)) m (allowed-found s i v n j d h))
  load-described s f y primitive v key u c n j d rule du m h =
      let o = fresh u (prototype_for p u c) f in
      let s' = with_object s o in
      let d' = fresh-described s u c f d du in
      let here = next-allowed s.objects o ((w.chain-rule u du).0 (omega arith)) in
      write-described w s' f y (or_primitive (find_of s' (next s) n j)) d'
      (found-allowed L p u n y key rule.1.0 m (find-found s'.objects d'.objects-described u du (length s'.objects) (next s) n j here))

  pub store-described : (s : State) (x a : Value) (v key u n j : ℕ) → Described L t p s → Closed L t (storing p v key u)
      → Memᴰ n (names_of p.sheet key) → Allowed t s.objects v x → Allowed t s.objects u a → Described L t p (store_to p s x a n j)
  store-described s primitive a v key u n j d rule m hx ha = d
  store-described s (object i) a v key u n j d rule m hx ha =
      described-cond (built_in p.sheet (object_at s i).label) s (set_object s i (with_value (object_at s i) n j a)) (λ e. d)
      (λ e. described-value s i n j a d
      (allowed-more
      (when-closed L t (not (built_in p.sheet (object_at s i).label)) _ (ap not e) (rule (object_at s i).label (holds-label hx)) n m (omega arith))
      ha))
