-- Each change of a state leaves it described: an object more, another value in an object, a frame more, another value in a frame, a value more in a
-- bag. Assumes nothing.
use mathlib.Core.Path.{◌≡◌, refl, ap, sym, subst}
use mathlib.Core.Logic.{inl, inr}
use mathlib.Core.List.Memᴰ
use mathlib.Core.List.{List, [], ◌∷◌, ◌++◌, Memᴰ}
use mathlib.Core.Bool.{Bool, true, false, cond, ◌&&◌}
use mathlib.Core.Option.{Option, none, some}
use Prim.Native.Nat.{ℕ, ◌≤◌, ◌<◌}
use native.Mathlib.Omega.{arith}
use lib.ListN.{length, set, length-set, length-append, get_or-append}
use lib.Dec.{eqb}
use borrow.Author.Tests.{eqb-true}
use Rattle.rules.specs.Table.{Table}
use Rattle.format.specs.Sheet.{declared}
use Rattle.program.specs.Program.{Program}
use Rattle.machine.specs.State.{Value, primitive, Object, Caller, Frame, State, no_object, no_frame, frame_in, object_at, frame_at, with_object, with_frame, set_object, set_frame, with_bagged, with_value, with_variable, with_thrown}
use Rattle.soundness.specs.Described.{P, H, T, label_in, Allowed, primitive-allowed, AllowedIfAny, nothing-there, value_there, ObjectDescribed, LinkedIfCalled, no-caller, called, FrameDescribed, Described}
use Rattle.machine.proofs.Laws.Places.{at-append, at_set}
use Rattle.machine.proofs.Laws.Writing.{field-set}
use Rattle.soundness.proofs.Values.{Keeps, keeps-refl, keeps-append, keeps-set, first-kept, allowed-kept, any-kept}

-- one more in a list of allowed values
pub members-more : {t : Table} {os : List Object} {r : ℕ} (xs : List Value) (x : Value) → ((y : Value) → Memᴰ y xs → Allowed t os r y) → Allowed t os r x
    → (y : Value) → Memᴰ y (xs ++ (x ∷ [])) → Allowed t os r y
members-more {t} {os} {r} xs x h hx y m =
    elim (Memᴰ.append_cases xs m) [
      | inl q ↦ h y q
      | inr q ↦ subst (λ (z : Value). Allowed t os r z) (sym (Memᴰ.eq_of_singleton q)) hx
    ]

-- the label is declared
abbrev pub Declared : Program → ℕ → Type 0
Declared p l = declared p.sheet l ≡ true

module _ {L : ℕ} {t : Table} where
  pub object-kept : {os os' : List Object} {o : Object} → Keeps os os' → ObjectDescribed L t os o → ObjectDescribed L t os' o
  object-kept k h =
      record { prototype-on-chain = allowed-kept k h.prototype-on-chain; values-allowed = λ n j. any-kept k (h.values-allowed n j) }

  -- an object with nothing in it
  pub empty-described : {os : List Object} {o : Object} → Allowed t os (P L o.label) o.prototype
      → ((n j : ℕ) → o.values n j ≡ none) → ObjectDescribed L t os o
  empty-described {os} {o} h e =
      record {
        prototype-on-chain = h;
        values-allowed = λ n j. subst (λ (z : Option Value). AllowedIfAny t os (H L o.label n) z) (sym (e n j)) nothing-there;
      }

  -- one value more in an object
  pub value-described : {os : List Object} (o : Object) (n j : ℕ) (x : Value) → ObjectDescribed L t os o → Allowed t os (H L o.label n) x
      → ObjectDescribed L t os (with_value o n j x)
  value-described {os} o n j x h hx = record { prototype-on-chain = h.prototype-on-chain; values-allowed = λ m i. go m i (eqb m n) refl (eqb i j) }
    where
      go : (m i : ℕ) (a : Bool) → eqb m n ≡ a → (b : Bool) → AllowedIfAny t os (H L o.label m) (cond (a && b) (some x) (o.values m i))
      go m i false e b = h.values-allowed m i
      go m i true e false = h.values-allowed m i
      go m i true e true = value_there x (subst (λ (z : ℕ). Allowed t os (H L o.label z) x) (sym (eqb-true m n e)) hx)

  module _ {p : Program} where
    pub link-kept : {fs fs' : List Frame} {k : ℕ} {c : Option Caller} → length fs ≤ length fs'
        → ((i : ℕ) → i < length fs → (frame_in fs' i).scope ≡ (frame_in fs i).scope) → LinkedIfCalled L t p fs k c → LinkedIfCalled L t p fs' k c
    link-kept h e no-caller = no-caller
    link-kept h e (called c g) =
        called c
        (record {
          caller-there = omega (arith, g.caller-there);
          thrown-within = λ l m. rw (e c.frame g.caller-there) (g.thrown-within l m);
          returned-within = g.returned-within;
        })

    pub frame-kept : {os os' : List Object} {fs fs' : List Frame} {f : Frame} → Keeps os os' → length fs ≤ length fs'
        → ((i : ℕ) → i < length fs → (frame_in fs' i).scope ≡ (frame_in fs i).scope) → FrameDescribed L t p os fs f → FrameDescribed L t p os' fs' f
    frame-kept k h e g =
        record {
          variables-allowed = λ v. allowed-kept k (g.variables-allowed v);
          thrown-allowed = λ x m. allowed-kept k (g.thrown-allowed x m);
          linked = link-kept h e g.linked;
        }

    -- a frame in which nothing happened yet
    pub new-frame : {os : List Object} {fs : List Frame} {f : Frame} → ((v : ℕ) → f.variables v ≡ primitive) → f.thrown ≡ []
        → LinkedIfCalled L t p fs f.scope f.caller → FrameDescribed L t p os fs f
    new-frame {os} {fs} {f} v e h =
        record {
          variables-allowed = λ u. subst (λ (z : Value). Allowed t os u z) (sym (v u)) primitive-allowed;
          thrown-allowed = λ x m. absurd (Memᴰ.not-nil (subst (λ (z : List Value). Memᴰ x z) e m));
          linked = h;
        }

    -- ---- objects

    pub described-object : (s : State) (o : Object) → Described L t p s → Declared p o.label → ObjectDescribed L t (s.objects ++ (o ∷ [])) o → Described L t p (with_object s o)
    described-object s o d q h =
        let k = keeps-append s.objects o in
        record {
          objects-described =
              at-append (λ (z : Object). ObjectDescribed L t (s.objects ++ (o ∷ [])) z) s.objects o no_object (λ i. object-kept k (d.objects-described i)) h;
          frames-described = λ f. frame-kept k (omega arith) (λ i l. refl) (d.frames-described f);
          bags-allowed = λ b x m. allowed-kept k (d.bags-allowed b x m);
          labels-declared = at-append (λ (z : Object). Declared p z.label) s.objects o no_object d.labels-declared q;
          first-objects = first-kept k d.first-objects;
        }

    -- an object with one value more
    pub described-value : (s : State) (i n j : ℕ) (x : Value) → Described L t p s → Allowed t s.objects (H L (label_in s.objects i) n) x
        → Described L t p (set_object s i (with_value (object_at s i) n j x))
    described-value s i n j x d h =
        let o = with_value (object_at s i) n j x in
        let k = keeps-set s.objects i o refl in
        record {
          objects-described =
              at_set (λ (z : Object). ObjectDescribed L t (set s.objects i o) z) s.objects i o no_object
              (λ m. object-kept k (d.objects-described m)) (object-kept k (value-described (object_at s i) n j x (d.objects-described i) h));
          frames-described = λ f. frame-kept k (omega arith) (λ i l. refl) (d.frames-described f);
          bags-allowed = λ b y m. allowed-kept k (d.bags-allowed b y m);
          labels-declared = at_set (λ (z : Object). Declared p z.label) s.objects i o no_object d.labels-declared (d.labels-declared i);
          first-objects = first-kept k d.first-objects;
        }

    -- ---- frames

    pub described-frame : (s : State) (f : Frame) → Described L t p s → FrameDescribed L t p s.objects (s.frames ++ (f ∷ [])) f
        → Described L t p (with_frame s f)
    described-frame s f d h =
        let e : (i : ℕ) → i < length s.frames → (frame_in (s.frames ++ (f ∷ [])) i).scope ≡ (frame_in s.frames i).scope =
        λ i l. ap (λ (z : Frame). z.scope) (get_or-append s.frames (f ∷ []) no_frame i l) in
        record {
          objects-described = d.objects-described;
          frames-described =
              at-append (λ (z : Frame). FrameDescribed L t p s.objects (s.frames ++ (f ∷ [])) z) s.frames f no_frame
              (λ i. frame-kept (keeps-refl s.objects) (omega (arith, length-append s.frames (f ∷ []))) e (d.frames-described i)) h;
          bags-allowed = d.bags-allowed;
          labels-declared = d.labels-declared;
          first-objects = d.first-objects;
        }

    -- a frame in place of one of its scope
    pub described-set-frame : (s : State) (i : ℕ) (f : Frame) → f.scope ≡ (frame_at s i).scope → Described L t p s
        → FrameDescribed L t p s.objects s.frames f → Described L t p (set_frame s i f)
    described-set-frame s i f e d h =
        let scopes : (j : ℕ) → j < length s.frames → (frame_in (set s.frames i f) j).scope ≡ (frame_in s.frames j).scope =
        λ j l. field-set (λ (z : Frame). z.scope) s.frames i f no_frame e j in
        let kept : (g : Frame) → FrameDescribed L t p s.objects s.frames g → FrameDescribed L t p s.objects (set s.frames i f) g =
        λ g a. frame-kept (keeps-refl s.objects) (omega (arith, length-set s.frames i f)) scopes a in
        record {
          objects-described = d.objects-described;
          frames-described =
              at_set (λ (z : Frame). FrameDescribed L t p s.objects (set s.frames i f) z) s.frames i f no_frame (λ j. kept (frame_at s j) (d.frames-described j)) (kept f h);
          bags-allowed = d.bags-allowed;
          labels-declared = d.labels-declared;
          first-objects = d.first-objects;
        }

    pub described-variable : (s : State) (i v : ℕ) (x : Value) → Described L t p s → Allowed t s.objects v x
        → Described L t p (set_frame s i (with_variable (frame_at s i) v x))
    described-variable s i v x d h =
        let g = d.frames-described i in
        described-set-frame s i (with_variable (frame_at s i) v x) refl d
        (record { variables-allowed = λ u. go u (eqb u v) refl; thrown-allowed = g.thrown-allowed; linked = g.linked })
      where
        go : (u : ℕ) (b : Bool) → eqb u v ≡ b → Allowed t s.objects u (cond b x ((frame_at s i).variables u))
        go u false e = (d.frames-described i).variables-allowed u
        go u true e = subst (λ (z : ℕ). Allowed t s.objects z x) (sym (eqb-true u v e)) h

    pub described-thrown : (s : State) (i : ℕ) (x : Value) → Described L t p s → Allowed t s.objects (T L (frame_at s i).scope) x
        → Described L t p (set_frame s i (with_thrown (frame_at s i) x))
    described-thrown s i x d h =
        let g = d.frames-described i in
        described-set-frame s i (with_thrown (frame_at s i) x) refl d
        (record { variables-allowed = g.variables-allowed; thrown-allowed = members-more (frame_at s i).thrown x g.thrown-allowed h; linked = g.linked })

    -- ---- bags

    pub described-bagged : (s : State) (b : ℕ) (x : Value) → Described L t p s → Allowed t s.objects b x → Described L t p (with_bagged s b x)
    described-bagged s b x d h =
        record {
          objects-described = d.objects-described;
          frames-described = d.frames-described;
          bags-allowed = λ c y m. go c (eqb c b) refl y m;
          labels-declared = d.labels-declared;
          first-objects = d.first-objects;
        }
      where
        go : (c : ℕ) (a : Bool) → eqb c b ≡ a → (y : Value) → Memᴰ y (cond a (s.bags c ++ (x ∷ [])) (s.bags c)) → Allowed t s.objects c y
        go c false e y m = d.bags-allowed c y m
        go c true e y m =
            members-more (s.bags c) x (d.bags-allowed c) (subst (λ (z : ℕ). Allowed t s.objects z x) (sym (eqb-true c b e)) h) y m

    -- ---- tests

    pub described-cond : (b : Bool) (s s' : State) → (b ≡ true → Described L t p s) → (b ≡ false → Described L t p s') → Described L t p (cond b s s')
    described-cond true s s' h h' = h refl
    described-cond false s s' h h' = h' refl
