-- A run never takes anything back, whatever the program and wherever it begins. Assumes nothing.
use mathlib.Core.Path.{refl, sym, ◌∙◌, subst}
use mathlib.Core.List.Memᴰ
use mathlib.Core.List.{List, [], ◌∷◌, ◌++◌, Memᴰ}
use mathlib.Core.Bool.{Bool, true, false, cond}
use Prim.Native.Nat.{ℕ, ◌<◌}
use native.Mathlib.Omega.{arith}
use native.Mathlib.Decide.{ℕ_discrete}
use lib.ListN.{length, get_or, set, length-set, length-append, get_or-append}
use lib.Seq.{get_or-set_same, get_or-set_other}
use lib.Dec.{eqb}
use Rattle.program.specs.Program.{Program, this_of, formals_of}
use Rattle.machine.specs.State.{Value, Object, Frame, State, no_object, no_frame, object_at, frame_at, with_object, with_frame, set_object, set_frame, with_bagged, with_value, with_variable, with_thrown}
use Rattle.machine.specs.Variable.{write, write_all}
use Rattle.machine.specs.Call.{frame_of, enter}
use Rattle.machine.specs.Step.{Move, run}
use Rattle.machine.specs.Laws.{TakesNothingBack}
use Rattle.machine.specs.Grown.{SameObject, SameFrame, Grown}
use Rattle.machine.proofs.Laws.Changes.{Kept, kept-write, kept-write-all, kept_step, kept_run}

same_object : (o : Object) → SameObject o o
same_object o = record { same-label = refl; same-prototype = refl; same_kept = refl }

same-frame : (f : Frame) → SameFrame f f
same-frame f = record { same-scope = refl; same-outward = refl; same-caller = refl; thrown-stays = λ x m. m }

pub grown-refl : (s : State) → Grown s s
grown-refl s =
    record {
      more-objects = omega arith;
      same-objects = λ i h. same_object (object_at s i);
      more-frames = omega arith;
      same-frames = λ f h. same-frame (frame_at s f);
      bags-stay = λ b x m. m;
    }

pub grown-trans : {a b c : State} → Grown a b → Grown b c → Grown a c
grown-trans g h =
    record {
      more-objects = omega arith;
      same-objects = λ i l.
          let o = g.same-objects i l in
          let o' = h.same-objects i (omega (arith, g.more-objects)) in
          record {
            same-label = o'.same-label ∙ o.same-label;
            same-prototype = o'.same-prototype ∙ o.same-prototype;
            same_kept = o'.same_kept ∙ o.same_kept;
          };
      more-frames = omega arith;
      same-frames = λ f l.
          let e = g.same-frames f l in
          let e' = h.same-frames f (omega (arith, g.more-frames)) in
          record {
            same-scope = e'.same-scope ∙ e.same-scope;
            same-outward = e'.same-outward ∙ e.same-outward;
            same-caller = e'.same-caller ∙ e.same-caller;
            thrown-stays = λ x m. e'.thrown-stays x (e.thrown-stays x m);
          };
      bags-stay = λ b x m. h.bags-stay b x (g.bags-stay b x m);
    }

-- ---- each change

-- another element at a place, related to the old one
changed-at : {A : Type 0} (C : A → A → Type 0) → ((x : A) → C x x) → (xs : List A) (k : ℕ) (x d : A) → C (get_or xs k d) x → (i : ℕ) → i < length xs
    → C (get_or xs i d) (get_or (set xs k x) i d)
changed-at C same xs k x d h i l =
    elim (ℕ_discrete i k) [
      | no e ↦ subst (C (get_or xs i d)) (sym (get_or-set_other xs k i x d e)) (same (get_or xs i d))
      | yes e ↦ (let q : k < length xs = omega arith in rw (e, get_or-set_same xs k x d q) h)
    ]

pub grown-object : (s : State) (o : Object) → Grown s (with_object s o)
grown-object s o =
    record {
      more-objects = omega (arith, length-append s.objects (o ∷ []));
      same-objects = λ i h. subst (SameObject (object_at s i)) (sym (get_or-append s.objects (o ∷ []) no_object i h)) (same_object (object_at s i));
      more-frames = omega arith;
      same-frames = λ f h. same-frame (frame_at s f);
      bags-stay = λ b x m. m;
    }

pub grown-frame : (s : State) (f : Frame) → Grown s (with_frame s f)
grown-frame s f =
    record {
      more-objects = omega arith;
      same-objects = λ i h. same_object (object_at s i);
      more-frames = omega (arith, length-append s.frames (f ∷ []));
      same-frames = λ i h. subst (SameFrame (frame_at s i)) (sym (get_or-append s.frames (f ∷ []) no_frame i h)) (same-frame (frame_at s i));
      bags-stay = λ b x m. m;
    }

pub grown-value : (s : State) (i n j : ℕ) (x : Value) → Grown s (set_object s i (with_value (object_at s i) n j x))
grown-value s i n j x =
    record {
      more-objects = omega (arith, length-set s.objects i (with_value (object_at s i) n j x));
      same-objects =
          changed-at SameObject same_object s.objects i (with_value (object_at s i) n j x) no_object
          (record { same-label = refl; same-prototype = refl; same_kept = refl });
      more-frames = omega arith;
      same-frames = λ f h. same-frame (frame_at s f);
      bags-stay = λ b y m. m;
    }

grown-set-frame : (s : State) (i : ℕ) (f : Frame) → SameFrame (frame_at s i) f → Grown s (set_frame s i f)
grown-set-frame s i f h =
    record {
      more-objects = omega arith;
      same-objects = λ k l. same_object (object_at s k);
      more-frames = omega (arith, length-set s.frames i f);
      same-frames = changed-at SameFrame same-frame s.frames i f no_frame h;
      bags-stay = λ b y m. m;
    }

pub grown-thrown : (s : State) (i : ℕ) (x : Value) → Grown s (set_frame s i (with_thrown (frame_at s i) x))
grown-thrown s i x =
    grown-set-frame s i (with_thrown (frame_at s i) x)
    (record { same-scope = refl; same-outward = refl; same-caller = refl; thrown-stays = λ y m. Memᴰ.append_left (x ∷ []) m })

grown-bagged : (s : State) (b : ℕ) (x : Value) → Grown s (with_bagged s b x)
grown-bagged s b x =
    record {
      more-objects = omega arith;
      same-objects = λ k l. same_object (object_at s k);
      more-frames = omega arith;
      same-frames = λ f h. same-frame (frame_at s f);
      bags-stay = λ c y m. go c (eqb c b) y m;
    }
  where
    go : (c : ℕ) (a : Bool) (y : Value) → Memᴰ y (s.bags c) → Memᴰ y (cond a (s.bags c ++ (x ∷ [])) (s.bags c))
    go c true y m = Memᴰ.append_left (x ∷ []) m
    go c false y m = m

-- ---- steps and runs

module _ (p : Program) where
  grown-kept : Kept p Grown
  grown-kept =
      record {
        nothing = grown-refl;
        together = grown-trans;
        object-made = grown-object;
        value-stored = grown-value;
        variable-set = λ s f v x.
            grown-set-frame s f (with_variable (frame_at s f) v x)
            (record { same-scope = refl; same-outward = refl; same-caller = refl; thrown-stays = λ y m. m });
        value-thrown = grown-thrown;
        value-bagged = grown-bagged;
        frame_made = λ s f y by_new o is. grown-frame s (frame_of o f y by_new);
      }

  pub grown-write : (s : State) (f v : ℕ) (x : Value) → Grown s (write p s f v x)
  grown-write = kept-write p Grown grown-kept

  pub grown-write-all : (s : State) (f : ℕ) (vs : List ℕ) (xs : List Value) → Grown s (write_all p s f vs xs)
  grown-write-all = kept-write-all p Grown grown-kept

  pub grown-enter : (s : State) (f y : ℕ) (by_new : Bool) (o : Object) (this : Value) (xs : List Value) → Grown s (enter p s f y by_new o this xs)
  grown-enter s f y by_new o this xs =
      let g = length s.frames in
      let s' = with_frame s (frame_of o f y by_new) in
      let v = this_of p.sheet o.label in
      grown-trans (grown-frame s (frame_of o f y by_new)) (grown-trans (grown-write s' g v this) (grown-write-all (write p s' g v this) g (formals_of p.sheet o.label) xs))

  pub step-grown : (s : State) → TakesNothingBack p s
  step-grown s m = kept_step p Grown grown-kept m s

  pub run-grown : (moves : List Move) (s : State) → Grown s (run p moves s)
  run-grown = kept_run p Grown grown-kept
