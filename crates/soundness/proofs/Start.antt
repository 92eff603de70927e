-- The start is described. Assumes nothing.
use mathlib.Core.Path.{◌≡◌, refl, sym, ◌∙◌, subst}
use mathlib.Core.Logic.{inl, inr}
use mathlib.Core.List.Memᴰ
use mathlib.Core.List.{List, [], ◌∷◌, map, Memᴰ}
use mathlib.Core.Bool.{Bool, true, false, cond}
use mathlib.Core.Option.{none, some}
use Prim.Native.Nat.{ℕ, zero, suc, ◌<◌}
use native.Mathlib.Omega.{arith}
use lib.ListN.{length, get_or}
use lib.Dec.{eqb}
use Rattle.rules.specs.Table.{Table, Has}
use Rattle.rules.specs.Told.{Closed}
use Rattle.format.specs.Sheet.{type_of}
use Rattle.program.specs.Statement as say
use Rattle.program.specs.Program.{Program, Guest, statements, guests_statements}
use Rattle.analysis.specs.Rules.{rule_of}
use Rattle.machine.specs.State.{primitive, object, Object, Frame, State, no_object, no_frame, object_in, frame_in, object_at, with_value}
use Rattle.machine.specs.Property.{prototype_of_type, fresh}
use Rattle.machine.specs.Start.{Filling, property, held, nothing, filling_of, fillings, first_labels, start_labels, place_in, start_prototype, start_objects, first_frame, guest_frames, unfilled, number_among, fill_one, fill, start}
use Rattle.soundness.specs.Described.{P, H, label_in, Allowed, primitive-allowed, object-allowed, ObjectDescribed, no-caller, FrameDescribed, FirstObjects, Described}
use Rattle.soundness.proofs.Values.{Keeps, keeps-refl, keeps-trans, keeps-set}
use Rattle.soundness.proofs.States.{Declared, empty-described, new-frame, described-value}
use Rattle.soundness.proofs.Setting.{Setting, type-prototype}
use Rattle.soundness.proofs.Variables.{write-described, write-untouched}
use Rattle.machine.proofs.Laws.Labels.{Listed, property-listed, held-listed, Fills, property-fills, held-fills, nothing-fills, fills, place-of, length-start, fillings-begin, fillings-listed}

pub host-statement : (p : Program) (at : ℕ) (a : say.Statement) → Memᴰ (at, a) p.host → Memᴰ (at, a) (statements p)
unfolding statements
host-statement p at a m = Memᴰ.append_right (guests_statements p.guests) m

module _ (p : Program) where
  label-start : (ls : List ℕ) (i : ℕ) → label_in (start_objects p ls) i ≡ get_or ls i 0
  label-start [] i = refl
  label-start (l ∷ ls) zero = refl
  label-start (l ∷ ls) (suc i) = label-start ls i

  -- what holds of a label's fresh object holds at each place of the start
  start-at : (C : Object → Type 0) (ls : List ℕ) → C no_object → ((l : ℕ) → Memᴰ l ls → C (fresh l (start_prototype p l) 0)) → (i : ℕ)
      → C (object_in (start_objects p ls) i)
  start-at C [] z h i = z
  start-at C (l ∷ ls) z h zero = h l (Memᴰ.head refl)
  start-at C (l ∷ ls) z h (suc i) = start-at C ls z (λ m q. h m (Memᴰ.tail q)) i

guest-at : (C : Frame → Type 0) (gs : List Guest) → C no_frame → ((g : Guest) → C (first_frame g.label (some 0))) → (i : ℕ) → C (frame_in (guest_frames gs) i)
guest-at C [] z h i = z
guest-at C (g ∷ gs) z h zero = h g
guest-at C (g ∷ gs) z h (suc i) = guest-at C gs z h i

-- ---- the start

module _ {L : ℕ} {t : Table} {p : Program} (w : Setting L t p) where
  abbrev ls : List ℕ
  ls = start_labels p

  first : FirstObjects (start_objects p ls)
  first =
      let b = fillings-begin first_labels (fillings p) in
      record {
        four = omega (arith, b.longer, length-start p ls);
        object-label = label-start p ls 0 ∙ b.same 0 (omega arith);
        global-label = label-start p ls 1 ∙ b.same 1 (omega arith);
        function-label = label-start p ls 2 ∙ b.same 2 (omega arith);
        array-label = label-start p ls 3 ∙ b.same 3 (omega arith);
      }

  unfilled-described : Described L t p (unfilled p ls)
  unfilled-described =
      record {
        objects-described = start-at p (λ (z : Object). ObjectDescribed L t (start_objects p ls) z) ls (empty-described primitive-allowed (λ n j. refl)) fresh_start;
        frames-described = frame;
        bags-allowed = λ b x m. absurd (Memᴰ.not-nil m);
        labels-declared = start-at p (λ (z : Object). Declared p z.label) ls (w.start-declared 0 global) w.start-declared;
        first-objects = first;
      }
    where
      global : Memᴰ 0 ls
      global = (fillings-begin first_labels (fillings p)).within 0 (Memᴰ.tail (Memᴰ.head refl))

      fresh_start : (l : ℕ) → Memᴰ l ls → ObjectDescribed L t (start_objects p ls) (fresh l (start_prototype p l) 0)
      fresh_start l m = empty-described (go (eqb l 1)) (λ n j. refl)
        where
          go : (c : Bool) → Allowed t (start_objects p ls) (P L l) (cond c primitive (prototype_of_type (type_of p.sheet l)))
          go true = primitive-allowed
          go false = type-prototype first L (type_of p.sheet l) l (w.chain-rule l (w.start-declared l m)).1.0

      frame : (f : ℕ) → FrameDescribed L t p (start_objects p ls) (first_frame 0 none ∷ guest_frames p.guests) (frame_in (first_frame 0 none ∷ guest_frames p.guests) f)
      frame zero = new-frame (λ v. refl) refl no-caller
      frame (suc f) =
          guest-at (λ (z : Frame). FrameDescribed L t p (start_objects p ls) (first_frame 0 none ∷ guest_frames p.guests) z) p.guests
          (new-frame (λ v. refl) refl no-caller) (λ g. new-frame (λ v. refl) refl no-caller) f

  -- the object of a label of the start
  placed : (s : State) → Keeps (start_objects p ls) s.objects → (l : ℕ) → Memᴰ l ls
      → (place_in ls l < length s.objects) × (label_in s.objects (place_in ls l) ≡ l)
  placed s k l m =
      let i = place-of l ls m in
      let h : place_in ls l < length (start_objects p ls) = omega (arith, i.0, length-start p ls) in
      (omega (arith, k.longer), k.labels-kept (place_in ls l) h ∙ label-start p ls (place_in ls l) ∙ i.1)

  placed-allowed : (s : State) → Keeps (start_objects p ls) s.objects → (l r : ℕ) → Memᴰ l ls → Has t r l
      → Allowed t s.objects r (object (place_in ls l))
  placed-allowed s k l r m h = let i = placed s k l m in object-allowed (place_in ls l) i.0 (rw i.1 h)

  -- what the rules of kinds 7 and 8 say of a filling
  abbrev Filled : Filling → Type 0
  Filled (property l n m) = Has t (H L l n) m
  Filled (held v l) = 0 < v → Has t v l
  Filled nothing = Unit {0}

  fill_one-keeps : (earlier : List Filling) (s : State) (x : Filling) → Described L t p s → Keeps (start_objects p ls) s.objects → Listed ls x → Filled x
      → Described L t p (fill_one p ls earlier s x) × Keeps (start_objects p ls) (fill_one p ls earlier s x).objects
  fill_one-keeps earlier s (property l n m) d k (property-listed _ _ _ hl hm) r =
      let i = place_in ls l in
      let j = number_among l n earlier in
      let x = object (place_in ls m) in
      let h : Allowed t s.objects (H L (label_in s.objects i) n) x = rw (placed s k l hl).1 (placed-allowed s k m (H L l n) hm r) in
      (described-value s i n j x d h, keeps-trans k (keeps-set s.objects i (with_value (object_at s i) n j x) refl))
  fill_one-keeps earlier s (held v l) d k (held-listed _ _ h) r =
      let x = object (place_in ls l) in
      (write-described w s 0 v x d (λ q. placed-allowed s k l v h (r q)), keeps-trans k (write-untouched p s 0 v x).objects-kept)
  fill_one-keeps earlier s nothing d k h r = (d, k)

  fill-described : (earlier xs : List Filling) (s : State) → Described L t p s → Keeps (start_objects p ls) s.objects
      → ((x : Filling) → Memᴰ x xs → Listed ls x × Filled x) → Described L t p (fill p ls earlier s xs)
  fill-described earlier [] s d k h = d
  fill-described earlier (x ∷ xs) s d k h =
      let a = h x (Memᴰ.head refl) in
      let g = fill_one-keeps earlier s x d k a.0 a.1 in
      fill-described (x ∷ earlier) xs (fill_one p ls earlier s x) g.0 g.1 (λ y m. h y (Memᴰ.tail m))

  -- a host statement's filling is what its rule says
  filled : (a : say.Statement) → Fills a → Closed L t (rule_of p a) → Filled (filling_of a)
  filled _ (property-fills l n m) c = c (omega arith)
  filled _ (held-fills v l) c = c
  filled _ (nothing-fills a e) c = subst Filled (sym e) tt

  host-filled : (ss : List (ℕ × say.Statement)) → ((at : ℕ) (a : say.Statement) → Memᴰ (at, a) ss → Closed L t (rule_of p a))
      → (x : Filling) → Memᴰ x (map (λ s. filling_of s.1) ss) → Filled x
  host-filled [] h x m = absurd (Memᴰ.not-nil m)
  host-filled (s ∷ ss) h x m =
      elim (Memᴰ.cases_cons m) [
        | inl e ↦ subst Filled (sym e) (filled s.1 (fills s.1) (h s.0 s.1 (Memᴰ.head refl)))
        | inr q ↦ host-filled ss (λ at a q. h at a (Memᴰ.tail q)) x q
      ]

  pub start-described : Described L t p (start p)
  start-described =
      fill-described [] (fillings p) (unfilled p ls) unfilled-described (keeps-refl (start_objects p ls))
      (λ x m. (fillings-listed first_labels (fillings p) x m, host-filled p.host (λ at a q. w.rule at a (host-statement p at a q)) x m))
