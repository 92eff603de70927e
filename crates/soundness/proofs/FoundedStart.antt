-- The start of a readable file is well founded, and so is every state that a run reaches from it. Assumes nothing.
use mathlib.Core.Path.{◌≡◌, refl}
use mathlib.Core.List.Memᴰ
use mathlib.Core.List.{List, [], ◌∷◌, Memᴰ}
use mathlib.Core.Bool.{Bool, true, false, cond}
use Prim.Native.Nat.{ℕ, zero, suc, ◌≤◌, ◌<◌}
use native.Mathlib.Omega.{arith}
use lib.ListN.{length, get_or}
use lib.Dec.{eqb}
use Rattle.format.specs.Sheet.{type_of}
use Rattle.format.specs.Reading.{Readable}
use Rattle.format.proofs.Readable.{readable-ready}
use Rattle.program.specs.Program.{Program, Guest, program_of, program_in}
use Rattle.machine.specs.State.{primitive, object, State, frame_in, object_at, with_value}
use Rattle.machine.specs.Property.{prototype_of_type}
use Rattle.machine.specs.Step.{Move, run}
use Rattle.machine.specs.Start.{Filling, property, held, nothing, fillings, first_labels, start_labels, place_in, start_prototype, start_objects, guest_frames, unfilled, number_among, fill_one, fill, start}
use Rattle.soundness.specs.Founded.{ObjectBelow, primitive-below, object-below, no-frame-below, frame_below, no-caller-below, FrameFounded, Founded}
use Rattle.soundness.proofs.Values.{Keeps, keeps-refl, keeps-trans, keeps-set}
use Rattle.soundness.proofs.Variables.{write-untouched}
use Rattle.machine.proofs.Laws.Labels.{Listed, property-listed, held-listed, place-of, length-start, object-is, fillings-begin, fillings-listed}
use Rattle.soundness.proofs.Founded.{founded-value}
use Rattle.soundness.proofs.FoundedSteps.{write-founded, prototype-below, bare-founded}
use Rattle.soundness.proofs.FoundedRuns.{run-founded}

-- labels 0, 2 and 4 are plain, as they are declared beforehand
pub record FirstPlain (p : Program) : Type 0 where
  pub global-plain : type_of p.sheet 0 ≡ 1
  pub function-plain : type_of p.sheet 2 ≡ 1
  pub array_plain : type_of p.sheet 4 ≡ 1

module _ (p : Program) (plain : FirstPlain p) where
  abbrev ls : List ℕ
  ls = start_labels p

  first-is : (i : ℕ) → i < 4 → get_or ls i 0 ≡ get_or first_labels i 0
  first-is i h = (fillings-begin first_labels (fillings p)).same i h

  plain-below : (i l : ℕ) → type_of p.sheet l ≡ 1 → 0 < i → ObjectBelow i (prototype_of_type (type_of p.sheet l))
  plain-below i l e h = rw e (object-below 0 h)

  prototype-before : (i : ℕ) → ObjectBelow i (start_prototype p (get_or ls i 0))
  prototype-before zero = rw (first-is 0 (omega arith)) primitive-below
  prototype-before (suc zero) = rw (first-is 1 (omega arith)) (plain-below 1 0 plain.global-plain (omega arith))
  prototype-before (suc (suc zero)) = rw (first-is 2 (omega arith)) (plain-below 2 2 plain.function-plain (omega arith))
  prototype-before (suc (suc (suc zero))) = rw (first-is 3 (omega arith)) (plain-below 3 4 plain.array_plain (omega arith))
  prototype-before (suc (suc (suc (suc i)))) = go (eqb (get_or ls (suc (suc (suc (suc i)))) 0) 1)
    where
      go : (b : Bool) → ObjectBelow (suc (suc (suc (suc i)))) (cond b primitive (prototype_of_type (type_of p.sheet (get_or ls (suc (suc (suc (suc i)))) 0))))
      go true = primitive-below
      go false = prototype-below p (suc (suc (suc (suc i)))) (omega arith) (type_of p.sheet (get_or ls (suc (suc (suc (suc i)))) 0))

  guest-founded : (n : ℕ) (gs : List Guest) (f : ℕ) → f < length (guest_frames gs) → FrameFounded n (suc f) (frame_in (guest_frames gs) f)
  guest-founded n gs f h = go gs f (suc f) (omega arith) h
    where
      go : (hs : List Guest) (i k : ℕ) → 0 < k → i < length (guest_frames hs) → FrameFounded n k (frame_in (guest_frames hs) i)
      go [] i k q l = absurd (omega arith)
      go (g ∷ hs) zero k q l =
          record {
            outward-older = frame_below 0 q;
            caller-older = no-caller-below;
            variables-there = λ v. primitive-below;
            thrown-there = λ x m. absurd (Memᴰ.not-nil m);
          }
      go (g ∷ hs) (suc i) k q l = go hs i k q (omega arith)

  unfilled-founded : Founded (unfilled p ls)
  unfilled-founded =
      record {
        four-objects = omega (arith, (fillings-begin first_labels (fillings p)).longer, length-start p ls);
        objects-founded = λ i h. rw (object-is p ls i (omega (arith, length-start p ls))) (bare-founded p _ _ i (get_or ls i 0) 0 _ (prototype-before i) (omega arith));
        frames-founded = frame;
        bags-there = λ b x m. absurd (Memᴰ.not-nil m);
      }
    where
      frame : (f : ℕ) → f < length (unfilled p ls).frames → FrameFounded (length (start_objects p ls)) f (frame_in (unfilled p ls).frames f)
      frame zero h =
          record {
            outward-older = no-frame-below;
            caller-older = no-caller-below;
            variables-there = λ v. primitive-below;
            thrown-there = λ x m. absurd (Memᴰ.not-nil m);
          }
      frame (suc f) h = guest-founded _ p.guests f (omega arith)

  placed_below : (s : State) → length (start_objects p ls) ≤ length s.objects → (l : ℕ) → Memᴰ l ls
      → ObjectBelow (length s.objects) (object (place_in ls l))
  placed_below s h l m = object-below (place_in ls l) (omega (arith, (place-of l ls m).0, length-start p ls))

  fill_one-keeps : (earlier : List Filling) (s : State) (x : Filling) → Founded s → Keeps (start_objects p ls) s.objects → Listed ls x
      → Founded (fill_one p ls earlier s x) × Keeps (start_objects p ls) (fill_one p ls earlier s x).objects
  fill_one-keeps earlier s (property l n m) d k (property-listed _ _ _ hl hm) =
      let i = place_in ls l in
      let j = number_among l n earlier in
      let x = object (place_in ls m) in (
        founded-value s i n j x d (placed_below s k.longer m hm),
        keeps-trans k (keeps-set s.objects i (with_value (object_at s i) n j x) refl),
      )
  fill_one-keeps earlier s (held v l) d k (held-listed _ _ h) =
      let x = object (place_in ls l) in
      (write-founded p s 0 v x d (placed_below s k.longer l h), keeps-trans k (write-untouched p s 0 v x).objects-kept)
  fill_one-keeps earlier s nothing d k h = (d, k)

  fill-founded : (earlier xs : List Filling) (s : State) → Founded s → Keeps (start_objects p ls) s.objects → ((x : Filling) → Memᴰ x xs → Listed ls x)
      → Founded (fill p ls earlier s xs)
  fill-founded earlier [] s d k h = d
  fill-founded earlier (x ∷ xs) s d k h =
      let g = fill_one-keeps earlier s x d k (h x (Memᴰ.head refl)) in
      fill-founded (x ∷ earlier) xs (fill_one p ls earlier s x) g.0 g.1 (λ y m. h y (Memᴰ.tail m))

  pub start-founded : Founded (start p)
  start-founded =
      fill-founded [] (fillings p) (unfilled p ls) unfilled-founded (keeps-refl (start_objects p ls)) (fillings-listed first_labels (fillings p))

first_plain : (L : ℕ) (xs : List ℕ) → 5 ≤ L → Readable L xs → FirstPlain (program_in L xs)
unfolding program_of
first_plain L xs h e =
    let labels = (readable-ready L xs h e).made.labels in
    record {
      global-plain = labels.start-type 0 (omega arith);
      function-plain = labels.start-type 2 (omega arith);
      array_plain = labels.start-type 4 (omega arith);
    }

-- every state that a run of a readable file reaches
pub always-founded : (L : ℕ) (xs : List ℕ) → 5 ≤ L → Readable L xs → (moves : List Move)
    → Founded (run (program_in L xs) moves (start (program_in L xs)))
always-founded L xs h e moves =
    let p = program_in L xs in
    run-founded p moves (start p) (start-founded p (first_plain L xs h e))
