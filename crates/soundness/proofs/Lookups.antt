-- In a well-founded state the machine's lookups never run dry: with any more fuel they give the same answer, and the laws of the machine, which speak of
-- older frames and prototypes only, speak of every one. Assumes nothing.
use mathlib.Core.Path.{◌≡◌, refl, ap}
use mathlib.Core.Bool.{cond}
use mathlib.Core.Option.{Option, none, some}
use Prim.Native.Nat.{ℕ, zero, suc, ◌≤◌, ◌<◌}
use native.Mathlib.Omega.{arith}
use native.Mathlib.Decide.{ℕ_discrete}
use lib.ListN.{length}
use lib.Dec.{eqb}
use Rattle.machine.specs.State.{Value, primitive, object, State, object_at, frame_at}
use Rattle.machine.specs.Seen.{Nearest, itself, outward, nowhere, Finds, own, inherited, lacking}
use Rattle.machine.specs.Lookup.{nearest, nearest_of, or_else, find, find_of}
use Rattle.soundness.specs.Founded.{ObjectBelow, FrameBelow, no-frame-below, frame_below, Founded}
use Rattle.soundness.proofs.Founded.{below_more, is_below}

frame-more : {n m : ℕ} {f : Option ℕ} → n ≤ m → FrameBelow n f → FrameBelow m f
frame-more h no-frame-below = no-frame-below
frame-more h (frame_below f l) = frame_below f (omega arith)

is-frame : {n f : ℕ} → FrameBelow n (some f) → f < n
is-frame (frame_below f l) = l

module _ (s : State) (founded : Founded s) where
  -- from an object older than the fuel
  same-find : (d d' : ℕ) (x : Value) (n j : ℕ) → ObjectBelow (length s.objects) x → ObjectBelow d x → ObjectBelow d' x
      → find s.objects d x n j ≡ find s.objects d' x n j
  same-find zero zero x n j h k k' = refl
  same-find zero (suc d') primitive n j h k k' = refl
  same-find zero (suc d') (object i) n j h k k' = absurd (omega (arith, is_below k))
  same-find (suc d) zero primitive n j h k k' = refl
  same-find (suc d) zero (object i) n j h k k' = absurd (omega (arith, is_below k'))
  same-find (suc d) (suc d') primitive n j h k k' = refl
  same-find (suc d) (suc d') (object i) n j h k k' =
      let o = (founded.objects-founded i (is_below h)).prototype-older in
      ap (λ (z : Option Value). or_else ((object_at s i).values n j) z)
      (same-find d d' (object_at s i).prototype n j (below_more (omega (arith, is_below h)) o) (below_more (omega (arith, is_below k)) o)
      (below_more (omega (arith, is_below k')) o))

  -- the fuel of `find_of` is enough
  pub find-enough : (d : ℕ) (x : Value) (n j : ℕ) → ObjectBelow (length s.objects) x → length s.objects ≤ d
      → find s.objects d x n j ≡ find_of s x n j
  find-enough d x n j h l = same-find d (length s.objects) x n j h (below_more l h) h

  same-nearest : (d d' : ℕ) (f : Option ℕ) (k : ℕ) → FrameBelow (length s.frames) f → FrameBelow d f → FrameBelow d' f
      → nearest s.frames d f k ≡ nearest s.frames d' f k
  same-nearest zero zero f k h a b = refl
  same-nearest zero (suc d') none k h a b = refl
  same-nearest zero (suc d') (some f) k h a b = absurd (omega (arith, is-frame a))
  same-nearest (suc d) zero none k h a b = refl
  same-nearest (suc d) zero (some f) k h a b = absurd (omega (arith, is-frame b))
  same-nearest (suc d) (suc d') none k h a b = refl
  same-nearest (suc d) (suc d') (some f) k h a b =
      let o = (founded.frames-founded f (is-frame h)).outward-older in
      ap (λ (z : Option ℕ). cond (eqb (frame_at s f).scope k) (some f) z)
      (same-nearest d d' (frame_at s f).outward k (frame-more (omega (arith, is-frame h)) o) (frame-more (omega (arith, is-frame a)) o)
      (frame-more (omega (arith, is-frame b)) o))

  -- the fuel of `nearest_of` is enough
  pub nearest-enough : (d f k : ℕ) → f < length s.frames → length s.frames ≤ d → nearest s.frames d (some f) k ≡ nearest_of s f k
  nearest-enough d f k h l = same-nearest d (length s.frames) (some f) k (frame_below f h) (frame_below f (omega arith)) (frame_below f h)

  -- ---- what the laws of the machine ask of a lookup is there, whatever is looked for

  nearest-from : (d f k : ℕ) → f < d → f < length s.frames → (r : Option ℕ) × Nearest s k f r
  nearest-from zero f k h l = absurd (omega arith)
  nearest-from (suc d) f k h l = go (ℕ_discrete (frame_at s f).scope k) (frame_at s f).outward refl (founded.frames-founded f l).outward-older (λ g. nearest-from d g k)
    where
      go : Dec ((frame_at s f).scope ≡ k) → (o : Option ℕ) → (frame_at s f).outward ≡ o → FrameBelow f o
          → ((g : ℕ) → g < d → g < length s.frames → (r : Option ℕ) × Nearest s k g r) → (r : Option ℕ) × Nearest s k f r
      go (yes e) o q b rest = (some f, itself f l e)
      go (no n) none q b rest = (none, nowhere f l n q)
      go (no n) (some g) q b rest =
          let r = rest g (omega (arith, is-frame b)) (omega (arith, is-frame b)) in
          (r.0, outward f g r.0 l n q (is-frame b) r.1)

  -- every frame has a nearest frame of every scope, or none
  pub nearest-always : (f k : ℕ) → f < length s.frames → (r : Option ℕ) × Nearest s k f r
  nearest-always f k l = nearest-from (suc f) f k (omega arith) l

  finds-from : (d i n j : ℕ) → i < d → i < length s.objects → (r : Option Value) × Finds s n j i r
  finds-from zero i n j h l = absurd (omega arith)
  finds-from (suc d) i n j h l =
      go ((object_at s i).values n j) refl (object_at s i).prototype refl (founded.objects-founded i l).prototype-older (λ q. finds-from d q n j)
    where
      go : (x : Option Value) → (object_at s i).values n j ≡ x → (q : Value) → (object_at s i).prototype ≡ q → ObjectBelow i q
          → ((q : ℕ) → q < d → q < length s.objects → (r : Option Value) × Finds s n j q r) → (r : Option Value) × Finds s n j i r
      go (some x) e q e' b rest = (some x, own i x l e)
      go none e primitive e' b rest = (none, lacking i l e e')
      go none e (object q) e' b rest =
          let r = rest q (omega (arith, is_below b)) (omega (arith, is_below b)) in
          (r.0, inherited i q r.0 l e e' (is_below b) r.1)

  -- every object finds a value under every pair, or none
  pub finds-always : (i n j : ℕ) → i < length s.objects → (r : Option Value) × Finds s n j i r
  finds-always i n j l = finds-from (suc i) i n j (omega arith) l
