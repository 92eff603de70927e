-- Laws of the start: its frames, and the object of each label. Assumes nothing.
use mathlib.Core.Path.{◌≡◌, ap, ◌∙◌, sym}
use mathlib.Core.List.{List, [], ◌∷◌, map, Memᴰ}
use mathlib.Core.Option.{some}
use Prim.Native.Nat.{ℕ, suc, ◌<◌}
use native.Mathlib.Omega.{arith}
use borrow.Author.Tests.{eq-eqb, ne_eqb}
use lib.ListN.{length, get_or}
use Rattle.program.specs.Statement as say
use Rattle.program.specs.Program.{Program, Guest}
use Rattle.machine.specs.State.{State, Object, object_at, frame_at, frame_in}
use Rattle.machine.specs.Start.{Filling, property, held, nothing, filling_of, fillings, first_labels, start_labels, place_in, top_frame, start_objects, first_frame, guest_frames, unfilled, fill_one, fill, start}
use Rattle.machine.specs.Grown.{Grown}
use Rattle.machine.specs.Effect.{In}
use Rattle.machine.specs.Laws.{TopFrame, GuestFrames, StartObjects, FirstObjects}
use Rattle.machine.specs.Begun.{Begins, beforehand, owns, is-owned, is_held, StandsFor}
use Rattle.machine.proofs.Laws.Grown.{grown-refl, grown-trans, grown-value, grown-write}
use Rattle.machine.proofs.Laws.Making.{by-type}
use Rattle.machine.proofs.Laws.Labels.{Listed, property-listed, held-listed, fillings-begin, fillings-listed, place-of, length-start, object-is}

-- ---- filling takes nothing back

pub grown-one : (p : Program) (ls : List ℕ) (earlier : List Filling) (s : State) (a : Filling) → Grown s (fill_one p ls earlier s a)
grown-one p ls earlier s (property l n m) = grown-value s _ n _ _
grown-one p ls earlier s (held v l) = grown-write p s top_frame v _
grown-one p ls earlier s nothing = grown-refl s

pub grown-fill : (p : Program) (ls : List ℕ) (earlier : List Filling) (s : State) (xs : List Filling) → Grown s (fill p ls earlier s xs)
grown-fill p ls earlier s [] = grown-refl s
grown-fill p ls earlier s (a ∷ rest) = grown-trans (grown-one p ls earlier s a) (grown-fill p ls (a ∷ earlier) (fill_one p ls earlier s a) rest)

-- ---- frames

frame-at-start : (p : Program) (f : ℕ) → f < suc (length (guest_frames p.guests))
    → (In (start p) f (frame_at (unfilled p (start_labels p)) f).scope)
    × ((frame_at (start p) f).outward ≡ (frame_at (unfilled p (start_labels p)) f).outward)
    × ((frame_at (start p) f).caller ≡ (frame_at (unfilled p (start_labels p)) f).caller)
frame-at-start p f l =
    let w = grown-fill p (start_labels p) [] (unfilled p (start_labels p)) (fillings p) in
    let h = w.same-frames f l in
    (record { frame-there = omega (arith, w.more-frames); scope-is = h.same-scope }, h.same-outward, h.same-caller)

pub start-top : (p : Program) → TopFrame p
start-top p = frame-at-start p top_frame (omega arith)

guest-place : (gs : List Guest) (g : Guest) → Memᴰ g gs → (i : ℕ) × (i < length (guest_frames gs)) × (frame_in (guest_frames gs) i ≡ first_frame g.label (some top_frame))
guest-place [] g m = elim m [ ]
guest-place (h ∷ gs) g (Memᴰ.head e) = (0, omega arith, ap (λ (z : Guest). first_frame z.label (some top_frame)) (sym e))
guest-place (h ∷ gs) g (Memᴰ.tail m) = let r = guest-place gs g m in (suc r.0, omega arith, r.2)

pub start-guest : (p : Program) → GuestFrames p
start-guest p g m =
    let r = guest-place p.guests g m in
    let h = frame-at-start p (suc r.0) (omega arith) in
    (suc r.0, record { frame-there = h.0.frame-there; scope-is = h.0.scope-is ∙ ap (λ z. z.scope) r.2 }, h.1 ∙ ap (λ z. z.outward) r.2, h.2 ∙ ap (λ z. z.caller) r.2)

-- ---- objects

among-fillings : (ss : List (ℕ × say.Statement)) (at : ℕ) (a : say.Statement) → Memᴰ (at, a) ss → Memᴰ (filling_of a) (map (λ s. filling_of s.1) ss)
among-fillings [] at a m = elim m [ ]
among-fillings (s ∷ ss) at a (Memᴰ.head e) = Memᴰ.head (ap (λ (z : ℕ × say.Statement). filling_of z.1) e)
among-fillings (s ∷ ss) at a (Memᴰ.tail m) = Memᴰ.tail (among-fillings ss at a m)

pub host-listed : (p : Program) (at : ℕ) (a : say.Statement) → Memᴰ (at, a) p.host → Listed (start_labels p) (filling_of a)
host-listed p at a m = fillings-listed first_labels (fillings p) (filling_of a) (among-fillings p.host at a m)

in_start : (p : Program) (l : ℕ) → Begins p l → Memᴰ l (start_labels p)
in_start p l (beforehand _ m) = (fillings-begin first_labels (fillings p)).within l (first m)
  where
    first : Memᴰ l (0 ∷ 1 ∷ 2 ∷ 4 ∷ []) → Memᴰ l first_labels
    first (Memᴰ.head e) = Memᴰ.tail (Memᴰ.head e)
    first (Memᴰ.tail (Memᴰ.head e)) = Memᴰ.head e
    first (Memᴰ.tail (Memᴰ.tail m)) = Memᴰ.tail (Memᴰ.tail m)
in_start p l (owns at _ n m h) = go (host-listed p at (say.property l n m) h)
  where
    go : Listed (start_labels p) (property l n m) → Memᴰ l (start_labels p)
    go (property-listed _ _ _ a b) = a
in_start p l (is-owned at k n _ h) = go (host-listed p at (say.property k n l) h)
  where
    go : Listed (start_labels p) (property k n l) → Memᴰ l (start_labels p)
    go (property-listed _ _ _ a b) = b
in_start p l (is_held at v _ h) = go (host-listed p at (say.held v l) h)
  where
    go : Listed (start_labels p) (held v l) → Memᴰ l (start_labels p)
    go (held-listed _ _ a) = a

-- the object of label l
pub stands-for : (p : Program) (s : State) (l : ℕ) → Grown (unfilled p (start_labels p)) s → Memᴰ l (start_labels p)
    → StandsFor p s l (place_in (start_labels p) l)
stands-for p s l w m =
    let ls = start_labels p in
    let i = place-of l ls m in
    let there : place_in ls l < length (start_objects p ls) = omega (arith, i.0, length-start p ls) in
    let same = w.same-objects (place_in ls l) there in
    let is = object-is p ls (place_in ls l) i.0 in
    record {
      is-there = omega (arith, w.more-objects);
      label_is = same.same-label ∙ ap (λ (o : Object). o.label) is ∙ i.1;
      kept-by-top = same.same_kept ∙ ap (λ (o : Object). o.kept) is;
      prototype-is = λ q n t. same.same-prototype ∙ ap (λ (o : Object). o.prototype) is ∙ rw (i.1, ne_eqb l 1 n) (by-type t);
      has-none = λ e. same.same-prototype ∙ ap (λ (o : Object). o.prototype) is ∙ rw (i.1, eq-eqb l 1 e);
    }

pub start-object : (p : Program) → StartObjects p
start-object p l b =
    (place_in (start_labels p) l, stands-for p (start p) l (grown-fill p (start_labels p) [] (unfilled p (start_labels p)) (fillings p)) (in_start p l b))

pub start_first : (p : Program) → FirstObjects p
start_first p = (at 0 (omega arith), at 1 (omega arith), at 2 (omega arith), at 3 (omega arith))
  where
    at : (i : ℕ) → i < 4 → (object_at (start p) i).label ≡ get_or first_labels i 0
    at i l =
        let b = fillings-begin first_labels (fillings p) in
        let there : i < length (start_labels p) = omega (arith, b.longer) in
        let w = grown-fill p (start_labels p) [] (unfilled p (start_labels p)) (fillings p) in
        (w.same-objects i (omega (arith, length-start p (start_labels p)))).same-label
        ∙ ap (λ (o : Object). o.label) (object-is p (start_labels p) i there) ∙ b.same i l
