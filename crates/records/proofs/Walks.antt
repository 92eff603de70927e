-- Walking over the records of a readable file: at each turn what is left of the bytes is the records left, written out. Assumes nothing.
use mathlib.Core.Path.{◌≡◌, refl, sym, ap, ◌∙◌, subst}
use mathlib.Core.List.{List, [], ◌∷◌, ◌++◌, append_assoc, Memᴰ}
use mathlib.Core.Bool.{Bool, true, false}
use Prim.Native.Nat.{ℕ, suc, ◌+◌, ◌-◌, ◌≤◌, ◌<◌}
use native.Mathlib.Numerals.{add-one}
use native.Mathlib.Omega.{arith}
use lib.ListN.{length, get_or, take, drop, length-drop, length-append, drop_of_length-le}
use lib.Seq.{drop-cons, drop-drop, take_at, drop_at}
use Rattle.rows.specs.Edition.{labels}
use Rattle.layout.specs.Layout.{body_length}
use Rattle.format.specs.Records.{Record}
use Rattle.format.specs.Reading.{Reading, read_file, Readable, written, positioned}
use Rattle.format.proofs.File.{Read, readable-read, read_is}
use Rattle.format.proofs.Ready.{Made}
use Rattle.format.proofs.Readable.{readable-ready}
use Rattle.records.specs.Range.{InRange}
use Rattle.records.specs.Walk.{Sound, AllSound, Walk, body_at}
use Rattle.records.proofs.Ranges.{fits-in-range}

-- how many labels there are
pub five-labels : (wide : Bool) → 5 ≤ labels wide
five-labels true = omega arith
five-labels false = omega arith

pub most-labels : (wide : Bool) → labels wide ≤ 256
most-labels true = omega arith
most-labels false = omega arith

all_sound : (L at : ℕ) (rs : List Record) → ((a : ℕ) (r : Record) → Memᴰ (a, r) (positioned at rs) → Sound L r) → AllSound L rs
unfolding positioned
all_sound L at [] h = tt
all_sound L at (r ∷ rs) h =
    (h at r (Memᴰ.head refl), all_sound L (at + 1 + length r.body) rs (λ a q i. h a q (Memᴰ.tail i)))

pub walk_first : (L : ℕ) (file : List ℕ) → 5 ≤ L → Readable L file → Walk L file 0
walk_first L file five ok =
    record {
      done = [];
      rest = r.whole.records;
      whole = records;
      bytes = r.whole.bytes;
      within = omega arith;
      sound = all_sound L 0 r.whole.records (λ a q i.
          let f = m.all_fit a q (subst (λ (ps : List (ℕ × Record)). Memᴰ (a, q) ps) (sym records) i) in
          (f.0, fits-in-range L (read_file L file).sheet m.sized five q.kind q.body f.1));
    }
  where
    r : Read L file
    r = readable-read L file ok

    m : Made L (read_file L file).sheet (read_file L file).records
    m = (readable-ready L file five ok).made

    records : (read_file L file).records ≡ positioned 0 r.whole.records
    records = ap (λ (d : Reading). d.records) (read_is L file r)

pub first_done : (L : ℕ) (file : List ℕ) (five : 5 ≤ L) (ok : Readable L file) → (walk_first L file five ok).done ≡ []
unfolding walk_first
first_done L file five ok = refl

-- the record at the front of the bytes left
pub record Head (L : ℕ) (file : List ℕ) (at : ℕ) (rest : List Record) : Type 0 where
  pub front : Record
  pub others : List Record
  pub parts : rest ≡ front ∷ others
  pub kind : get_or file at 0 ≡ front.kind
  pub after : drop (suc at) file ≡ front.body ++ written others
  pub sound : Sound L front
  pub more : AllSound L others

head : (L : ℕ) (file : List ℕ) (at : ℕ) (rest : List Record) → drop at file ≡ written rest → AllSound L rest → at < length file → Head L file at rest
unfolding written
head L file at [] e s h = absurd (omega (arith, length-drop at file, ap length e))
head L file at (r ∷ rs) e s h =
    let d : get_or file at 0 ∷ drop (suc at) file ≡ r.kind ∷ (r.body ++ written rs) = sym (drop-cons file at 0 h) ∙ e in
    record { front = r; others = rs; parts = refl; kind = (cc); after = (cc); sound = s.0; more = s.1 }

module _ {L : ℕ} {file : List ℕ} {at : ℕ} (w : Walk L file at) (h : at < length file) where
  pub here : Head L file at w.rest
  here = head L file at w.rest w.bytes w.sound h

  size : length here.front.body ≡ body_length (get_or file at 0)
  size = here.sound.1.0 ∙ ap body_length (sym here.kind)

  pub walk-room : at + 1 + body_length (get_or file at 0) ≤ length file
  walk-room =
      omega (arith, size, length-drop (suc at) file, ap length here.after, length-append here.front.body (written here.others))

  pub body-at : body_at file at ≡ here.front.body
  body-at = rw (add-one, here.after) (take_at here.front.body (written here.others) (body_length (get_or file at 0)) size)

  pub body-range : InRange L (get_or file at 0) (body_at file at)
  body-range = rw (body-at, here.kind) here.sound.1

  module _ (n : ℕ) (e : n ≡ body_length (get_or file at 0)) where
    left : drop (at + 1 + n) file ≡ written here.others
    left =
        let q : at + 1 + n ≡ suc at + n = omega arith in
        rw (q, ← drop-drop n (suc at) file, here.after) (drop_at here.front.body (written here.others) n (size ∙ sym e))

    pub walk-next : Walk L file (at + 1 + n)
    walk-next =
        record {
          done = w.done ++ (here.front ∷ []);
          rest = here.others;
          whole = w.whole ∙ ap (λ (rs : List Record). positioned 0 (w.done ++ rs)) here.parts
              ∙ ap (positioned 0) (sym (append_assoc w.done (here.front ∷ []) here.others));
          bytes = left;
          within = omega (arith, walk-room, e);
          sound = here.more;
        }

    pub next-done : walk-next.done ≡ w.done ++ (here.front ∷ [])
    unfolding walk-next
    next-done = refl

  -- after the record here
  abbrev pub onward : Walk L file (at + 1 + body_length (get_or file at 0))
  onward = walk-next (body_length (get_or file at 0)) refl

-- at the end of the file no records are left
pub rest_end : {L : ℕ} {file : List ℕ} {at : ℕ} (w : Walk L file at) → length file ≤ at → w.rest ≡ []
unfolding written
rest_end {L} {file} w h = go w.rest (sym (drop_of_length-le file h) ∙ w.bytes)
  where
    none : (r : Record) (rs : List Record) → [] ≡ written (r ∷ rs) → ⊥
    none r rs e = omega (arith, ap length e)

    go : (rs : List Record) → [] ≡ written rs → rs ≡ []
    go [] e = refl
    go (r ∷ rs) e = absurd (none r rs e)

-- the bytes from a record's kind to the next record are its body
pub slice-body : (file : List ℕ) (at next : ℕ) → next ≡ at + 1 + body_length (get_or file at 0) → take (next - (at + 1)) (drop (at + 1) file) ≡ body_at file at
slice-body file at next e =
    let n : next - (at + 1) ≡ body_length (get_or file at 0) = omega (arith, e) in
    ap (λ (k : ℕ). take k (drop (at + 1) file)) n
