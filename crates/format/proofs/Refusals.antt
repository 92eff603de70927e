-- Reading refuses exactly what specs/Refusals.antt says of the bytes, with that number and at that position. Assumes nothing.
use mathlib.Core.Path.{◌≡◌, refl, sym, ap, subst, ◌∙◌}
use mathlib.Core.Logic.{◌↔◌}
use mathlib.Core.List.{List, [], ◌∷◌, ◌++◌}
use mathlib.Core.Bool.{Bool, true, false, cond}
use Prim.Native.Nat.{ℕ, ◌+◌, ◌≤◌}
use native.Mathlib.Decide.{dec_le}
use native.Mathlib.Omega.{arith}
use lib.ListN.{length, take, drop, take-append-drop}
use lib.Seq.{take_at, length-take-le}
use lib.ListN.{length-append}
use lib.Dec.{eqb, ltb}
use borrow.Author.Tests.{eq-eqb, ne_eqb, lt-ltb, le-ltb, eqb-true, eqb-false, ltb-true, ltb-false}
use Rattle.layout.specs.Layout.{Class, fields_of, body_length}
use Rattle.format.specs.Sheet.{Sheet, start}
use Rattle.format.specs.Fields.{good, refusal_of, Fits, first_bad}
use Rattle.format.specs.Records.{misnamed, twice, whole_refusal, body_refusal}
use Rattle.format.specs.Reading.{Reading, record_refusal, read_from, written, sheet_after, positioned, finished, longest, read_file}
use Rattle.format.specs.Refusals.{BadField, BadBody, bad-byte, name-with-owner, declared-twice, BadRecord, unknown-kind, cut_short, bad-body, BadFile, too_long, first-bad, function-missing}
use Rattle.format.proofs.Fields.{fits-none-bad, none-bad-fits, first-bad-leftmost, refusal-range, refusal-not-zero}
use Rattle.format.proofs.Written.{just, written_read, refused-read, read-bad, read_whole}
use Rattle.format.proofs.File.{short-enough, Ending, ending}
use Rattle.format.proofs.File as file
use Rattle.format.proofs.Missing.{lacking-missing, missing-lacking}

-- ---- a field

-- where a body is refused for a byte, there is a first such byte
found-bad : (L : ℕ) (s : Sheet) (cs : List Class) (bs : List ℕ) → (first_bad L s cs bs ≡ 0 → ⊥) → BadField L s cs bs (first_bad L s cs bs)
unfolding first_bad Fits
found-bad L s [] bs h = absurd (h refl)
found-bad L s (c ∷ cs) [] h = absurd (h refl)
found-bad L s (c ∷ cs) (b ∷ bs) h = go (good L s c b) refl h (found-bad L s cs bs)
  where
    go : (t : Bool) → good L s c b ≡ t → (cond t (first_bad L s cs bs) (refusal_of c) ≡ 0 → ⊥)
        → ((first_bad L s cs bs ≡ 0 → ⊥) → BadField L s cs bs (first_bad L s cs bs))
        → BadField L s (c ∷ cs) (b ∷ bs) (cond t (first_bad L s cs bs) (refusal_of c))
    go true e d rest =
        let f = rest d in
        record {
          before = c ∷ f.before;
          class = f.class;
          after = f.after;
          good-bytes = b ∷ f.good-bytes;
          byte = f.byte;
          bytes_after = f.bytes_after;
          classes = ap (λ (xs : List Class). c ∷ xs) f.classes;
          bytes = ap (λ (xs : List ℕ). b ∷ xs) f.bytes;
          good-before = (e, f.good-before);
          bad = f.bad;
          number = f.number;
        }
    go false e d rest =
        record {
          before = [];
          class = c;
          after = cs;
          good-bytes = [];
          byte = b;
          bytes_after = bs;
          classes = refl;
          bytes = refl;
          good-before = tt;
          bad = e;
          number = refl;
        }

bad-found : (L : ℕ) (s : Sheet) (cs : List Class) (bs : List ℕ) (n : ℕ) → BadField L s cs bs n → first_bad L s cs bs ≡ n
bad-found L s cs bs n f =
    ap (λ (x : List Class). first_bad L s x bs) f.classes
    ∙ ap (first_bad L s (f.before ++ (f.class ∷ f.after))) f.bytes
    ∙ first-bad-leftmost L s f.before f.good-bytes f.class f.byte f.after f.bytes_after f.good-before f.bad
    ∙ sym f.number

-- ---- a body

body_refused : (L : ℕ) (s : Sheet) (k : ℕ) (bs : List ℕ) (n : ℕ) → BadBody L s k bs n → body_refusal L s k bs ≡ n
unfolding body_refusal whole_refusal
body_refused L s k bs n (bad-byte f) =
    let e = bad-found L s (fields_of k) bs n f in
    let z : first_bad L s (fields_of k) bs ≡ 0 → ⊥ = λ h. refusal-not-zero f.class (sym f.number ∙ sym e ∙ h) in
    rw (ne_eqb _ _ z) e
body_refused L s k bs n (name-with-owner f m e) = rw (eq-eqb _ _ (fits-none-bad L s (fields_of k) bs f), m, e)
body_refused L s k bs n (declared-twice f m w e) = rw (eq-eqb _ _ (fits-none-bad L s (fields_of k) bs f), m, w, e)

body-bad : (L : ℕ) (s : Sheet) (k : ℕ) (bs : List ℕ) → length bs ≡ body_length k → (body_refusal L s k bs ≡ 0 → ⊥)
    → BadBody L s k bs (body_refusal L s k bs)
unfolding body_refusal whole_refusal
body-bad L s k bs long h =
    go (eqb (first_bad L s (fields_of k) bs) 0) refl (misnamed k bs) refl (twice s k bs) refl h
  where
    go : (t : Bool) → eqb (first_bad L s (fields_of k) bs) 0 ≡ t → (m : Bool) → misnamed k bs ≡ m → (w : Bool) → twice s k bs ≡ w
        → (cond t (cond m 5 (cond w 6 0)) (first_bad L s (fields_of k) bs) ≡ 0 → ⊥)
        → BadBody L s k bs (cond t (cond m 5 (cond w 6 0)) (first_bad L s (fields_of k) bs))
    go false q m qm w qw d = bad-byte (found-bad L s (fields_of k) bs d)
    go true q true qm w qw d = name-with-owner (none-bad-fits L s (fields_of k) bs long (eqb-true _ _ q)) qm refl
    go true q false qm true qw d = declared-twice (none-bad-fits L s (fields_of k) bs long (eqb-true _ _ q)) qm qw refl
    go true q false qm false qw d = absurd (d refl)

-- ---- a record

bad-record : (L : ℕ) (s : Sheet) (k : ℕ) (xs : List ℕ) (n : ℕ) → BadRecord L s k xs n → record_refusal L s k xs ≡ n
unfolding record_refusal
bad-record L s k xs n (unknown-kind z e) = rw (eq-eqb (body_length k) 0 z, e)
bad-record L s k xs n (cut_short p h e) = rw (ne_eqb (body_length k) 0 (λ z. omega arith), lt-ltb _ _ h, e)
bad-record L s k xs n (bad-body bs ys e p long b) =
    let room : body_length k ≤ length xs = omega (arith, ap length e, length-append bs ys, long) in
    let whole : take (body_length k) xs ≡ bs = ap (take (body_length k)) e ∙ take_at bs ys (body_length k) long in
    rw (ne_eqb (body_length k) 0 (λ z. omega arith), le-ltb _ _ room, whole) (body_refused L s k bs n b)

record-bad : (L : ℕ) (s : Sheet) (k : ℕ) (xs : List ℕ) → (record_refusal L s k xs ≡ 0 → ⊥) → BadRecord L s k xs (record_refusal L s k xs)
unfolding record_refusal
record-bad L s k xs h = go (eqb (body_length k) 0) refl (ltb (length xs) (body_length k)) refl h
  where
    go : (t : Bool) → eqb (body_length k) 0 ≡ t → (u : Bool) → ltb (length xs) (body_length k) ≡ u
        → (cond t 1 (cond u 2 (body_refusal L s k (take (body_length k) xs))) ≡ 0 → ⊥)
        → BadRecord L s k xs (cond t 1 (cond u 2 (body_refusal L s k (take (body_length k) xs))))
    go true qt u qu d = unknown-kind (eqb-true _ _ qt) refl
    go false qt true qu d = cut_short (omega (arith, eqb-false (body_length k) 0 qt)) (ltb-true _ _ qu) refl
    go false qt false qu d =
        let long = length-take-le (body_length k) xs (ltb-false _ _ qu) in
        bad-body (take (body_length k) xs) (drop (body_length k) xs) (sym (take-append-drop (body_length k) xs))
        (omega (arith, eqb-false (body_length k) 0 qt)) long (body-bad L s k (take (body_length k) xs) long d)

-- a record is refused with a number from 1 to 6
record-number : (L : ℕ) (s : Sheet) (k : ℕ) (xs : List ℕ) (n : ℕ) → BadRecord L s k xs n → 1 ≤ n
record-number L s k xs n (unknown-kind z e) = omega arith
record-number L s k xs n (cut_short p h e) = omega arith
record-number L s k xs n (bad-body bs ys e p long (bad-byte f)) = omega (arith, f.number, refusal-range f.class)
record-number L s k xs n (bad-body bs ys e p long (name-with-owner f m q)) = omega arith
record-number L s k xs n (bad-body bs ys e p long (declared-twice f m w q)) = omega arith

-- ---- a file

module _ (L : ℕ) (five : 5 ≤ L) (xs : List ℕ) where
  -- the number and the position with which reading ends
  abbrev Ends : ℕ → ℕ → Type 0
  Ends n at = ((read_file L xs).refusal ≡ n) × ((read_file L xs).position ≡ at)

  ends : (d : Reading) → read_file L xs ≡ d → Ends d.refusal d.position
  ends d e = (ap (λ (r : Reading). r.refusal) e, ap (λ (r : Reading). r.position) e)

  -- a record that is refused ends the reading
  bad-ends : (d : Reading) → length xs ≤ longest → read_from L (start L) 0 xs ≡ d → (d.refusal ≡ 0 → ⊥) → read_file L xs ≡ d
  unfolding finished
  bad-ends d h e z = short-enough L xs h ∙ rw (e, ne_eqb d.refusal 0 z)

  pub bad-file : (n at : ℕ) → BadFile L xs n at → Ends n at
  unfolding finished
  bad-file n at (too_long h e p) = let d = ends _ (file.too_long L xs h) in (d.0 ∙ sym e, d.1 ∙ sym p)
  bad-file n at (first-bad h rs k ys bytes w b p) =
      let e = bad-record L (sheet_after (start L) rs) k ys n b in
      let z : record_refusal L (sheet_after (start L) rs) k ys ≡ 0 → ⊥ = λ q. omega (arith, record-number L _ k ys n b) in
      let d = ends _ (bad-ends (just (start L) 0 rs (record_refusal L (sheet_after (start L) rs) k ys)) h
      (ap (read_from L (start L) 0) bytes ∙ refused-read L (start L) 0 rs k ys w z) z) in
      (d.0 ∙ e, omega (arith, d.1))
  bad-file n at (function-missing h rs bytes w l m e p) =
      let r : read_from L (start L) 0 xs ≡ just (start L) 0 rs 0 = ap (read_from L (start L) 0) bytes ∙ written_read L (start L) 0 rs w in
      let d = ends (record { records = positioned 0 rs; sheet = sheet_after (start L) rs; refusal = 7; position = 0 + length (written rs) })
      (short-enough L xs h ∙ rw (r, missing-lacking L five rs w l m)) in
      (d.0 ∙ sym e, omega (arith, d.1, ap length bytes))

  pub file-bad : ((read_file L xs).refusal ≡ 0 → ⊥) → BadFile L xs (read_file L xs).refusal (read_file L xs).position
  file-bad z = go (dec_le (length xs) longest)
    where
      by-ending : length xs ≤ longest → Ending L xs → BadFile L xs (read_file L xs).refusal (read_file L xs).position
      by-ending h (file.refused m same) =
          let b = read-bad L (start L) 0 xs m in
          let d = ends _ (same ∙ b.read) in
          first-bad h b.records b.kind b.after-kind b.bytes b.well-formed
          (subst (BadRecord L (sheet_after (start L) b.records) b.kind b.after-kind) (sym d.0) (record-bad L _ b.kind b.after-kind b.refused))
          (omega (arith, d.1))
      by-ending h (file.undefined m l seven p) =
          let w = read_whole L (start L) 0 xs m in
          let f = lacking-missing L five w.records w.well-formed (rw w.read at l) in
          function-missing h w.records w.bytes w.well-formed f.0 f.1 seven p
      by-ending h (file.complete m same c) = absurd (z (ap (λ (r : Reading). r.refusal) same ∙ m))

      go : Dec (length xs ≤ longest) → BadFile L xs (read_file L xs).refusal (read_file L xs).position
      go (yes h) = by-ending h (ending L xs h)
      go (no h) = let d = ends _ (file.too_long L xs (omega arith)) in too_long (omega arith) d.0 d.1

  -- what is refused is refused with a number from 1 up
  pub bad-file-number : (n at : ℕ) → BadFile L xs n at → 1 ≤ n
  bad-file-number n at (too_long h e p) = omega arith
  bad-file-number n at (first-bad h rs k ys bytes w b p) = record-number L _ k ys n b
  bad-file-number n at (function-missing h rs bytes w l m e p) = omega arith

  -- the same of every number and position
  pub bad-file-iff : (n at : ℕ) → BadFile L xs n at ↔ ((1 ≤ n) × ((read_file L xs).refusal ≡ n) × ((read_file L xs).position ≡ at))
  bad-file-iff n at = ((λ b. let e = bad-file n at b in (bad-file-number n at b, e.0, e.1)), back)
    where
      back : (1 ≤ n) × ((read_file L xs).refusal ≡ n) × ((read_file L xs).position ≡ at) → BadFile L xs n at
      back h =
          subst (λ (m : ℕ). BadFile L xs m at) h.1
          (subst (BadFile L xs (read_file L xs).refusal) h.2 (file-bad (λ z. omega (arith, h.0, h.1))))
