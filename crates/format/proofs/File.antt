-- Reading a whole file: it is readable exactly where it is a concatenation of well-formed records that leaves no function undefined; which
-- refusals there are, and where. Assumes nothing.
use mathlib.Core.Path.{◌≡◌, refl, sym, ap, ◌∙◌, subst}
use mathlib.Core.List.{List}
use mathlib.Core.Bool.{Bool, true, false, cond, ◌&&◌}
use Prim.Native.Nat.{ℕ, ◌<◌, ◌≤◌}
use native.Mathlib.Omega.{arith}
use native.Mathlib.Decide.{dec_le}
use lib.ListN.{length}
use lib.Dec.{eqb}
use borrow.Author.Tests.{lt-ltb, le-ltb, eqb-true, eqb-false}
use Rattle.format.specs.Sheet.{start}
use Rattle.format.specs.Records.{Record}
use Rattle.format.specs.Reading.{Reading, stopped, read_from, lacking, finished, longest, written, sheet_after, AllWellFormed, read_file, Readable}
use Rattle.format.proofs.Written.{just, Whole, read_whole, written_read, read-refusal-small, read-position-end, read-position-within}

pub too_long : (L : ℕ) (xs : List ℕ) → longest < length xs → read_file L xs ≡ stopped (start L) 9 0
unfolding read_file
too_long L xs h = rw (lt-ltb _ _ h)

pub short-enough : (L : ℕ) (xs : List ℕ) → length xs ≤ longest → read_file L xs ≡ finished (read_from L (start L) 0 xs)
unfolding read_file
short-enough L xs h = rw (le-ltb _ _ h)

-- the three ways in which reading a file that is not too long ends
pub data Ending (L : ℕ) (xs : List ℕ) : Type 0 where
  refused : ((read_from L (start L) 0 xs).refusal ≡ 0 → ⊥) → read_file L xs ≡ read_from L (start L) 0 xs → Ending L xs
  undefined : (read_from L (start L) 0 xs).refusal ≡ 0 → lacking (read_from L (start L) 0 xs).sheet.types (read_from L (start L) 0 xs).sheet.defined ≡ true
      → (read_file L xs).refusal ≡ 7 → (read_file L xs).position ≡ length xs → Ending L xs
  complete : (read_from L (start L) 0 xs).refusal ≡ 0 → read_file L xs ≡ read_from L (start L) 0 xs
      → lacking (read_file L xs).sheet.types (read_file L xs).sheet.defined ≡ false → Ending L xs

pub ending : (L : ℕ) (xs : List ℕ) → length xs ≤ longest → Ending L xs
unfolding finished
ending L xs short =
    go (eqb d.refusal 0) refl (lacking d.sheet.types d.sheet.defined) refl (short-enough L xs short)
  where
    d : Reading
    d = read_from L (start L) 0 xs

    go : (t : Bool) → eqb d.refusal 0 ≡ t → (u : Bool) → lacking d.sheet.types d.sheet.defined ≡ u
        → read_file L xs ≡ cond (t && u) (record { records = d.records; sheet = d.sheet; refusal = 7; position = d.position }) d
        → Ending L xs
    go false qt u qu e = refused (eqb-false _ _ qt) e
    go true qt true qu e =
        undefined (eqb-true _ _ qt) qu (ap (λ (r : Reading). r.refusal) e)
        (omega (arith, ap (λ (r : Reading). r.position) e, read-position-end L (start L) 0 xs (eqb-true d.refusal 0 qt)))
    go true qt false qu e = complete (eqb-true _ _ qt) e (rw e qu)

-- ---- a readable file

-- a readable file is not too long, it is read whole, and every function of it is defined
pub record Read (L : ℕ) (xs : List ℕ) : Type 0 where
  pub short : length xs ≤ longest
  pub whole : Whole L (start L) 0 xs
  pub same : read_file L xs ≡ read_from L (start L) 0 xs
  pub complete : lacking (read_file L xs).sheet.types (read_file L xs).sheet.defined ≡ false

pub readable-read : (L : ℕ) (xs : List ℕ) → Readable L xs → Read L xs
readable-read L xs e = go (dec_le (length xs) longest)
  where
    by-ending : length xs ≤ longest → Ending L xs → Read L xs
    by-ending h (refused n same) = absurd (n (sym (ap (λ (d : Reading). d.refusal) same) ∙ e))
    by-ending h (undefined z u seven p) = absurd (omega arith)
    by-ending h (complete z same c) = record { short = h; whole = read_whole L (start L) 0 xs z; same = same; complete = c }

    go : Dec (length xs ≤ longest) → Read L xs
    go (yes h) = by-ending h (ending L xs h)
    go (no h) = absurd (omega (arith, ap (λ (d : Reading). d.refusal) (too_long L xs (omega arith))))

-- what a readable file reads as, said of its records
pub read_is : (L : ℕ) (xs : List ℕ) (r : Read L xs) → read_file L xs ≡ just (start L) 0 r.whole.records 0
read_is L xs r = r.same ∙ r.whole.read

-- the same with what the sheet lacks: Missing.antt says it in the paper's words
pub record Complete (L : ℕ) (xs : List ℕ) : Type 0 where
  pub records : List Record
  pub bytes : xs ≡ written records
  pub short : length xs ≤ longest
  pub well-formed : AllWellFormed L (start L) records
  pub complete : lacking (sheet_after (start L) records).types (sheet_after (start L) records).defined ≡ false

pub readable-complete : (L : ℕ) (xs : List ℕ) → Readable L xs → Complete L xs
readable-complete L xs e =
    let r = readable-read L xs e in
    record {
      records = r.whole.records;
      bytes = r.whole.bytes;
      short = r.short;
      well-formed = r.whole.well-formed;
      complete = rw (read_is L xs r) at r.complete;
    }

-- and what is read of it is these records
pub complete-read : (L : ℕ) (xs : List ℕ) (c : Complete L xs) → read_file L xs ≡ just (start L) 0 c.records 0
unfolding finished
complete-read L xs c =
    let e : read_from L (start L) 0 xs ≡ just (start L) 0 c.records 0 =
    ap (read_from L (start L) 0) c.bytes ∙ written_read L (start L) 0 c.records c.well-formed in
    short-enough L xs c.short ∙ rw (e, c.complete)

-- ---- which refusals there are, and where

module _ (L : ℕ) (xs : List ℕ) where
  -- a file that is too long is refused with 9 at position 0, every other by its ending
  by_length : (P : Reading → Type 0) → (longest < length xs → P (stopped (start L) 9 0)) → (Ending L xs → P (read_file L xs)) → P (read_file L xs)
  by_length P long other =
      elim (dec_le (length xs) longest) [
        | yes h ↦ other (ending L xs h)
        | no h ↦ subst P (sym (too_long L xs (omega arith))) (long (omega arith))
      ]

  pub file-refusal-small : (read_file L xs).refusal < 10
  file-refusal-small = by_length (λ (d : Reading). d.refusal < 10) (λ _. omega arith) go
    where
      go : Ending L xs → (read_file L xs).refusal < 10
      go (refused n same) = omega (arith, ap (λ (d : Reading). d.refusal) same, read-refusal-small L (start L) 0 xs)
      go (undefined z u seven p) = omega arith
      go (complete z same c) = omega (arith, ap (λ (d : Reading). d.refusal) same)

  pub file-position-within : (read_file L xs).position ≤ length xs
  file-position-within = by_length (λ (d : Reading). d.position ≤ length xs) (λ _. omega arith) go
    where
      go : Ending L xs → (read_file L xs).position ≤ length xs
      go (refused n same) = omega (arith, ap (λ (d : Reading). d.position) same, read-position-within L (start L) 0 xs)
      go (undefined z u seven p) = omega arith
      go (complete z same c) = omega (arith, ap (λ (d : Reading). d.position) same, read-position-within L (start L) 0 xs)
