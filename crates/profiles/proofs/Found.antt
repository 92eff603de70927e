-- The record in a file that is read, and the place for it in a file that has none: the records before it and behind it. Assumes nothing.
use mathlib.Core.Path.{◌≡◌, sym, ap, subst, ◌∙◌}
use mathlib.Core.List.Memᴰ
use mathlib.Core.List.{List, [], ◌∷◌, ◌++◌, Memᴰ}
use mathlib.Core.Bool.{false}
use Prim.Native.Nat.{ℕ, ◌+◌, ◌≤◌, ◌<◌}
use native.Mathlib.Omega.{arith}
use lib.ListN.{length, take, drop}
use borrow.Author.Tests.{ltb-true}
use Rattle.format.specs.Sheet.{Sheet, start, with_profile}
use Rattle.format.specs.Fields.{good, Fits}
use Rattle.format.specs.Records.{Record, twice, after}
use Rattle.format.specs.Reading.{Reading, read_from, read_file, Readable, lacking, longest, written, sheet_after, AllWellFormed, positioned}
use Rattle.format.proofs.Effect.{equal}
use Rattle.format.proofs.Reading.{joined, written-first}
use Rattle.format.proofs.Written.{Whole, read_whole}
use Rattle.format.proofs.File.{Complete, readable-complete, Read, readable-read}
use Rattle.format.proofs.Placed.{written-append, Place, well-formed-append, sheet-append}
use Rattle.toplevel.proofs.Found.{left_out, found}
use Rattle.profiles.specs.Profiles.{profile, Free}
use Rattle.profiles.proofs.Records.{Unprofiled, all_held, only_one, sheet-with, class-stays}
use Rattle.profiles.proofs.Read.{free-unheld, Around}

-- the bytes of both files, by their records
pub record Parted (L : ℕ) (ys xs : List ℕ) (c : ℕ) : Type 0 where
  pub before : List Record
  pub behind : List Record
  pub around : Around L before behind c
  pub without : ys ≡ written (before ++ behind)
  pub with_it : xs ≡ written (before ++ (profile c ∷ behind))

-- ---- taken out

module _ (L : ℕ) (xs : List ℕ) (ok : Readable L xs) (at c : ℕ) where
  pub taken_out : Memᴰ (at, profile c) (read_file L xs).records → Parted L (take at xs ++ drop (at + 2) xs) xs c
  unfolding AllWellFormed Fits good twice after
  taken_out m = go (found L xs whole at (profile c) m)
    where
      whole : Complete L xs
      whole = readable-complete L xs ok

      go : Place (profile c) whole.records at 0 → Parted L (take at xs ++ drop (at + 2) xs) xs c
      go p =
          let made : Sheet = sheet_after (start L) p.before in
          let w = (well-formed-append L (start L) p.before (profile c ∷ p.behind)).0 (subst (AllWellFormed L (start L)) p.all whole.well-formed) in
          let class : c < 8 = ltb-true c 8 w.1.0.fits.0 in
          let none : Unprofiled p.behind = only_one L made c class p.behind w.1.1 in
          let bytes : xs ≡ written (p.before ++ (profile c ∷ p.behind)) = whole.bytes ∙ ap written p.all in
          let sheet : sheet_after (start L) whole.records ≡ with_profile (sheet_after (start L) (p.before ++ p.behind)) c =
          ap (sheet_after (start L)) p.all ∙ sheet-with (start L) p.before p.behind c none in
          record {
            before = p.before;
            behind = p.behind;
            around =
                record {
                  class = class;
                  first = w.0;
                  second = all_held L made c made.profile p.behind none w.1.1;
                  unheld = equal made.profile 255 w.1.0.once;
                  unprofiled = none;
                  short = subst (λ (zs : List ℕ). length zs ≤ longest) bytes whole.short;
                  complete = subst (λ (s : Sheet). lacking s.types s.defined ≡ false) sheet whole.complete;
                };
            without =
                left_out p.before p.behind (profile c) xs (bytes ∙ written-append p.before (profile c ∷ p.behind)) at (at + 2)
                (omega (arith, p.place)) (omega arith)
                ∙ sym (written-append p.before p.behind);
            with_it = bytes;
          }

-- ---- put in

-- a record of a list stands somewhere
standing : (a : ℕ) (rs : List Record) (r : Record) → Memᴰ r rs → (at : ℕ) × Memᴰ (at, r) (positioned a rs)
unfolding positioned
standing a [] r m = absurd (Memᴰ.not-nil m)
standing a (q ∷ rs) r (Memᴰ.head e) = (a, Memᴰ.head (ap (λ (x : Record). (a, x)) e))
standing a (q ∷ rs) r (Memᴰ.tail m) = let s = standing (a + 1 + length q.body) rs r m in (s.0, Memᴰ.tail s.1)

module _ (L : ℕ) (five : 5 ≤ L) (before : List Record) (bytes : List ℕ) (c : ℕ) (class : c < 8) (first : AllWellFormed L (start L) before) where
  abbrev at : ℕ
  at = 0 + length (written before)

  abbrev made : Sheet
  made = sheet_after (start L) before

  pub put_in : length (written before ++ (9 ∷ c ∷ bytes)) ≤ longest → Readable L (written before ++ bytes) → Free L (written before ++ bytes)
      → Parted L (written before ++ bytes) (written before ++ (9 ∷ c ∷ bytes)) c
  unfolding written
  put_in short ok free = go (read_whole L made at bytes (sym (ap (λ (d : Reading). d.refusal) parts) ∙ ok))
    where
      ys : List ℕ
      ys = written before ++ bytes

      read : Read L ys
      read = readable-read L ys ok

      parts : read_file L ys ≡ joined (positioned 0 before) (read_from L made at bytes)
      parts = read.same ∙ written-first L (start L) 0 before bytes first

      go : Whole L made at bytes → Parted L (written before ++ bytes) (written before ++ (9 ∷ c ∷ bytes)) c
      go rest =
          let behind : List Record = rest.records in
          let all = parts ∙ ap (joined (positioned 0 before)) rest.read in
          let none : Unprofiled behind = (λ r m e.
          let s = standing at behind r m in
          free s.0 r (subst (λ (d : Reading). Memᴰ (s.0, r) d.records) (sym all) (Memᴰ.append_right (positioned 0 before) s.1)) e) in
          let with_it : written before ++ (9 ∷ c ∷ bytes) ≡ written (before ++ (profile c ∷ behind)) =
          ap (λ (zs : List ℕ). written before ++ (9 ∷ c ∷ zs)) rest.bytes ∙ sym (written-append before (profile c ∷ behind)) in
          record {
            before = before;
            behind = behind;
            around =
                record {
                  class = class;
                  first = first;
                  second = rest.well-formed;
                  unheld = sym (class-stays made behind none) ∙ sym (ap (λ (d : Reading). d.sheet.profile) all) ∙ free-unheld L five ys ok free;
                  unprofiled = none;
                  short = subst (λ (zs : List ℕ). length zs ≤ longest) with_it short;
                  complete =
                      subst (λ (s : Sheet). lacking s.types s.defined ≡ false)
                      (ap (λ (d : Reading). d.sheet) all ∙ sym (sheet-append (start L) before behind)) read.complete;
                };
            without = ap (λ (zs : List ℕ). written before ++ zs) rest.bytes ∙ sym (written-append before behind);
            with_it = with_it;
          }
