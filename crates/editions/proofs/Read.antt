-- A file that is readable with L labels is readable with n more, and the same is read of it: the same records, and the sheet widened.
-- Assumes nothing.
use mathlib.Core.Path.{◌≡◌, refl, sym, ap, ◌∙◌, subst}
use mathlib.Core.List.{List, [], ◌∷◌}
use mathlib.Core.Bool.{true}
use Prim.Native.Nat.{ℕ, ◌+◌, ◌≤◌}
use native.Mathlib.Omega.{arith}
use lib.Dec.{leb, ltb}
use borrow.Author.Tests.{ltb-true, lt-ltb}
use Rattle.layout.specs.Layout.{Class, name, mask, new_label, type, flag, any_label, host_label, function_label, plain_label, data_label, scope, new_variable, variable, declared_variable, global_variable, variable_name, name_class, key, fields_of}
use Rattle.format.specs.Sheet.{Sheet, type_of, start}
use Rattle.format.specs.Fields.{good, Fits}
use Rattle.format.specs.Records.{Record, field, WellFormed, twice, after}
use Rattle.format.specs.Reading.{sheet_after, AllWellFormed, Concatenation, Readable, read_file}
use Rattle.format.proofs.Tests.{and-map}
use Rattle.format.proofs.Arrays.{padded}
use Rattle.format.proofs.Later.{Sized, record-extends}
use Rattle.format.proofs.Made.{start-sized}
use Rattle.format.proofs.Missing.{readable-iff, concatenation-read}
use Rattle.editions.proofs.Widened.{widened, start-widened, after-widened}

-- ---- a record

module _ (L n : ℕ) (s : Sheet) where
  type-widened : (l : ℕ) → type_of (widened n s) l ≡ type_of s l
  type-widened l = padded s.types n 0 l

  good-widened : (c : Class) (b : ℕ) → good L s c b ≡ true → good (L + n) (widened n s) c b ≡ true
  unfolding good
  good-widened name b e = e
  good-widened mask b e = e
  good-widened new_label b e = and-map (leb 5 b) (ltb b L) (ltb b (L + n)) (λ h. lt-ltb b (L + n) (omega (arith, ltb-true b L h))) e
  good-widened type b e = e
  good-widened flag b e = e
  good-widened any_label b e = rw (type-widened b) e
  good-widened host_label b e = rw (type-widened b) e
  good-widened function_label b e = rw (type-widened b) e
  good-widened plain_label b e = rw (type-widened b) e
  good-widened data_label b e = rw (type-widened b) e
  good-widened scope b e = rw (type-widened b) e
  good-widened new_variable b e = e
  good-widened variable b e = e
  good-widened declared_variable b e = e
  good-widened global_variable b e = e
  good-widened variable_name b e = e
  good-widened name_class b e = e
  good-widened key b e = e

  fits-widened : (cs : List Class) (bs : List ℕ) → Fits L s cs bs → Fits (L + n) (widened n s) cs bs
  unfolding Fits
  fits-widened [] [] f = f
  fits-widened [] (b ∷ bs) f = f
  fits-widened (c ∷ cs) [] f = f
  fits-widened (c ∷ cs) (b ∷ bs) f = (good-widened c b f.0, fits-widened cs bs f.1)

  twice-widened : (k : ℕ) (b : List ℕ) → twice (widened n s) k b ≡ twice s k b
  unfolding twice
  twice-widened k b = rw (type-widened (field b 0), padded s.defined n 0 (field b 0))

  well-formed-widened : (r : Record) → WellFormed L s r → WellFormed (L + n) (widened n s) r
  well-formed-widened r w =
      record {
        kind-known = w.kind-known;
        fits = fits-widened (fields_of r.kind) r.body w.fits;
        well-named = w.well-named;
        once = twice-widened r.kind r.body ∙ w.once;
      }

-- ---- all records

all-widened : (L n : ℕ) (s : Sheet) → Sized L s → (rs : List Record) → AllWellFormed L s rs
    → AllWellFormed (L + n) (widened n s) rs × (sheet_after (widened n s) rs ≡ widened n (sheet_after s rs))
unfolding AllWellFormed sheet_after
all-widened L n s z [] w = (tt, refl)
all-widened L n s z (r ∷ rs) w =
    let e : after (widened n s) r.kind r.body ≡ widened n (after s r.kind r.body) = after-widened L n s z r w.0 in
    let rest = all-widened L n (after s r.kind r.body) ((record-extends L s r w.0).sizes-kept L z) rs w.1 in (
      (well-formed-widened L n s r w.0, subst (λ (t : Sheet). AllWellFormed (L + n) t rs) (sym e) rest.0),
      ap (λ (t : Sheet). sheet_after t rs) e ∙ rest.1,
    )

module _ (L n : ℕ) (five : 5 ≤ L) (xs : List ℕ) where
  all-from-start : (rs : List Record) → AllWellFormed L (start L) rs
      → AllWellFormed (L + n) (start (L + n)) rs × (sheet_after (start (L + n)) rs ≡ widened n (sheet_after (start L) rs))
  all-from-start rs w =
      subst (λ (t : Sheet). AllWellFormed (L + n) t rs × (sheet_after t rs ≡ widened n (sheet_after (start L) rs))) (sym (start-widened L n five))
      (all-widened L n (start L) (start-sized L five) rs w)

  concatenation-widened : Concatenation L xs → Concatenation (L + n) xs
  concatenation-widened c =
      let all = all-from-start c.records c.well-formed in
      record {
        records = c.records;
        bytes = c.bytes;
        not-too-long = c.not-too-long;
        well-formed = all.0;
        none-missing = λ l m. c.none-missing l
            (record {
              from-five = m.from-five;
              is-function =
                  sym (ap (λ (t : Sheet). type_of t l) all.1 ∙ type-widened L n (sheet_after (start L) c.records) l) ∙ m.is-function;
              no_record = m.no_record;
            });
      }

  -- what is read with n labels more
  pub record Read : Type 0 where
    pub readable : Readable (L + n) xs
    pub records : (read_file (L + n) xs).records ≡ (read_file L xs).records
    pub sheet : (read_file (L + n) xs).sheet ≡ widened n (read_file L xs).sheet

  pub readable-widened : Readable L xs → Read
  unfolding concatenation-widened
  readable-widened ok =
      let c = (readable-iff L five xs).0 ok in
      let w : Concatenation (L + n) xs = concatenation-widened c in
      let more : 5 ≤ L + n = omega arith in
      let small = concatenation-read L five xs c in
      let large = concatenation-read (L + n) more xs w in
      record {
        readable = (readable-iff (L + n) more xs).1 w;
        records = large.0 ∙ sym small.0;
        sheet = large.1 ∙ (all-from-start c.records c.well-formed).1 ∙ ap (widened n) (sym small.1);
      }
