-- A function label that the sheet lacks is one without a function record, and a readable file is a concatenation of well-formed records that leaves
-- none: what is read of it are these records, and the sheet that they make. Assumes nothing.
use mathlib.Core.Path.{◌≡◌, refl, sym, ap, ◌∙◌}
use mathlib.Core.Logic.{◌↔◌, ◌⊎◌, inl, inr}
use mathlib.Core.List.Memᴰ
use mathlib.Core.List.{List, [], ◌∷◌, Memᴰ}
use mathlib.Core.Bool.{Bool, true, false, ◌&&◌, true≢false}
use Prim.Native.Nat.{ℕ, zero, suc, ◌+◌, ◌<◌, ◌≤◌}
use native.Mathlib.Decide.{ℕ_discrete, dec_le}
use native.Mathlib.Omega.{arith}
use lib.ListN.{length, get_or, set}
use lib.Seq.{get_or-set_same, get_or-set_other}
use lib.Dec.{eqb}
use borrow.Author.Tests.{eqb-true}
use Rattle.layout.specs.Layout.{fields_of, function_label}
use Rattle.format.specs.Sheet.{Sheet, start}
use Rattle.format.specs.Fields.{good}
use Rattle.format.specs.Records.{Record, field, WellFormed, after}
use Rattle.format.specs.Reading.{Reading, sheet_after, AllWellFormed, positioned, lacking, read_file, Readable, Missing, Concatenation}
use Rattle.format.proofs.Tests.{and_first, and_second, or-true}
use Rattle.format.proofs.Fields.{fits-good}
use Rattle.format.proofs.Effect.{function_of, after_by}
use Rattle.format.proofs.Later.{Sized, function-below, record-extends, inside}
use Rattle.format.proofs.Ready.{Made, start_types}
use Rattle.format.proofs.Made.{start-sized, made-start, made_all}
use Rattle.format.proofs.Readable.{none-lacking}
use Rattle.format.proofs.File.{Complete, readable-complete, complete-read}

-- ---- what is known of a function stays known

set_known : (xs : List ℕ) (l j : ℕ) → (get_or xs j 0 ≡ 0 → ⊥) → get_or (set xs l 1) j 0 ≡ 0 → ⊥
set_known xs l j d = go (ℕ_discrete j l)
  where
    go : Dec (j ≡ l) → get_or (set xs l 1) j 0 ≡ 0 → ⊥
    go (yes e) z =
        let h : l < length xs = inside xs l 0 (rw e at d) in
        omega (arith, get_or-set_same xs l 1 0 h, ap (λ (i : ℕ). get_or (set xs l 1) i 0) e)
    go (no n) z = d (sym (get_or-set_other xs l j 1 0 n) ∙ z)

after-known : (s : Sheet) (k : ℕ) (b : List ℕ) (j : ℕ) → (get_or s.defined j 0 ≡ 0 → ⊥) → get_or (after s k b).defined j 0 ≡ 0 → ⊥
unfolding after
after-known s k b j d = go (eqb k 1) (eqb k 2) (eqb k 3) (eqb k 4) (eqb k 5) (eqb k 9)
  where
    go : (one two three four five nine : Bool) → get_or (after_by one two three four five nine s b).defined j 0 ≡ 0 → ⊥
    go true two three four five nine = d
    go false true three four five nine = d
    go false false true four five nine = d
    go false false false true five nine = set_known s.defined (field b 0) j d
    go false false false false true nine = d
    go false false false false false true = d
    go false false false false false false = d

all_known : (s : Sheet) (rs : List Record) (j : ℕ) → (get_or s.defined j 0 ≡ 0 → ⊥) → get_or (sheet_after s rs).defined j 0 ≡ 0 → ⊥
unfolding sheet_after
all_known s [] j d = d
all_known s (r ∷ rs) j d = all_known (after s r.kind r.body) rs j (after-known s r.kind r.body j d)

-- ---- a function record makes its function known

own-known : (L : ℕ) (s : Sheet) (r : Record) → Sized L s → WellFormed L s r → r.kind ≡ 4 → get_or (after s r.kind r.body).defined (field r.body 0) 0 ≡ 0 → ⊥
unfolding after good
own-known L s r sized w four z =
    let g : good L s function_label (field r.body 0) ≡ true =
    rw four at (fits-good L s (fields_of r.kind) r.body w.fits 0 w.kind-known) in
    let below = function-below L s (field r.body 0) sized (function_of s (field r.body 0) g) in
    let e : get_or (set s.defined (field r.body 0) 1) (field r.body 0) 0 ≡ 1 =
    get_or-set_same s.defined (field r.body 0) 1 0 (omega (arith, sized.defined-length)) in
    omega (arith, e, rw four at z)

recorded : (L : ℕ) (s : Sheet) (rs : List Record) (l : ℕ) → Sized L s → AllWellFormed L s rs → (r : Record) → Memᴰ r rs → r.kind ≡ 4
    → field r.body 0 ≡ l → get_or (sheet_after s rs).defined l 0 ≡ 0 → ⊥
unfolding sheet_after AllWellFormed
recorded L s [] l sized w r m four own = absurd (Memᴰ.not-nil m)
recorded L s (q ∷ rs) l sized w r (Memᴰ.head e) four own =
    all_known (after s q.kind q.body) rs l
    (rw (← own, e) (own-known L s q sized w.0 (rw e at four)))
recorded L s (q ∷ rs) l sized w r (Memᴰ.tail m) four own =
    recorded L (after s q.kind q.body) rs l ((record-extends L s q w.0).sizes-kept L sized) w.1 r m four own

-- ---- what the sheet lacks

lacking-found : (types defined : List ℕ) → lacking types defined ≡ true → (l : ℕ) × (get_or types l 0 ≡ 2) × (get_or defined l 0 ≡ 0)
unfolding lacking
lacking-found [] defined e = absurd (true≢false (sym e))
lacking-found (a ∷ types) [] e = absurd (true≢false (sym e))
lacking-found (a ∷ types) (b ∷ defined) e = go (or-true (eqb a 2 && eqb b 0) (lacking types defined) e) (lacking-found types defined)
  where
    go : ((eqb a 2 && eqb b 0) ≡ true) ⊎ (lacking types defined ≡ true)
        → (lacking types defined ≡ true → (l : ℕ) × (get_or types l 0 ≡ 2) × (get_or defined l 0 ≡ 0))
        → (l : ℕ) × (get_or (a ∷ types) l 0 ≡ 2) × (get_or (b ∷ defined) l 0 ≡ 0)
    go (inl h) rest = (0, eqb-true _ _ (and_first (eqb a 2) (eqb b 0) h), eqb-true _ _ (and_second (eqb a 2) (eqb b 0) h))
    go (inr h) rest = let f = rest h in (suc f.0, f.1, f.2)

-- of the labels below 5 only label 3 is a function
third : (l : ℕ) → l < 5 → get_or start_types l 0 ≡ 2 → l ≡ 3
third zero h e = absurd (omega arith)
third (suc zero) h e = absurd (omega arith)
third (suc (suc zero)) h e = absurd (omega arith)
third (suc (suc (suc zero))) h e = refl
third (suc (suc (suc (suc zero)))) h e = absurd (omega arith)
third (suc (suc (suc (suc (suc l))))) h e = absurd (omega arith)

start-third : (L : ℕ) → get_or (start L).defined 3 0 ≡ 0 → ⊥
unfolding start
start-third L e = omega arith

positioned-member : (at a : ℕ) (rs : List Record) (r : Record) → Memᴰ (at, r) (positioned a rs) → Memᴰ r rs
unfolding positioned
positioned-member at a [] r m = absurd (Memᴰ.not-nil m)
positioned-member at a (q ∷ rs) r (Memᴰ.head e) = Memᴰ.head (ap (λ (x : ℕ × Record). x.1) e)
positioned-member at a (q ∷ rs) r (Memᴰ.tail m) = Memᴰ.tail (positioned-member at (a + 1 + length q.body) rs r m)

module _ (L : ℕ) (five : 5 ≤ L) (rs : List Record) (w : AllWellFormed L (start L) rs) where
  made : Made L (sheet_after (start L) rs) (positioned 0 rs)
  made = made_all L (start L) [] 0 rs (made-start L five) w

  pub lacking-missing : lacking (sheet_after (start L) rs).types (sheet_after (start L) rs).defined ≡ true
      → (l : ℕ) × Missing (sheet_after (start L) rs) rs l
  lacking-missing e = let f = lacking-found _ _ e in (f.0, missing f.0 f.1 f.2)
    where
      low : (l : ℕ) → get_or (sheet_after (start L) rs).types l 0 ≡ 2 → get_or (sheet_after (start L) rs).defined l 0 ≡ 0 → Dec (5 ≤ l) → 5 ≤ l
      low l t d (yes h) = h
      low l t d (no h) =
          let three : l ≡ 3 = third l (omega arith) (sym (made.labels.start-type l (omega arith)) ∙ t) in
          absurd (all_known (start L) rs 3 (start-third L) (rw three at d))

      missing : (l : ℕ) → get_or (sheet_after (start L) rs).types l 0 ≡ 2 → get_or (sheet_after (start L) rs).defined l 0 ≡ 0 → Missing (sheet_after (start L) rs) rs l
      missing l t d =
          record {
            from-five = low l t d (dec_le 5 l);
            is-function = t;
            no_record = λ r m four own. recorded L (start L) rs l (start-sized L five) w r m four own d;
          }

  pub missing-lacking : (l : ℕ) → Missing (sheet_after (start L) rs) rs l
      → lacking (sheet_after (start L) rs).types (sheet_after (start L) rs).defined ≡ true
  missing-lacking l m = go (lacking (sheet_after (start L) rs).types (sheet_after (start L) rs).defined) refl
    where
      unknown : Dec (get_or (sheet_after (start L) rs).defined l 0 ≡ 0) → get_or (sheet_after (start L) rs).defined l 0 ≡ 0
      unknown (yes e) = e
      unknown (no d) =
          let a = made.functions.function-record l m.from-five d in
          absurd (m.no_record _ (positioned-member a.position 0 rs _ a.member) refl refl)

      go : (b : Bool) → lacking (sheet_after (start L) rs).types (sheet_after (start L) rs).defined ≡ b → b ≡ true
      go true e = refl
      go false e =
          absurd (none-lacking _ _ (made.sized.types-length ∙ sym made.sized.defined-length) e l m.is-function
          (unknown (ℕ_discrete (get_or (sheet_after (start L) rs).defined l 0) 0)))

-- ---- readable files

-- a file is readable exactly where it is a concatenation of well-formed records that leaves no function out
complete-concatenation : (L : ℕ) → 5 ≤ L → (xs : List ℕ) → Complete L xs → Concatenation L xs
complete-concatenation L five xs c =
    record {
      records = c.records;
      bytes = c.bytes;
      not-too-long = c.short;
      well-formed = c.well-formed;
      none-missing = λ l m. true≢false (sym (missing-lacking L five c.records c.well-formed l m) ∙ c.complete);
    }

pub concatenation-complete : (L : ℕ) → 5 ≤ L → (xs : List ℕ) → Concatenation L xs → Complete L xs
concatenation-complete L five xs c =
    record { records = c.records; bytes = c.bytes; short = c.not-too-long; well-formed = c.well-formed; complete = go (lacking _ _) refl }
  where
    go : (b : Bool) → lacking (sheet_after (start L) c.records).types (sheet_after (start L) c.records).defined ≡ b → b ≡ false
    go true e = let f = lacking-missing L five c.records c.well-formed e in absurd (c.none-missing f.0 f.1)
    go false e = refl

pub readable-iff : (L : ℕ) → 5 ≤ L → (xs : List ℕ) → Readable L xs ↔ Concatenation L xs
readable-iff L five xs = (
  (λ e. complete-concatenation L five xs (readable-complete L xs e)),
  (λ c. ap (λ (d : Reading). d.refusal) (complete-read L xs (concatenation-complete L five xs c))),
)

-- what is read of it are its records, each with its position, and the sheet that they make
pub concatenation-read : (L : ℕ) → 5 ≤ L → (xs : List ℕ) (c : Concatenation L xs)
    → ((read_file L xs).records ≡ positioned 0 c.records) × ((read_file L xs).sheet ≡ sheet_after (start L) c.records)
unfolding concatenation-complete
concatenation-read L five xs c =
    let e = complete-read L xs (concatenation-complete L five xs c) in
    (ap (λ (d : Reading). d.records) e, ap (λ (d : Reading). d.sheet) e)
