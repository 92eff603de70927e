-- Written records and reading: well-formed records written out and read again are the same; what is read without a refusal is such records
-- written out; what is refused has a first bad record; and reading goes on over bytes that are added. Assumes nothing.
use mathlib.Core.Path.{◌≡◌, sym, ap, ◌∙◌}
use mathlib.Core.Logic.{◌⊎◌, inl, inr}
use mathlib.Core.List.{List, [], ◌∷◌, ◌++◌, append-nil}
use Prim.Native.Nat.{ℕ, ◌+◌, ◌≤◌}
use native.Mathlib.Omega.{arith}
use lib.ListN.{length, length-append}
use Rattle.format.specs.Sheet.{Sheet}
use Rattle.format.specs.Records.{Record}
use Rattle.format.specs.Reading.{Reading, stopped, record_refusal, read_from, written, sheet_after, AllWellFormed, positioned}
use Rattle.format.proofs.Records.{record-refusal-small}
use Rattle.format.proofs.Reading.{read-end, read-refused, joined, continued, written-first, Stops, cut}

-- the reading of records that start at `at` and of nothing behind them but refusal n
abbrev pub just : Sheet → ℕ → List Record → ℕ → Reading
just s at rs n = record { records = positioned at rs; sheet = sheet_after s rs; refusal = n; position = at + length (written rs) }

joined-stopped : (s : Sheet) (at : ℕ) (rs : List Record) (n : ℕ)
    → joined (positioned at rs) (stopped (sheet_after s rs) n (at + length (written rs))) ≡ just s at rs n
joined-stopped s at rs n = rw (append-nil (positioned at rs))

pub written_read : (L : ℕ) (s : Sheet) (at : ℕ) (rs : List Record) → AllWellFormed L s rs → read_from L s at (written rs) ≡ just s at rs 0
written_read L s at rs w =
    ap (read_from L s at) (sym (append-nil (written rs))) ∙ written-first L s at rs [] w
    ∙ ap (joined (positioned at rs)) (read-end L (sheet_after s rs) (at + length (written rs)))
    ∙ joined-stopped s at rs 0

pub refused-read : (L : ℕ) (s : Sheet) (at : ℕ) (rs : List Record) (k : ℕ) (ys : List ℕ) → AllWellFormed L s rs
    → (record_refusal L (sheet_after s rs) k ys ≡ 0 → ⊥)
    → read_from L s at (written rs ++ (k ∷ ys)) ≡ just s at rs (record_refusal L (sheet_after s rs) k ys)
refused-read L s at rs k ys w h =
    written-first L s at rs (k ∷ ys) w
    ∙ ap (joined (positioned at rs)) (read-refused L (sheet_after s rs) (at + length (written rs)) k ys h)
    ∙ joined-stopped s at rs (record_refusal L (sheet_after s rs) k ys)

-- ---- the other way: what a reading tells of the bytes

-- the bytes are well-formed records written out, and these are what is read
pub record Whole (L : ℕ) (s : Sheet) (at : ℕ) (xs : List ℕ) : Type 0 where
  pub records : List Record
  pub bytes : xs ≡ written records
  pub well-formed : AllWellFormed L s records
  pub read : read_from L s at xs ≡ just s at records 0

-- the bytes are well-formed records written out, which are what is read, and a record that is refused
pub record FirstBad (L : ℕ) (s : Sheet) (at : ℕ) (xs : List ℕ) : Type 0 where
  pub records : List Record
  pub kind : ℕ
  pub after-kind : List ℕ
  pub bytes : xs ≡ written records ++ (kind ∷ after-kind)
  pub well-formed : AllWellFormed L s records
  pub refused : record_refusal L (sheet_after s records) kind after-kind ≡ 0 → ⊥
  pub read : read_from L s at xs ≡ just s at records (record_refusal L (sheet_after s records) kind after-kind)

pub whole-or-bad : (L : ℕ) (s : Sheet) (at : ℕ) (xs : List ℕ) → Whole L s at xs ⊎ FirstBad L s at xs
whole-or-bad L s at xs = let c = cut L s xs in go c.rest c.records c.bytes c.well-formed c.stops
  where
    go : (ys : List ℕ) (rs : List Record) → xs ≡ written rs ++ ys → AllWellFormed L s rs → Stops L (sheet_after s rs) ys
        → Whole L s at xs ⊎ FirstBad L s at xs
    go [] rs b w h =
        let e : xs ≡ written rs = b ∙ append-nil (written rs) in
        inl (record { records = rs; bytes = e; well-formed = w; read = ap (read_from L s at) e ∙ written_read L s at rs w })
    go (k ∷ ys) rs b w h =
        inr (record {
          records = rs;
          kind = k;
          after-kind = ys;
          bytes = b;
          well-formed = w;
          refused = h;
          read = ap (read_from L s at) b ∙ refused-read L s at rs k ys w h;
        })

pub read_whole : (L : ℕ) (s : Sheet) (at : ℕ) (xs : List ℕ) → (read_from L s at xs).refusal ≡ 0 → Whole L s at xs
read_whole L s at xs e =
    elim (whole-or-bad L s at xs) [
      | inl w ↦ w
      | inr b ↦ absurd (b.refused (sym (ap (λ (d : Reading). d.refusal) b.read) ∙ e))
    ]

pub read-bad : (L : ℕ) (s : Sheet) (at : ℕ) (xs : List ℕ) → ((read_from L s at xs).refusal ≡ 0 → ⊥) → FirstBad L s at xs
read-bad L s at xs h = elim (whole-or-bad L s at xs) [ inl w ↦ absurd (h (ap (λ (d : Reading). d.refusal) w.read)) | inr b ↦ b ]

-- what is added behind a file without a refusal is read from the sheet that the file made
pub append-reads : (L : ℕ) (s : Sheet) (at : ℕ) (a b : List ℕ) → (read_from L s at a).refusal ≡ 0
    → read_from L s at (a ++ b) ≡ continued (read_from L s at a) (read_from L (read_from L s at a).sheet (at + length a) b)
append-reads L s at a b e = let w = read_whole L s at a e in go w.records w.bytes w.well-formed w.read
  where
    go : (rs : List Record) → a ≡ written rs → AllWellFormed L s rs → read_from L s at a ≡ just s at rs 0
        → read_from L s at (a ++ b) ≡ continued (read_from L s at a) (read_from L (read_from L s at a).sheet (at + length a) b)
    go rs bytes w read = rw (read, bytes) (written-first L s at rs b w)

-- ---- numbers and positions

pub read-refusal-small : (L : ℕ) (s : Sheet) (at : ℕ) (xs : List ℕ) → (read_from L s at xs).refusal ≤ 6
read-refusal-small L s at xs = go (whole-or-bad L s at xs)
  where
    go : Whole L s at xs ⊎ FirstBad L s at xs → (read_from L s at xs).refusal ≤ 6
    go (inl w) = omega (arith, ap (λ (d : Reading). d.refusal) w.read)
    go (inr b) = omega (arith, ap (λ (d : Reading). d.refusal) b.read, record-refusal-small L (sheet_after s b.records) b.kind b.after-kind)

pub read-position-end : (L : ℕ) (s : Sheet) (at : ℕ) (xs : List ℕ) → (read_from L s at xs).refusal ≡ 0 → (read_from L s at xs).position ≡ at + length xs
read-position-end L s at xs e =
    let w = read_whole L s at xs e in
    ap (λ (d : Reading). d.position) w.read ∙ ap (λ (ys : List ℕ). at + length ys) (sym w.bytes)

pub read-position-within : (L : ℕ) (s : Sheet) (at : ℕ) (xs : List ℕ) → (read_from L s at xs).position ≤ at + length xs
read-position-within L s at xs = go (whole-or-bad L s at xs)
  where
    go : Whole L s at xs ⊎ FirstBad L s at xs → (read_from L s at xs).position ≤ at + length xs
    go (inl w) = omega (arith, ap (λ (d : Reading). d.position) w.read, ap length w.bytes)
    go (inr b) =
        omega (arith, ap (λ (d : Reading). d.position) b.read, ap length b.bytes, length-append (written b.records) (b.kind ∷ b.after-kind))
