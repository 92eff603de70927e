-- Reading a file: the records with their positions and the sheet they make, or the first refusal with its position (document 01, "What each
-- operation says no to", without 8, which is about the table). L is the number of labels. Assumes nothing.
use mathlib.Core.List.{List, [], ◌∷◌, ◌++◌, Memᴰ}
use Rattle.std.specs.Prelude.{◌≡◌, Bool, false, cond, ◌&&◌, ◌||◌, ℕ, zero, suc, ◌+◌, ◌≤◌, length, take, drop, eqb, ltb}
use Rattle.layout.specs.Layout.{body_length}
use Rattle.format.specs.Sheet.{Sheet, type_of, start}
use Rattle.format.specs.Records.{Record, field, WellFormed, after, body_refusal}

pub record Reading : Type 0 where
  pub records : List (ℕ × Record)  -- the records read, each with the position of its kind byte
  pub sheet : Sheet  -- what they declare
  pub refusal : ℕ  -- 0, or the number of the refusal at which reading stopped
  pub position : ℕ  -- the position of that refusal, the length of the file where there is none

-- reading stops here, with refusal n or, for 0, at the end
abbrev pub stopped : Sheet → ℕ → ℕ → Reading
stopped s n at = record { records = []; sheet = s; refusal = n; position = at }

-- a record in front of what is read after it
abbrev pub preceded : ℕ → Record → Reading → Reading
preceded at r d = record { records = (at, r) ∷ d.records; sheet = d.sheet; refusal = d.refusal; position = d.position }

-- "1 unknown kind; 2 record cut short; from the left .."; k is the kind byte and xs what stands after it
unfoldable pub record_refusal : ℕ → Sheet → ℕ → List ℕ → ℕ
record_refusal L s k xs =
    let n = body_length k in
    let r = body_refusal L s k (take n xs) in
    cond (eqb n 0) 1 (cond (ltb (length xs) n) 2 r)

-- reading the bytes xs, which start at position `at`, after records that made the sheet s; no file of xs's length has more than `most` records
unfoldable pub read_on : ℕ → ℕ → Sheet → ℕ → List ℕ → Reading
read_on L zero s at xs = stopped s 0 at
read_on L (suc most) s at [] = stopped s 0 at
read_on L (suc most) s at (k ∷ xs) =
    let n = body_length k in
    let b = take n xs in
    let rest = preceded at (record { kind = k; body = b }) (read_on L most (after s k b) (at + 1 + n) (drop n xs)) in
    let r = record_refusal L s k xs in
    cond (eqb r 0) rest (stopped s r at)

-- "records in order, and reading stops at the first bad byte of the first bad record"
unfoldable pub read_from : ℕ → Sheet → ℕ → List ℕ → Reading
read_from L s at xs = read_on L (length xs) s at xs

-- "a label of type 2 from 5 up has no function record" (label 3's function is known from the start)
unfoldable pub lacking : List ℕ → List ℕ → Bool
lacking [] ds = false
lacking (t ∷ ts) [] = false
lacking (t ∷ ts) (d ∷ ds) = (eqb t 2 && eqb d 0) || lacking ts ds

-- "then 7 (position: file length)"
unfoldable pub finished : Reading → Reading
finished d =
    cond (eqb d.refusal 0 && lacking d.sheet.types d.sheet.defined)
    (record { records = d.records; sheet = d.sheet; refusal = 7; position = d.position })
    d

-- "at most 32,768 bytes"
abbrev pub longest : ℕ
longest = 32768

-- "9 (position 0) if the file is longer than 32,768 bytes; then records in order .. Then 7"
unfoldable pub read_file : ℕ → List ℕ → Reading
read_file L xs = let d = finished (read_from L (start L) 0 xs) in cond (ltb longest (length xs)) (stopped (start L) 9 0) d

-- "a file is readable if nothing in the verdict's list but 8 refuses it"
abbrev pub Readable : ℕ → List ℕ → Type 0
Readable L xs = (read_file L xs).refusal ≡ 0

-- ---- the same, said of the file and not of the reading

-- the bytes of a list of records
unfoldable pub written : List Record → List ℕ
written [] = []
written (r ∷ rs) = (r.kind ∷ r.body) ++ written rs

-- the sheet that a list of records makes of s
unfoldable pub sheet_after : Sheet → List Record → Sheet
sheet_after s [] = s
sheet_after s (r ∷ rs) = sheet_after (after s r.kind r.body) rs

-- each record is well formed under the sheet that its predecessors made
unfoldable pub AllWellFormed : ℕ → Sheet → List Record → Type 0
AllWellFormed L s [] = Unit {0}
AllWellFormed L s (r ∷ rs) = WellFormed L s r × AllWellFormed L (after s r.kind r.body) rs

-- the records with their positions, the first at `at`
unfoldable pub positioned : ℕ → List Record → List (ℕ × Record)
positioned at [] = []
positioned at (r ∷ rs) = (at, r) ∷ positioned (at + 1 + length r.body) rs

-- "a label of type 2 from 5 up has no function record": none of kind 4 for label l is among the records rs, which made the sheet s
pub record Missing (s : Sheet) (rs : List Record) (l : ℕ) : Type 0 where
  pub from-five : 5 ≤ l
  pub is-function : type_of s l ≡ 2
  pub no_record : (r : Record) → Memᴰ r rs → r.kind ≡ 4 → field r.body 0 ≡ l → ⊥

-- the file is a concatenation of well-formed records, not too long, and no function label is left without its function record
pub record Concatenation (L : ℕ) (xs : List ℕ) : Type 0 where
  pub records : List Record
  pub bytes : xs ≡ written records
  pub not-too-long : length xs ≤ longest
  pub well-formed : AllWellFormed L (start L) records
  pub none-missing : (l : ℕ) → Missing (sheet_after (start L) records) records l → ⊥
