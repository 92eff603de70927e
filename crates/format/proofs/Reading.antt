-- Reading bytes: its fuel does not matter, and it goes record by record. A file is cut in one way into well-formed records and a rest at
-- which reading stops, and reading says so. Assumes nothing.
use mathlib.Core.Path.{◌≡◌, refl, sym, ap, ◌∙◌}
use mathlib.Core.List.{List, [], ◌∷◌, ◌++◌, append_assoc}
use Prim.Native.Nat.{ℕ, zero, suc, ◌+◌, ◌≤◌}
use native.Mathlib.Nat.{le_refl}
use native.Mathlib.Omega.{arith}
use native.Mathlib.Decide.{ℕ_discrete}
use lib.ListN.{length, take, drop, length-append, length-drop, take-append-drop}
use lib.Seq.{take_at, drop_at}
use borrow.Author.Tests.{eq-eqb, ne_eqb}
use Rattle.layout.specs.Layout.{body_length}
use Rattle.format.specs.Sheet.{Sheet}
use Rattle.format.specs.Records.{Record, WellFormed, after}
use Rattle.format.specs.Reading.{Reading, stopped, preceded, record_refusal, read_on, read_from, written, sheet_after, AllWellFormed, positioned}
use Rattle.format.proofs.Records.{well-formed-length, front-not-refused, front}

-- ---- one step

-- any fuel from the length up reads the same
pub fuel-enough : (L f g : ℕ) (s : Sheet) (at : ℕ) (xs : List ℕ) → length xs ≤ f → length xs ≤ g → read_on L f s at xs ≡ read_on L g s at xs
unfolding read_on
fuel-enough L zero zero s at xs p q = refl
fuel-enough L zero (suc g) s at [] p q = refl
fuel-enough L zero (suc g) s at (k ∷ xs) p q = absurd (omega arith)
fuel-enough L (suc f) zero s at [] p q = refl
fuel-enough L (suc f) zero s at (k ∷ xs) p q = absurd (omega arith)
fuel-enough L (suc f) (suc g) s at [] p q = refl
fuel-enough L (suc f) (suc g) s at (k ∷ xs) p q =
    let n = body_length k in
    let l : length (drop n xs) ≤ length xs = simp length-drop (omega arith) in
    let e : read_on L f (after s k (take n xs)) (at + 1 + n) (drop n xs) ≡ read_on L g (after s k (take n xs)) (at + 1 + n) (drop n xs) =
    fuel-enough L f g (after s k (take n xs)) (at + 1 + n) (drop n xs) (omega arith) (omega arith) in
    rw e

pub read-end : (L : ℕ) (s : Sheet) (at : ℕ) → read_from L s at [] ≡ stopped s 0 at
unfolding read_from read_on
read-end L s at = refl

pub read-refused : (L : ℕ) (s : Sheet) (at k : ℕ) (xs : List ℕ) → (record_refusal L s k xs ≡ 0 → ⊥)
    → read_from L s at (k ∷ xs) ≡ stopped s (record_refusal L s k xs) at
unfolding read_from read_on
read-refused L s at k xs h = rw (ne_eqb _ _ h)

pub read-record : (L : ℕ) (s : Sheet) (at : ℕ) (r : Record) (ys : List ℕ) → WellFormed L s r
    → read_from L s at (r.kind ∷ (r.body ++ ys)) ≡ preceded at r (read_from L (after s r.kind r.body) (at + 1 + length r.body) ys)
unfolding read_from read_on
read-record L s at r ys w =
    let n = well-formed-length L s r w in
    let t : take (body_length r.kind) (r.body ++ ys) ≡ r.body = take_at r.body ys (body_length r.kind) n in
    let d : drop (body_length r.kind) (r.body ++ ys) ≡ ys = drop_at r.body ys (body_length r.kind) n in
    let l : length ys ≤ length (r.body ++ ys) = simp length-append (omega arith) in
    rw (eq-eqb _ _ (front-not-refused L s r ys w), t, d, ← n)
    (ap (preceded at r) (fuel-enough L _ _ (after s r.kind r.body) (at + 1 + length r.body) ys l (le_refl (length ys))))

-- ---- written records, and a rest

-- records that were read before what d reads
abbrev pub joined : List (ℕ × Record) → Reading → Reading
joined ps d = record { records = ps ++ d.records; sheet = d.sheet; refusal = d.refusal; position = d.position }

-- e goes on where d came to its end
abbrev pub continued : Reading → Reading → Reading
continued d e = joined d.records e

pub written-first : (L : ℕ) (s : Sheet) (at : ℕ) (rs : List Record) (ys : List ℕ) → AllWellFormed L s rs
    → read_from L s at (written rs ++ ys) ≡ joined (positioned at rs) (read_from L (sheet_after s rs) (at + length (written rs)) ys)
unfolding written AllWellFormed positioned sheet_after
written-first L s at [] ys w = let e : at + 0 ≡ at = omega arith in rw e
written-first L s at (r ∷ rs) ys w =
    let b = at + 1 + length r.body in
    let e : b + length (written rs) ≡ at + suc (length (r.body ++ written rs)) = simp length-append (omega arith) in
    rw (append_assoc r.body (written rs) ys, read-record L s at r (written rs ++ ys) w.0, written-first L (after s r.kind r.body) b rs ys w.1, e)

-- reading stops at once at the bytes xs: there are none, or the record in front is refused
abbrev pub Stops : ℕ → Sheet → List ℕ → Type 0
Stops L s [] = Unit {0}
Stops L s (k ∷ xs) = record_refusal L s k xs ≡ 0 → ⊥

-- well-formed records and the rest at which reading stops
pub record Cut (L : ℕ) (s : Sheet) (xs : List ℕ) : Type 0 where
  pub records : List Record
  pub rest : List ℕ
  pub bytes : xs ≡ written records ++ rest
  pub well-formed : AllWellFormed L s records
  pub stops : Stops L (sheet_after s records) rest

cut_on : (L f : ℕ) (s : Sheet) (xs : List ℕ) → length xs ≤ f → Cut L s xs
unfolding written AllWellFormed sheet_after
cut_on L zero s [] h = record { records = []; rest = []; bytes = refl; well-formed = tt; stops = tt }
cut_on L zero s (k ∷ xs) h = absurd (omega arith)
cut_on L (suc f) s [] h = record { records = []; rest = []; bytes = refl; well-formed = tt; stops = tt }
cut_on L (suc f) s (k ∷ xs) h =
    let n = body_length k in
    let l : length (drop n xs) ≤ length xs = simp length-drop (omega arith) in
    go (ℕ_discrete (record_refusal L s k xs) 0) (cut_on L f (after s k (take n xs)) (drop n xs) (omega arith))
  where
    go : Dec (record_refusal L s k xs ≡ 0) → Cut L (after s k (take (body_length k) xs)) (drop (body_length k) xs) → Cut L s (k ∷ xs)
    go (yes e) c =
        let r : Record = record { kind = k; body = take (body_length k) xs } in
        record {
          records = r ∷ c.records;
          rest = c.rest;
          bytes = ap (λ (ys : List ℕ). k ∷ ys)
              (sym (take-append-drop (body_length k) xs) ∙ ap (λ (ys : List ℕ). take (body_length k) xs ++ ys) c.bytes
              ∙ sym (append_assoc (take (body_length k) xs) (written c.records) c.rest));
          well-formed = ((front L s k xs e).well-formed, c.well-formed);
          stops = c.stops;
        }
    go (no e) c = record { records = []; rest = k ∷ xs; bytes = refl; well-formed = tt; stops = e }

pub cut : (L : ℕ) (s : Sheet) (xs : List ℕ) → Cut L s xs
cut L s xs = cut_on L (length xs) s xs (le_refl (length xs))
