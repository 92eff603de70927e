-- One record: it is well formed exactly where its kind is known, its body has the kind's length and nothing of it is refused.
-- Assumes nothing.
use mathlib.Core.Path.{◌≡◌, refl}
use mathlib.Core.Logic.{◌↔◌}
use mathlib.Core.List.{List, ◌++◌}
use mathlib.Core.Bool.{Bool, true, false, cond}
use Prim.Native.Nat.{ℕ, ◌<◌, ◌≤◌}
use native.Mathlib.Omega.{arith}
use lib.ListN.{length, take, length-append}
use lib.Seq.{take_at, length-take-le}
use lib.Dec.{eqb, ltb}
use borrow.Author.Tests.{eq-eqb, ne_eqb, le-ltb, eqb-true, eqb-false, ltb-false}
use Rattle.layout.specs.Layout.{fields_of, body_length}
use Rattle.format.specs.Sheet.{Sheet}
use Rattle.format.specs.Fields.{first_bad}
use Rattle.format.specs.Records.{Record, WellFormed, misnamed, twice, whole_refusal, body_refusal}
use Rattle.format.specs.Reading.{record_refusal}
use Rattle.format.proofs.Fields.{fits-length, fits-none-bad, none-bad-fits, first-bad-small}

whole-small : (s : Sheet) (k : ℕ) (b : List ℕ) → whole_refusal s k b ≤ 6
unfolding whole_refusal
whole-small s k b = go (misnamed k b) (twice s k b)
  where
    go : (m t : Bool) → cond m 5 (cond t 6 0) ≤ 6
    go true t = omega arith
    go false true = omega arith
    go false false = omega arith

pub body-refusal-small : (L : ℕ) (s : Sheet) (k : ℕ) (b : List ℕ) → body_refusal L s k b ≤ 6
unfolding body_refusal
body-refusal-small L s k b = go (first_bad L s (fields_of k) b) (eqb (first_bad L s (fields_of k) b) 0) (first-bad-small L s (fields_of k) b)
  where
    go : (f : ℕ) (t : Bool) → f ≤ 5 → cond t (whole_refusal s k b) f ≤ 6
    go f true h = whole-small s k b
    go f false h = omega arith

pub record-refusal-small : (L : ℕ) (s : Sheet) (k : ℕ) (xs : List ℕ) → record_refusal L s k xs ≤ 6
unfolding record_refusal
record-refusal-small L s k xs =
    go (eqb (body_length k) 0) (ltb (length xs) (body_length k)) (body_refusal L s k (take (body_length k) xs))
    (body-refusal-small L s k (take (body_length k) xs))
  where
    go : (t u : Bool) (r : ℕ) → r ≤ 6 → cond t 1 (cond u 2 r) ≤ 6
    go true u r h = omega arith
    go false true r h = omega arith
    go false false r h = h

-- ---- a well-formed record and its refusal

pub fits-well-formed : (L : ℕ) (s : Sheet) (r : Record) → 0 < body_length r.kind → length r.body ≡ body_length r.kind
    → body_refusal L s r.kind r.body ≡ 0 → WellFormed L s r
unfolding body_refusal whole_refusal
fits-well-formed L s r p n e =
    go (eqb (first_bad L s (fields_of r.kind) r.body) 0) refl (misnamed r.kind r.body) refl (twice s r.kind r.body) refl e
  where
    go : (t : Bool) → eqb (first_bad L s (fields_of r.kind) r.body) 0 ≡ t → (m : Bool) → misnamed r.kind r.body ≡ m
        → (w : Bool) → twice s r.kind r.body ≡ w → cond t (cond m 5 (cond w 6 0)) (first_bad L s (fields_of r.kind) r.body) ≡ 0
        → WellFormed L s r
    go false q m qm w qw h = absurd (eqb-false _ _ q h)
    go true q true qm w qw h = absurd (omega arith)
    go true q false qm true qw h = absurd (omega arith)
    go true q false qm false qw h =
        record {
          kind-known = p;
          fits = none-bad-fits L s (fields_of r.kind) r.body n (eqb-true _ _ q);
          well-named = qm;
          once = qw;
        }

pub well-formed-length : (L : ℕ) (s : Sheet) (r : Record) → WellFormed L s r → length r.body ≡ body_length r.kind
well-formed-length L s r w = fits-length L s (fields_of r.kind) r.body w.fits

pub well-formed-not-refused : (L : ℕ) (s : Sheet) (r : Record) → WellFormed L s r → body_refusal L s r.kind r.body ≡ 0
unfolding body_refusal whole_refusal
well-formed-not-refused L s r w =
    let z : first_bad L s (fields_of r.kind) r.body ≡ 0 = fits-none-bad L s (fields_of r.kind) r.body w.fits in
    rw (eq-eqb _ _ z, w.well-named, w.once)

pub well-formed-iff : (L : ℕ) (s : Sheet) (r : Record)
    → WellFormed L s r ↔ ((0 < body_length r.kind) × (length r.body ≡ body_length r.kind) × (body_refusal L s r.kind r.body ≡ 0))
well-formed-iff L s r =
    ((λ w. (w.kind-known, well-formed-length L s r w, well-formed-not-refused L s r w)), (λ h. fits-well-formed L s r h.0 h.1 h.2))

-- ---- the same at the front of the bytes that are still to be read

-- what is read of a record is its body, whatever stands after it
pub front-not-refused : (L : ℕ) (s : Sheet) (r : Record) (ys : List ℕ) → WellFormed L s r → record_refusal L s r.kind (r.body ++ ys) ≡ 0
unfolding record_refusal
front-not-refused L s r ys w =
    let n = well-formed-length L s r w in
    let some : eqb (body_length r.kind) 0 ≡ false = ne_eqb (body_length r.kind) 0 (λ z. omega (arith, w.kind-known)) in
    let long : body_length r.kind ≤ length (r.body ++ ys) = omega (arith, n, length-append r.body ys) in
    let room : ltb (length (r.body ++ ys)) (body_length r.kind) ≡ false = le-ltb _ _ long in
    rw (some, room, take_at r.body ys (body_length r.kind) n) (well-formed-not-refused L s r w)

-- a record at the front that is not refused is whole and well formed
pub record Front (L : ℕ) (s : Sheet) (k : ℕ) (xs : List ℕ) : Type 0 where
  pub room : body_length k ≤ length xs
  pub well-formed : WellFormed L s (record { kind = k; body = take (body_length k) xs })

pub front : (L : ℕ) (s : Sheet) (k : ℕ) (xs : List ℕ) → record_refusal L s k xs ≡ 0 → Front L s k xs
unfolding record_refusal
front L s k xs e = go (eqb (body_length k) 0) refl (ltb (length xs) (body_length k)) refl e
  where
    go : (t : Bool) → eqb (body_length k) 0 ≡ t → (u : Bool) → ltb (length xs) (body_length k) ≡ u
        → cond t 1 (cond u 2 (body_refusal L s k (take (body_length k) xs))) ≡ 0 → Front L s k xs
    go true qt u qu h = absurd (omega arith)
    go false qt true qu h = absurd (omega arith)
    go false qt false qu h =
        let room : body_length k ≤ length xs = ltb-false _ _ qu in
        let known : 0 < body_length k = omega (arith, eqb-false (body_length k) 0 qt) in
        record {
          room = room;
          well-formed = fits-well-formed L s (record { kind = k; body = take (body_length k) xs }) known (length-take-le (body_length k) xs room) h;
        }
