-- Where records stand: what is read does not depend on it but for the positions; the records before a place and behind it. Assumes nothing.
use mathlib.Core.Path.{◌≡◌, refl, sym, ap, ◌∙◌}
use mathlib.Core.Logic.{◌↔◌, ◌⊎◌, inl, inr}
use mathlib.Core.List.Memᴰ
use mathlib.Core.List.{List, [], ◌∷◌, ◌++◌, map, Memᴰ, append_assoc}
use mathlib.Core.Bool.{Bool, true, false, cond, ◌&&◌}
use Prim.Native.Nat.{ℕ, zero, suc, ◌+◌}
use native.Mathlib.Omega.{arith}
use lib.ListN.{length, take, drop, length-append}
use lib.Dec.{eqb}
use Rattle.layout.specs.Layout.{body_length}
use Rattle.format.specs.Sheet.{Sheet}
use Rattle.format.specs.Records.{Record, WellFormed, after}
use Rattle.format.specs.Reading.{Reading, stopped, preceded, record_refusal, read_on, read_from, lacking, finished, written, sheet_after, AllWellFormed, positioned}

-- ---- further on

-- n bytes further on
abbrev pub later : ℕ → ℕ × Record → ℕ × Record
later n q = (q.0 + n, q.1)

abbrev pub moved : ℕ → Reading → Reading
moved n d = record { records = map (later n) d.records; sheet = d.sheet; refusal = d.refusal; position = d.position + n }

-- what is read does not depend on where it stands
moved_on : (L f n : ℕ) (s : Sheet) (at : ℕ) (xs : List ℕ) → read_on L f s (at + n) xs ≡ moved n (read_on L f s at xs)
unfolding read_on
moved_on L zero n s at xs = refl
moved_on L (suc f) n s at [] = refl
moved_on L (suc f) n s at (k ∷ xs) =
    let b = take (body_length k) xs in
    let further : at + n + 1 + body_length k ≡ at + 1 + body_length k + n = omega arith in
    go (eqb (record_refusal L s k xs) 0) (record { kind = k; body = b }) _ _
    (ap (λ (i : ℕ). read_on L f (after s k b) i (drop (body_length k) xs)) further
    ∙ moved_on L f n (after s k b) (at + 1 + body_length k) (drop (body_length k) xs))
  where
    go : (t : Bool) (r : Record) (d e : Reading) → d ≡ moved n e
        → cond t (preceded (at + n) r d) (stopped s (record_refusal L s k xs) (at + n)) ≡ moved n (cond t (preceded at r e) (stopped s (record_refusal L s k xs) at))
    go true r d e h = ap (preceded (at + n) r) h
    go false r d e h = refl

pub moved-from : (L n : ℕ) (s : Sheet) (at : ℕ) (xs : List ℕ) → read_from L s (at + n) xs ≡ moved n (read_from L s at xs)
unfolding read_from
moved-from L n s at xs = moved_on L (length xs) n s at xs

-- refusal 7 changes nothing but the number
abbrev pub undefined_in : Reading → Bool
undefined_in d = eqb d.refusal 0 && lacking d.sheet.types d.sheet.defined

abbrev pub seven : Bool → Reading → Reading
seven b d = record { records = d.records; sheet = d.sheet; refusal = cond b 7 d.refusal; position = d.position }

pub finished-is : (d : Reading) → finished d ≡ seven (undefined_in d) d
unfolding finished
finished-is d = go (undefined_in d)
  where
    go : (b : Bool) → cond b (record { records = d.records; sheet = d.sheet; refusal = 7; position = d.position }) d ≡ seven b d
    go true = refl
    go false = refl

-- ---- the records before a place and behind it

pub written-append : (rs qs : List Record) → written (rs ++ qs) ≡ written rs ++ written qs
unfolding written
written-append [] qs = refl
written-append (r ∷ rs) qs =
    ap (λ (bytes : List ℕ). (r.kind ∷ r.body) ++ bytes) (written-append rs qs) ∙ sym (append_assoc (r.kind ∷ r.body) (written rs) (written qs))

-- the records before a place, the record there and those behind it
pub record Place (r : Record) (rs : List Record) (at from : ℕ) : Type 0 where
  pub before : List Record
  pub behind : List Record
  pub all : rs ≡ before ++ (r ∷ behind)
  pub place : at ≡ from + length (written before)

pub place-of : (rs : List Record) (from at : ℕ) (r : Record) → Memᴰ (at, r) (positioned from rs) → Place r rs at from
unfolding positioned written
place-of [] from at r m = absurd (Memᴰ.not-nil m)
place-of (x ∷ rs) from at r m = go (Memᴰ.cases_cons m) (place-of rs (from + 1 + length x.body) at r)
  where
    go : (◌≡◌ {A = ℕ × Record} (at, r) (from, x)) ⊎ Memᴰ (at, r) (positioned (from + 1 + length x.body) rs)
        → (Memᴰ (at, r) (positioned (from + 1 + length x.body) rs) → Place r rs at (from + 1 + length x.body)) → Place r (x ∷ rs) at from
    go (inl e) rest =
        let here : at ≡ from = ap (λ (p : ℕ × Record). p.0) e in
        record { before = []; behind = rs; all = ap (λ (p : ℕ × Record). p.1 ∷ rs) (sym e); place = omega arith }
    go (inr i) rest =
        let p = rest i in
        record {
          before = x ∷ p.before;
          behind = p.behind;
          all = ap (λ (qs : List Record). x ∷ qs) p.all;
          place = omega (arith, p.place, length-append x.body (written p.before));
        }

-- records one behind the other
pub well-formed-append : (L : ℕ) (s : Sheet) (rs qs : List Record) → AllWellFormed L s (rs ++ qs) ↔ (AllWellFormed L s rs × AllWellFormed L (sheet_after s rs) qs)
unfolding AllWellFormed sheet_after
well-formed-append L s [] qs = ((λ w. (tt, w)), λ w. w.1)
well-formed-append L s (r ∷ rs) qs =
    let rest = well-formed-append L (after s r.kind r.body) rs qs in (
      (λ w. let h = rest.0 w.1 in ((w.0, h.0), h.1)),
      (λ w. (w.0.0, rest.1 (w.0.1, w.1))),
    )

pub sheet-append : (s : Sheet) (rs qs : List Record) → sheet_after s (rs ++ qs) ≡ sheet_after (sheet_after s rs) qs
unfolding sheet_after
sheet-append s [] qs = refl
sheet-append s (r ∷ rs) qs = sheet-append (after s r.kind r.body) rs qs

-- a record among others that are well formed is so under the sheet that those before it make
pub front-well-formed : (L : ℕ) (s : Sheet) (rs qs : List Record) (r : Record) → AllWellFormed L s (rs ++ (r ∷ qs))
    → AllWellFormed L s rs × WellFormed L (sheet_after s rs) r
unfolding AllWellFormed
front-well-formed L s rs qs r w = let h = (well-formed-append L s rs (r ∷ qs)).0 w in (h.0, h.1.0)
