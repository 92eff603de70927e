-- What closes the verdict: once a pass in place adds nothing, the table is the least one above that at the start; and a pass that adds something adds to the
-- number of facts, which is bounded. Assumes nothing.
use mathlib.Core.Path.{◌≡◌, refl, sym, ◌∙◌, subst}
use mathlib.Core.Bool.{Bool, true, false}
use mathlib.Core.List.{List}
use Prim.Native.Nat.{ℕ, zero, suc, ◌+◌, ◌*◌, ◌/◌, ◌^◌, ◌≤◌, ◌<◌}
use native.Mathlib.Decide.{dec_lt}
use native.Mathlib.Nat.{pow-suc}
use native.Mathlib.Omega.{arith}
use lib.Count.{count_trailing_zeros}
use lib.ListN.{length}
use lib.Pow.{shr_mono, shl-shr}
use Rattle.words.specs.Words.{bit}
use Rattle.words.proofs.Laws.{bit_shifted, lowest}
use Rattle.words.proofs.Bits.{On}
use Rattle.rows.specs.Edition.{labels}
use Rattle.rows.specs.Row.{row_count}
use Rattle.rules.specs.Table.{Table, Has, Within, Small, facts}
use Rattle.rules.specs.Rule.{Rule}
use Rattle.rules.specs.Told.{Closed, Fits}
use Rattle.rules.specs.Round.{join, least_above}
use Rattle.rules.proofs.Table.{facts-room, facts-within, facts-more}
use Rattle.rules.proofs.Told.{told-label}
use Rattle.rules.proofs.Join.{join-zero, join-small}
use Rattle.rules.proofs.Least.{least-only}
use Rattle.lent.specs.Table.{table_at}
use Rattle.uses.specs.Use.{table_of, tells, Reached, start, adds, Says, Used}
use Rattle.uses.proofs.Use.{reached-keeps, reached-on, in_place, used-closed}
use Rattle.whole.proofs.Tables.{table-length, table-past, table-shaped}

-- ---- rows stay sets of labels

below_power : (n : ℕ) → n < 2 ^ n
below_power zero = omega arith
below_power (suc n) = omega (arith, below_power n, pow-suc 2 n)

-- a word all of whose labels are below L
labels-below : (L w : ℕ) → ((l : ℕ) → On w l → l < L) → w < 2 ^ L
labels-below L w h = go (dec_lt w (2 ^ L))
  where
    top : ℕ
    top = w / 2 ^ L

    go : Dec (w < 2 ^ L) → w < 2 ^ L
    go (yes i) = i
    go (no d) =
        let le : 1 * 2 ^ L ≤ w = omega (arith, d) in
        let some : 0 < top = omega (arith, shr_mono L le, shl-shr 1 L) in
        let l = count_trailing_zeros top top in
        let on : bit top l ≡ 1 = (lowest top top (below_power top) some).«in» in
        let high : l + L < L = omega (arith, h (L + l) (sym (bit_shifted w L l) ∙ on)) in
        absurd (omega (arith, high))

pub reached-small : {wide : Bool} (p : Rule) → Fits (labels wide) p → {t u : List ℕ} → Small (labels wide) (table_of wide t)
    → Reached wide 0 (tells wide p) t u → Small (labels wide) (table_of wide u)
reached-small p f s start = s
reached-small {wide} p f s (adds {u} r x before i told j) =
    rw (j.here (row_count (labels wide)) i) (go r told (reached-small p f s before))
  where
    L : ℕ
    L = labels wide

    go : (r : ℕ) → ((l : ℕ) → bit x l ≡ 1 → 0 < r → tells wide p (table_of wide u) r l) → Small L (table_of wide u) → Small L (join r x (table_of wide u))
    go zero tells su = rw (join-zero x (table_of wide u)) su
    go (suc r) tells su =
        join-small L (suc r) x (table_of wide u)
        (labels-below L x (λ l o. told-label L (table_of wide u) su p f (suc r) l (tells l o (omega arith)))) su

-- ---- the least table

pub reached-least : {wide : Bool} (p : Rule) → Fits (labels wide) p → {t u : List ℕ} → Small (labels wide) (table_of wide t)
    → Reached wide 0 (tells wide p) t u → Closed (labels wide) (table_of wide u) p → table_of wide u ≡ least_above (labels wide) p (table_of wide t)
reached-least {wide} p f {t} {u} s w closed =
    least-only (labels wide) p f (table_of wide t) (table_of wide u) (table-shaped wide 0 t s) (table-length wide 0 u ∙ sym (table-length wide 0 t))
    (reached-small p f s w) (reached-keeps w) closed (λ c h above. in_place p w c h above)

-- a last pass added nothing
pub finished : {wide : Bool} (p : Rule) → Fits (labels wide) p → {t u v : List ℕ} → Small (labels wide) (table_of wide t)
    → Reached wide 0 (tells wide p) t u → Used wide 0 (tells wide p) u u v false → table_of wide v ≡ least_above (labels wide) p (table_of wide t)
finished p f s w last = reached-least p f s (reached-on w last.only) (used-closed p last)

-- ---- the number of facts

pub facts-most : (wide : Bool) (t : Table) → facts (labels wide) t ≤ 2293760
facts-most true t = omega (arith, facts-room 256 t)
facts-most false t = omega (arith, facts-room 64 t)

same_length : (wide : Bool) (o : ℕ) (t u : List ℕ) → length (table_at wide o t) ≡ length (table_at wide o u)
same_length wide o t u = table-length wide o t ∙ sym (table-length wide o u)

pub reached-facts : {wide : Bool} {o : ℕ} {T : Table → ℕ → ℕ → Type 0} {t u : List ℕ} → Reached wide o T t u
    → facts (labels wide) (table_at wide o t) ≤ facts (labels wide) (table_at wide o u)
reached-facts {wide} {o} {T} {t} {u} w =
    facts-within (labels wide) (table_at wide o t) (table_at wide o u) (same_length wide o t u) (reached-keeps w)

pub says-facts : {wide : Bool} {o : ℕ} {t u : List ℕ} → Small (labels wide) (table_at wide o t) → Small (labels wide) (table_at wide o u)
    → Within (table_at wide o t) (table_at wide o u) → Says wide o t u true → facts (labels wide) (table_at wide o t) < facts (labels wide) (table_at wide o u)
says-facts {wide} {o} {t} {u} st su w says =
    facts-more (labels wide) (table_at wide o t) (table_at wide o u) (same_length wide o t u) st su w
    (λ r h. table-past wide o u r h ∙ sym (table-past wide o t r h))
    (λ e. let m = says.more refl in m.3 (subst (λ (x : Table). Has x m.0 m.1) e m.2))

-- a pass in place that added something
pub used-facts : {wide : Bool} (p : Rule) → Fits (labels wide) p → {old t u : List ℕ} → Small (labels wide) (table_of wide t)
    → Used wide 0 (tells wide p) old t u true → facts (labels wide) (table_of wide t) < facts (labels wide) (table_of wide u)
used-facts p f s w = says-facts s (reached-small p f s w.only) (reached-keeps w.only) w.says
