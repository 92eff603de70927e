-- The number of facts is the length of a list that has every fact of the table's rows, and each once. Assumes nothing.
use mathlib.Core.Path.{◌≡◌, refl, sym, ap, subst}
use mathlib.Core.Logic.{◌⊎◌, inl, inr, ◌↔◌}
use mathlib.Core.List.Memᴰ
use mathlib.Core.List.{List, [], ◌∷◌, ◌++◌, Memᴰ}
use Prim.Native.Nat.{ℕ, zero, suc, ◌+◌, ◌<◌}
use native.Mathlib.Decide.{dec_lt}
use native.Mathlib.Numerals.{add-one}
use native.Mathlib.Omega.{arith}
use lib.ListN.{length, take, length-append, length-take, get_or-eq_default}
use lib.Seq.{get_or-take}
use Rattle.words.proofs.Bits.{On, on?, empty-off}
use Rattle.rows.specs.Row.{row_count}
use Rattle.rules.specs.Table.{Table, Has, total, facts}
use Rattle.rules.specs.Round.{labels}
use Rattle.rules.proofs.Labels.{label-on, on-label, labels-none, labels-on, labels-off, labels-count}

-- ---- lists without repetition

abbrev pub Distinct : {A : Type 0} → List A → Type 0
Distinct [] = Unit {0}
Distinct (x ∷ xs) = (Memᴰ x xs → ⊥) × Distinct xs

distinct_append : {A : Type 0} (xs ys : List A) → Distinct xs → Distinct ys → ((x : A) → Memᴰ x xs → Memᴰ x ys → ⊥) → Distinct (xs ++ ys)
distinct_append [] ys p q apart = q
distinct_append (x ∷ xs) ys p q apart =
    ((λ i. either (Memᴰ.append_cases xs i)), distinct_append xs ys p.1 q (λ z i j. apart z (Memᴰ.tail i) j))
  where
    either : Memᴰ x xs ⊎ Memᴰ x ys → ⊥
    either (inl i) = p.0 i
    either (inr i) = apart x (Memᴰ.head refl) i

labels-distinct : (d w : ℕ) → Distinct (labels d w)
labels-distinct zero w = subst Distinct (sym (labels-none w)) tt
labels-distinct (suc d) w = subst (λ (n : ℕ). Distinct (labels n w)) (add-one d) (go (on? w d) (labels-distinct d w))
  where
    apart : (x : ℕ) → Memᴰ x (labels d w) → Memᴰ x (d ∷ []) → ⊥
    apart x i j = omega (arith, (label-on d w x i).0, Memᴰ.eq_of_singleton j)

    go : Dec (On w d) → Distinct (labels d w) → Distinct (labels (d + 1) w)
    go (yes o) h = subst Distinct (sym (labels-on d w o)) (distinct_append (labels d w) (d ∷ []) h ((λ i. absurd (Memᴰ.not-nil i)), tt) apart)
    go (no o) h = subst Distinct (sym (labels-off d w o)) h

-- ---- the facts of a row

abbrev row_facts : ℕ → List ℕ → List (ℕ × ℕ)
row_facts r [] = []
row_facts r (l ∷ ls) = (r, l) ∷ row_facts r ls

row-length : (r : ℕ) (ls : List ℕ) → length (row_facts r ls) ≡ length ls
row-length r [] = refl
row-length r (l ∷ ls) = ap suc (row-length r ls)

in_row : (r : ℕ) (ls : List ℕ) (f : ℕ × ℕ) → Memᴰ f (row_facts r ls) → (f.0 ≡ r) × Memᴰ f.1 ls
in_row r [] f i = absurd (Memᴰ.not-nil i)
in_row r (l ∷ ls) f i =
    elim (Memᴰ.cases_cons i) [
      | inl e ↦ (ap (λ (x : ℕ × ℕ). x.0) e, Memᴰ.head (ap (λ (x : ℕ × ℕ). x.1) e))
      | inr j ↦ (let q = in_row r ls f j in (q.0, Memᴰ.tail q.1))
    ]

row_has : (r l : ℕ) (ls : List ℕ) → Memᴰ l ls → Memᴰ (r, l) (row_facts r ls)
row_has r l [] i = absurd (Memᴰ.not-nil i)
row_has r l (m ∷ ls) i =
    elim (Memᴰ.cases_cons i) [
      | inl e ↦ Memᴰ.head (ap (λ (x : ℕ). (r, x)) e)
      | inr j ↦ Memᴰ.tail (row_has r l ls j)
    ]

row-distinct : (r : ℕ) (ls : List ℕ) → Distinct ls → Distinct (row_facts r ls)
row-distinct r [] d = tt
row-distinct r (l ∷ ls) d = ((λ i. d.0 (in_row r ls (r, l) i).1), row-distinct r ls d.1)

-- ---- the facts of a table

-- those of the words, which are the rows from r on
unfoldable pub facts_from : ℕ → ℕ → List ℕ → List (ℕ × ℕ)
unfolding labels
facts_from L r [] = []
facts_from L r (w ∷ ws) = row_facts r (labels L w) ++ facts_from L (suc r) ws

from-length : (L r : ℕ) (ws : List ℕ) → length (facts_from L r ws) ≡ total L ws
unfolding facts_from total
from-length L r [] = refl
from-length L r (w ∷ ws) =
    let e : length (facts_from L (suc r) ws) ≡ total L ws = from-length L (suc r) ws in
    omega (arith, length-append (row_facts r (labels L w)) (facts_from L (suc r) ws), row-length r (labels L w), labels-count L w)

in-from : (L r : ℕ) (ws : List ℕ) (f : ℕ × ℕ) → Memᴰ f (facts_from L r ws) → (k : ℕ) × (f.0 ≡ r + k) × (f.1 < L) × Has ws k f.1
unfolding facts_from
in-from L r [] f i = absurd (Memᴰ.not-nil i)
in-from L r (w ∷ ws) f i = go (Memᴰ.append_cases (row_facts r (labels L w)) i) (in-from L (suc r) ws f)
  where
    go : Memᴰ f (row_facts r (labels L w)) ⊎ Memᴰ f (facts_from L (suc r) ws)
        → (Memᴰ f (facts_from L (suc r) ws) → (k : ℕ) × (f.0 ≡ suc r + k) × (f.1 < L) × Has ws k f.1)
        → (k : ℕ) × (f.0 ≡ r + k) × (f.1 < L) × Has (w ∷ ws) k f.1
    go (inl j) rest = let q = in_row r (labels L w) f j in let o = label-on L w f.1 q.1 in (0, omega (arith, q.0), o.0, o.1)
    go (inr j) rest = let q = rest j in (suc q.0, omega (arith, q.1), q.2, q.3)

from-has : (L r : ℕ) (ws : List ℕ) (k l : ℕ) → l < L → Has ws k l → Memᴰ (r + k, l) (facts_from L r ws)
unfolding facts_from
from-has L r [] k l h o = absurd (empty-off l o)
from-has L r (w ∷ ws) zero l h o =
    let e : r ≡ r + 0 = omega arith in
    subst (λ (x : ℕ). Memᴰ (x, l) (row_facts r (labels L w) ++ facts_from L (suc r) ws)) e
    (Memᴰ.append_left (facts_from L (suc r) ws) (row_has r l (labels L w) (on-label L w l h o)))
from-has L r (w ∷ ws) (suc k) l h o =
    let e : suc r + k ≡ r + suc k = omega arith in
    subst (λ (x : ℕ). Memᴰ (x, l) (row_facts r (labels L w) ++ facts_from L (suc r) ws)) e
    (Memᴰ.append_right (row_facts r (labels L w)) (from-has L (suc r) ws k l h o))

from-distinct : (L r : ℕ) (ws : List ℕ) → Distinct (facts_from L r ws)
unfolding facts_from
from-distinct L r [] = tt
from-distinct L r (w ∷ ws) =
    distinct_append (row_facts r (labels L w)) (facts_from L (suc r) ws) (row-distinct r (labels L w) (labels-distinct L w)) (from-distinct L (suc r) ws)
    (λ f i j. omega (arith, (in_row r (labels L w) f i).0, (in-from L (suc r) ws f j).1))

-- every fact of the rows of a table for L labels
unfoldable pub fact_list : ℕ → Table → List (ℕ × ℕ)
unfolding facts_from
fact_list L t = facts_from L 0 (take (row_count L) t)

-- document 01's count: the list has just the facts, has none twice, and is as long as the number of facts says
pub facts-counted : (L : ℕ) (t : Table) → facts L t ≡ length (fact_list L t)
unfolding facts fact_list
facts-counted L t = sym (from-length L 0 (take (row_count L) t))

pub facts-distinct : (L : ℕ) (t : Table) → Distinct (fact_list L t)
unfolding fact_list
facts-distinct L t = from-distinct L 0 (take (row_count L) t)

pub facts-listed : (L : ℕ) (t : Table) (r l : ℕ) → Memᴰ (r, l) (fact_list L t) ↔ ((r < row_count L) × (l < L) × Has t r l)
unfolding fact_list
facts-listed L t r l = (forth, back)
  where
    row : Dec (r < row_count L) → Has (take (row_count L) t) r l → (r < row_count L) × Has t r l
    row (yes h) o = (h, rw (get_or-take (row_count L) t r 0 h) at o)
    row (no h) o = absurd (empty-off l (rw (get_or-eq_default (take (row_count L) t) 0 {n = r} (rw length-take (omega arith))) at o))

    forth : Memᴰ (r, l) (facts_from L 0 (take (row_count L) t)) → (r < row_count L) × (l < L) × Has t r l
    forth i =
        let q = in-from L 0 (take (row_count L) t) (r, l) i in
        let same : q.0 ≡ r = omega (arith, q.1) in
        let a = row (dec_lt r (row_count L)) (subst (λ (k : ℕ). Has (take (row_count L) t) k l) same q.3) in
        (a.0, q.2, a.1)

    back : (r < row_count L) × (l < L) × Has t r l → Memᴰ (r, l) (facts_from L 0 (take (row_count L) t))
    back h =
        let o : Has (take (row_count L) t) r l = rw (get_or-take (row_count L) t r 0 h.0) h.2 in
        let e : 0 + r ≡ r = omega arith in
        subst (λ (x : ℕ). Memᴰ (x, l) (facts_from L 0 (take (row_count L) t))) e (from-has L 0 (take (row_count L) t) r l h.1 o)
