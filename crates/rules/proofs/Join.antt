-- A word joined to a row: what the row holds afterwards, and what stays. Assumes nothing.
use mathlib.Core.Path.{◌≡◌, refl, ap, sym, ◌∙◌}
use mathlib.Core.Logic.{◌⊎◌, inl, inr}
use mathlib.Core.Bool.{Bool, true, false, not}
use Prim.Native.Nat.{ℕ, zero, suc, ◌^◌, ◌<◌}
use native.Mathlib.Decide.{ℕ_discrete, dec_lt}
use native.Mathlib.Omega.{arith}
use lib.ListN.{length, get_or, set, length-set}
use lib.Seq.{get_or-set_same, get_or-set_other, set_out, set-get_or}
use lib.Dec.{eqb, eqb→eq, T}
use lib.Bits.{bit_or, or_zero_r, or_comm}
use borrow.Author.Tests.{eq-eqb}
use Rattle.words.specs.Words.{union}
use Rattle.words.proofs.Laws.{union-lt}
use Rattle.words.proofs.Bits.{On, on-union, on-left, on-right, union-subset, same-labels}
use Rattle.rules.specs.Table.{Table, Has, Within, Small}
use Rattle.rules.specs.Round.{update, join}
use Rattle.rules.specs.Gap.{grows}

update-is : (a : Table) (r v : ℕ) → update a r v ≡ set a r v
update-is a r v = go (eqb v (get_or a r 0)) refl
  where
    go : (b : Bool) → eqb v (get_or a r 0) ≡ b → update a r v ≡ set a r v
    go true e = rw (e, update) (sym (set-get_or a r 0) ∙ ap (λ (x : ℕ). set a r x) (sym (eqb→eq v (get_or a r 0) (rw e tt))))
    go false e = rw (e, update)

-- ---- what the code does

pub join-zero : (w : ℕ) (a : Table) → join 0 w a ≡ a
unfolding join
join-zero w a = refl

pub join_is : (y w : ℕ) (a : Table) → 0 < y → join y w a ≡ set a y (union (get_or a y 0) w)
unfolding join union
join_is zero w a h = absurd (omega arith)
join_is (suc y) zero a h = sym (ap (λ (x : ℕ). set a (suc y) x) (or_zero_r (get_or a (suc y) 0)) ∙ set-get_or a (suc y) 0)
join_is (suc y) (suc w) a h =
    update-is a (suc y) (bit_or (suc w) (get_or a (suc y) 0)) ∙ ap (λ (x : ℕ). set a (suc y) x) (or_comm (suc w) (get_or a (suc y) 0))

pub grows-zero : (w : ℕ) (a : Table) → grows 0 w a ≡ false
unfolding grows
grows-zero w a = refl

pub grows-is : (y w : ℕ) (a : Table) → 0 < y → grows y w a ≡ not (eqb (union (get_or a y 0) w) (get_or a y 0))
unfolding grows union
grows-is zero w a h = absurd (omega arith)
grows-is (suc y) w a h = ap (λ (x : ℕ). not (eqb x (get_or a (suc y) 0))) (or_comm w (get_or a (suc y) 0))

-- ---- the same, in the terms of a function that stores the union and says whether it differs

pub stored : (y w v : ℕ) (a : Table) → (y ≡ 0 → ⊥) → v ≡ union (get_or a y 0) w
    → (set a y v ≡ join y w a) × (not (eqb v (get_or a y 0)) ≡ grows y w a)
stored y w v a d e = let z : 0 < y = omega arith in rw (e, join_is y w a z, grows-is y w a z) (refl, refl)

-- ---- what stays

pub join-length : (y w : ℕ) (a : Table) → length (join y w a) ≡ length a
join-length zero w a = ap length (join-zero w a)
join-length (suc y) w a = rw (join_is (suc y) w a (omega arith)) (length-set a (suc y) (union (get_or a (suc y) 0) w))

pub join-other : (y w : ℕ) (a : Table) (r : ℕ) → (r ≡ y → ⊥) → get_or (join y w a) r 0 ≡ get_or a r 0
join-other zero w a r d = rw join-zero
join-other (suc y) w a r d = rw (join_is (suc y) w a (omega arith)) (get_or-set_other a (suc y) r _ 0 d)

pub join-row-zero : (y w : ℕ) (a : Table) → get_or (join y w a) 0 0 ≡ get_or a 0 0
join-row-zero zero w a = rw join-zero
join-row-zero (suc y) w a = join-other (suc y) w a 0 (λ e. absurd (omega arith))

-- ---- what the row holds

joined : (y w : ℕ) (a : Table) → 0 < y → y < length a → get_or (join y w a) y 0 ≡ union (get_or a y 0) w
joined y w a z i = rw (join_is y w a z) (get_or-set_same a y _ 0 i)

-- a row is the one joined to, and there, or it is as it was
join-cases : (y w : ℕ) (a : Table) (r : ℕ)
    → (get_or (join y w a) r 0 ≡ get_or a r 0) ⊎ ((0 < y) × (r ≡ y) × (get_or (join y w a) r 0 ≡ union (get_or a r 0) w))
join-cases zero w a r = inl (rw join-zero)
join-cases (suc y) w a r = go (ℕ_discrete r (suc y)) (dec_lt (suc y) (length a))
  where
    z : 0 < suc y
    z = omega arith

    go : Dec (r ≡ suc y) → Dec (suc y < length a)
        → (get_or (join (suc y) w a) r 0 ≡ get_or a r 0) ⊎ ((0 < suc y) × (r ≡ suc y) × (get_or (join (suc y) w a) r 0 ≡ union (get_or a r 0) w))
    go (no d) _ = inl (join-other (suc y) w a r d)
    go (yes e) (yes i) = inr (z, e, rw e (joined (suc y) w a z i))
    go (yes e) (no i) = inl (rw (join_is (suc y) w a z, set_out a (suc y) (union (get_or a (suc y) 0) w) (omega arith)))

pub join-keeps : (y w : ℕ) (a : Table) → Within a (join y w a)
join-keeps y w a r l h = elim (join-cases y w a r) [ inl e ↦ rw e h | inr e ↦ rw e.2 (on-left (get_or a r 0) w l h) ]

pub has_join : (y w : ℕ) (a : Table) (r l : ℕ) → Has (join y w a) r l → Has a r l ⊎ ((0 < y) × (r ≡ y) × On w l)
has_join y w a r l h = go (join-cases y w a r)
  where
    new : (0 < y) × (r ≡ y) → Has a r l ⊎ On w l → Has a r l ⊎ ((0 < y) × (r ≡ y) × On w l)
    new e (inl o) = inl o
    new e (inr o) = inr (e.0, e.1, o)

    go : (get_or (join y w a) r 0 ≡ get_or a r 0) ⊎ ((0 < y) × (r ≡ y) × (get_or (join y w a) r 0 ≡ union (get_or a r 0) w))
        → Has a r l ⊎ ((0 < y) × (r ≡ y) × On w l)
    go (inl e) = inl (rw e at h)
    go (inr e) = new (e.0, e.1) (on-union (get_or a r 0) w l (rw e.2 at h))

pub join-tells : (y w : ℕ) (a : Table) → 0 < y → y < length a → (l : ℕ) → On w l → Has (join y w a) y l
join-tells y w a z i l o = rw (joined y w a z i) (on-right (get_or a y 0) w l o)

pub join-small : (L y w : ℕ) (a : Table) → w < 2 ^ L → Small L a → Small L (join y w a)
join-small L y w a h s r = elim (join-cases y w a r) [ inl e ↦ rw e (s r) | inr e ↦ rw e.2 (union-lt L (get_or a r 0) w (s r) h) ]

-- ---- whether it grew

grows-not : (b : Bool) → not b ≡ false → T b
grows-not true e = tt
grows-not false e = let z : ◌≡◌ {A = ℕ} 0 1 = cc in absurd (omega arith)

adds-nothing : (y w : ℕ) (a : Table) → 0 < y → grows y w a ≡ false → union (get_or a y 0) w ≡ get_or a y 0
adds-nothing y w a z e =
    let same = eqb (union (get_or a y 0) w) (get_or a y 0) in
    eqb→eq (union (get_or a y 0) w) (get_or a y 0) (grows-not same (sym (grows-is y w a z) ∙ e))

-- where it did not, the row holds every label of the word
pub not-grown : (y w : ℕ) (a : Table) → 0 < y → grows y w a ≡ false → (l : ℕ) → On w l → Has a y l
not-grown y w a z e l o = union-subset (get_or a y 0) w (adds-nothing y w a z e) l o

-- and the table is as it was
pub not-grown-same : (y w : ℕ) (a : Table) → grows y w a ≡ false → join y w a ≡ a
not-grown-same zero w a e = join-zero w a
not-grown-same (suc y) w a e =
    let z : 0 < suc y = omega arith in
    join_is (suc y) w a z ∙ ap (λ (x : ℕ). set a (suc y) x) (adds-nothing (suc y) w a z e) ∙ set-get_or a (suc y) 0

-- a row that holds every label of the word does not grow
pub all_held : (L y w : ℕ) (a : Table) → Small L a → w < 2 ^ L → ((l : ℕ) → On w l → Has a y l) → grows y w a ≡ false
all_held L zero w a s h f = grows-zero w a
all_held L (suc y) w a s h f =
    let e : union (get_or a (suc y) 0) w ≡ get_or a (suc y) 0 =
    same-labels L (union (get_or a (suc y) 0) w) (get_or a (suc y) 0) (union-lt L (get_or a (suc y) 0) w (s (suc y)) h) (s (suc y))
    (λ l o. back l (on-union (get_or a (suc y) 0) w l o)) (λ l o. on-left (get_or a (suc y) 0) w l o) in
    grows-is (suc y) w a (omega arith) ∙ ap not (eq-eqb (union (get_or a (suc y) 0) w) (get_or a (suc y) 0) e)
  where
    back : (l : ℕ) → Has a (suc y) l ⊎ On w l → Has a (suc y) l
    back l (inl o) = o
    back l (inr o) = f l o

-- where it did, the table differs
pub grown-differs : (y w : ℕ) (a : Table) → y < length a → grows y w a ≡ true → join y w a ≡ a → ⊥
grown-differs zero w a i g e =
    let q = sym (grows-zero w a) ∙ g in
    let z : ◌≡◌ {A = ℕ} 0 1 = cc in
    omega arith
grown-differs (suc y) w a i g e =
    let z : 0 < suc y = omega arith in
    let same : union (get_or a (suc y) 0) w ≡ get_or a (suc y) 0 = sym (joined (suc y) w a z i) ∙ ap (λ (t : Table). get_or t (suc y) 0) e in
    let q = sym g ∙ grows-is (suc y) w a z ∙ ap not (eq-eqb (union (get_or a (suc y) 0) w) (get_or a (suc y) 0) same) in
    let o : ◌≡◌ {A = ℕ} 0 1 = cc in
    omega arith
