-- The gap is the lowest row that one use of the rule would enlarge; code that finds such a row has found the gap; and there is
-- none exactly where the table is closed. Assumes nothing.
use mathlib.Core.Path.{◌≡◌, refl, sym, ◌∙◌, subst}
use mathlib.Core.Logic.{◌⊎◌, inl, inr}
use mathlib.Core.List.{List, [], ◌∷◌, Memᴰ}
use mathlib.Core.Bool.{Bool, true, false}
use Prim.Native.Nat.{ℕ, zero, suc, ◌^◌, ◌≤◌, ◌<◌, min}
use native.Mathlib.Decide.{ℕ_discrete}
use native.Mathlib.Omega.{arith}
use lib.ListN.{get_or}
use lib.Pow.{pow-lt}
use Rattle.words.proofs.Bits.{On, on?, on_below, on-single, single-only}
use Rattle.rows.specs.Row.{number, row_count}
use Rattle.rules.specs.Table.{Table, Has, Small}
use Rattle.rules.specs.Rule.{Rule, none, give, include, each, over, both}
use Rattle.rules.specs.Told.{Told, Closed, Fits}
use Rattle.rules.specs.Round.{labels, fold_over}
use Rattle.rules.specs.Gap.{Enlarges, grows, lower, gap_below, gap, Finds}
use Rattle.rules.proofs.Labels.{label-on, on-label}
use Rattle.rules.proofs.Table.{has-label}
use Rattle.rules.proofs.Told.{closed-told, told-closed, told-row}
use Rattle.rules.proofs.Join.{grows-zero, not-grown, all_held}
use Rattle.rules.proofs.Round.{fold-keeps, fold-brings}

-- ---- no row that would grow is lower

pub lower-below : (b : Bool) (y a : ℕ) → lower b y a ≤ a
lower-below true y a = omega arith
lower-below false y a = omega arith

module _ (L : ℕ) (t : Table) where
  pub gap_below-falls : (p : Rule) (a b : ℕ) → a ≤ b → gap_below L t p a ≤ b
  unfolding gap_below
  gap_below-falls none a b h = h
  gap_below-falls (give y m) a b h = omega (arith, lower-below (grows (number L y) (2 ^ m) t) (number L y) a)
  gap_below-falls (include y x) a b h = omega (arith, lower-below (grows (number L y) (get_or t (number L x) 0) t) (number L y) a)
  gap_below-falls (each x k) a b h =
      fold-keeps (λ m c. gap_below L t (k m) c) (λ c. c ≤ b) (labels L (get_or t (number L x) 0)) (λ m i c g. gap_below-falls (k m) c b g) a h
  gap_below-falls (over xs k) a b h = fold-keeps (λ m c. gap_below L t (k m) c) (λ c. c ≤ b) xs (λ m i c g. gap_below-falls (k m) c b g) a h
  gap_below-falls (both p q) a b h = gap_below-falls q (gap_below L t p a) b (gap_below-falls p a b h)

-- a row that lacks a label of the word is not passed over
pub lower-at : (y w : ℕ) (t : Table) (a l : ℕ) → 0 < y → On w l → (Has t y l → ⊥) → lower (grows y w t) y a ≤ y
lower-at y w t a l z o d = go (grows y w t) refl
  where
    go : (b : Bool) → grows y w t ≡ b → lower b y a ≤ y
    go true e = omega arith
    go false e = absurd (d (not-grown y w t z e l o))

module _ (L : ℕ) (t : Table) (small : Small L t) where
  lowest : (p : Rule) (r l : ℕ) → Told L t p r l → (Has t r l → ⊥) → (a : ℕ) → gap_below L t p a ≤ r
  unfolding gap_below
  lowest none r l h d a = absurd h
  lowest (give y m) r l h d a =
      rw h.1 (lower-at (number L y) (2 ^ m) t a m h.0 (on-single m) (λ g. d (rw (h.1, h.2) g)))
  lowest (include y x) r l h d a =
      rw h.1 (lower-at (number L y) (get_or t (number L x) 0) t a l h.0 h.2 (λ g. d (rw h.1 g)))
  lowest (each x k) r l h d a =
      let w = get_or t (number L x) 0 in
      fold-brings (λ m b. gap_below L t (k m) b) (λ b. Unit {0}) (λ b. b ≤ r) h.0 (λ b u. lowest (k h.0) r l h.2 d b) (labels L w)
      (λ m i b u. u) (λ m i b g. gap_below-falls L t (k m) b r g) (on-label L w h.0 (has-label L t small (number L x) h.0 h.1) h.1) a tt
  lowest (over xs k) r l h d a =
      fold-brings (λ m b. gap_below L t (k m) b) (λ b. Unit {0}) (λ b. b ≤ r) h.0 (λ b u. lowest (k h.0) r l h.2 d b) xs
      (λ m i b u. u) (λ m i b g. gap_below-falls L t (k m) b r g) h.1 a tt
  lowest (both p q) r l (inl h) d a = gap_below-falls L t q (gap_below L t p a) r (lowest p r l h d a)
  lowest (both p q) r l (inr h) d a = lowest q r l h d (gap_below L t p a)

-- ---- and it is a row that would grow

-- where a row would grow there is a label that it lacks
pub lacking : (L y w : ℕ) (t : Table) → Small L t → w < 2 ^ L → grows y w t ≡ true → (0 < y) × ((l : ℕ) × On w l × (Has t y l → ⊥))
lacking L zero w t s h g = let e = sym (grows-zero w t) ∙ g in let z : ◌≡◌ {A = ℕ} 0 1 = cc in absurd (omega arith)
lacking L (suc y) w t s h g = (omega arith, go (found L))
  where
    below : (d : ℕ) → ((l : ℕ) → l < d → On w l → Has t (suc y) l) → (On w d → Has t (suc y) d) → (l : ℕ) → l < suc d → On w l → Has t (suc y) l
    below d f top l i o = elim (ℕ_discrete l d) [ yes e ↦ (let o' : On w d = rw e at o in rw e (top o')) | no n ↦ f l (omega arith) o ]

    step : (d : ℕ) → ((l : ℕ) × On w l × (Has t (suc y) l → ⊥)) ⊎ ((l : ℕ) → l < d → On w l → Has t (suc y) l) → Dec (On w d) → Dec (Has t (suc y) d)
        → ((l : ℕ) × On w l × (Has t (suc y) l → ⊥)) ⊎ ((l : ℕ) → l < suc d → On w l → Has t (suc y) l)
    step d (inl f) _ _ = inl f
    step d (inr f) (no a) _ = inr (below d f (λ o. absurd (a o)))
    step d (inr f) (yes a) (yes b) = inr (below d f (λ o. b))
    step d (inr f) (yes a) (no b) = inl (d, a, b)

    found : (d : ℕ) → ((l : ℕ) × On w l × (Has t (suc y) l → ⊥)) ⊎ ((l : ℕ) → l < d → On w l → Has t (suc y) l)
    found zero = inr (λ l i o. absurd (omega arith))
    found (suc d) = step d (found d) (on? w d) (on? (get_or t (suc y) 0) d)

    go : ((l : ℕ) × On w l × (Has t (suc y) l → ⊥)) ⊎ ((l : ℕ) → l < L → On w l → Has t (suc y) l) → (l : ℕ) × On w l × (Has t (suc y) l → ⊥)
    go (inl f) = f
    go (inr f) =
        let e = sym g ∙ all_held L (suc y) w t s h (λ l o. f l (on_below L w l h o) o) in
        let z : ◌≡◌ {A = ℕ} 0 1 = cc in
        absurd (omega arith)

pub found_at : (L y w : ℕ) (t : Table) (a : ℕ) → Small L t → w < 2 ^ L
    → (lower (grows y w t) y a ≡ a) ⊎ ((lower (grows y w t) y a ≡ y) × (0 < y) × ((l : ℕ) × On w l × (Has t y l → ⊥)))
found_at L y w t a s h = go (grows y w t) refl
  where
    first : grows y w t ≡ true → Dec (min y a ≡ a) → (min y a ≡ a) ⊎ ((min y a ≡ y) × (0 < y) × ((l : ℕ) × On w l × (Has t y l → ⊥)))
    first g (yes e) = inl e
    first g (no e) = let f = lacking L y w t s h g in inr (omega arith, f.0, f.1)

    go : (b : Bool) → grows y w t ≡ b → (lower b y a ≡ a) ⊎ ((lower b y a ≡ y) × (0 < y) × ((l : ℕ) × On w l × (Has t y l → ⊥)))
    go true g = first g (ℕ_discrete (min y a) a)
    go false g = inl refl

-- a step that leaves its number or makes it good, again and again
fold-found : (f : ℕ → ℕ → ℕ) (Good : ℕ → Type 0) (xs : List ℕ) → ((x : ℕ) → Memᴰ x xs → (b : ℕ) → (f x b ≡ b) ⊎ Good (f x b))
    → (a : ℕ) → (fold_over f xs a ≡ a) ⊎ Good (fold_over f xs a)
fold-found f Good [] h a = inl refl
fold-found f Good (x ∷ xs) h a = go (h x (Memᴰ.head refl) a) (fold-found f Good xs (λ y m. h y (Memᴰ.tail m)) (f x a))
  where
    go : (f x a ≡ a) ⊎ Good (f x a) → (fold_over f xs (f x a) ≡ f x a) ⊎ Good (fold_over f xs (f x a))
        → (fold_over f xs (f x a) ≡ a) ⊎ Good (fold_over f xs (f x a))
    go p (inr q) = inr q
    go (inl e) (inl d) = inl (d ∙ e)
    go (inr q) (inl d) = inr (subst Good (sym d) q)

module _ (L : ℕ) (t : Table) (small : Small L t) where
  found : (p : Rule) → Fits L p → (a : ℕ) → (gap_below L t p a ≡ a) ⊎ Enlarges L t p (gap_below L t p a)
  unfolding gap_below
  found none f a = inl refl
  found (give y m) f a = go (found_at L (number L y) (2 ^ m) t a small (pow-lt f.1))
    where
      at : ℕ
      at = lower (grows (number L y) (2 ^ m) t) (number L y) a

      go : (at ≡ a) ⊎ ((at ≡ number L y) × (0 < number L y) × ((l : ℕ) × On (2 ^ m) l × (Has t (number L y) l → ⊥)))
          → (at ≡ a) ⊎ Enlarges L t (give y m) at
      go (inl e) = inl e
      go (inr e) =
          inr (e.2.0, (e.1, e.0, single-only m e.2.0 e.2.1), λ h. e.2.2 (subst (λ (z : ℕ). Has t z e.2.0) e.0 h))
  found (include y x) f a = go (found_at L (number L y) (get_or t (number L x) 0) t a small (small (number L x)))
    where
      at : ℕ
      at = lower (grows (number L y) (get_or t (number L x) 0) t) (number L y) a

      go : (at ≡ a) ⊎ ((at ≡ number L y) × (0 < number L y) × ((l : ℕ) × Has t (number L x) l × (Has t (number L y) l → ⊥)))
          → (at ≡ a) ⊎ Enlarges L t (include y x) at
      go (inl e) = inl e
      go (inr e) = inr (e.2.0, (e.1, e.0, e.2.1), λ h. e.2.2 (subst (λ (z : ℕ). Has t z e.2.0) e.0 h))
  found (each x k) f a =
      fold-found (λ m b. gap_below L t (k m) b) (Enlarges L t (each x k)) (labels L (get_or t (number L x) 0))
      (λ m i b. let o = label-on L (get_or t (number L x) 0) m i in under m o.1 b (found (k m) (f.1 m o.0) b)) a
    where
      under : (m : ℕ) → Has t (number L x) m → (b : ℕ) → (gap_below L t (k m) b ≡ b) ⊎ Enlarges L t (k m) (gap_below L t (k m) b)
          → (gap_below L t (k m) b ≡ b) ⊎ Enlarges L t (each x k) (gap_below L t (k m) b)
      under m h b (inl e) = inl e
      under m h b (inr g) = inr (g.0, (m, h, g.1), g.2)
  found (over xs k) f a =
      fold-found (λ m b. gap_below L t (k m) b) (Enlarges L t (over xs k)) xs (λ m i b. under m i b (found (k m) (f m i) b)) a
    where
      under : (m : ℕ) → Memᴰ m xs → (b : ℕ) → (gap_below L t (k m) b ≡ b) ⊎ Enlarges L t (k m) (gap_below L t (k m) b)
          → (gap_below L t (k m) b ≡ b) ⊎ Enlarges L t (over xs k) (gap_below L t (k m) b)
      under m i b (inl e) = inl e
      under m i b (inr g) = inr (g.0, (m, i, g.1), g.2)
  found (both p q) f a = go (found p f.0 a) (found q f.1 (gap_below L t p a))
    where
      end : ℕ
      end = gap_below L t q (gap_below L t p a)

      go : (gap_below L t p a ≡ a) ⊎ Enlarges L t p (gap_below L t p a) → (end ≡ gap_below L t p a) ⊎ Enlarges L t q end
          → (end ≡ a) ⊎ Enlarges L t (both p q) end
      go _ (inr g) = inr (g.0, inr g.1, g.2)
      go (inl e) (inl d) = inl (d ∙ e)
      go (inr g) (inl d) = inr (subst (Enlarges L t (both p q)) (sym d) (g.0, inl g.1, g.2))

-- ---- the gap

-- what code may promise of the gap determines it
pub finds-only : {L : ℕ} {t : Table} {p : Rule} {a b c : ℕ} → Finds L t p a b → Finds L t p a c → b ≡ c
finds-only {L} {t} {p} {a} one other = order (below one other) (below other one)
  where
    order : {m n : ℕ} → m ≤ n → n ≤ m → m ≡ n
    order h g = omega arith

    below : {m n : ℕ} → Finds L t p a m → Finds L t p a n → m ≤ n
    below {m} {n} f g = elim g.found [ inl e ↦ omega (arith, f.not-higher) | inr e ↦ f.lowest n e ]

module _ (L : ℕ) (t : Table) (small : Small L t) (p : Rule) (fits : Fits L p) where
  pub gap-finds : (a : ℕ) → Finds L t p a (gap_below L t p a)
  gap-finds a =
      record {
        not-higher = gap_below-falls L t p a a (omega arith);
        found = found L t small p fits a;
        lowest = λ r e. lowest L t small p r e.0 e.1 e.2 a;
      }

  -- whoever looks for it finds the gap
  pub finds-gap : (b : ℕ) → Finds L t p (row_count L) b → b ≡ gap L t p
  unfolding gap
  finds-gap b f = finds-only f (gap-finds (row_count L))

  -- no lower row would grow
  pub gap-lowest : (r : ℕ) → Enlarges L t p r → gap L t p ≤ r
  unfolding gap
  gap-lowest = (gap-finds (row_count L)).lowest

  -- the row of the gap would grow
  pub gap-enlarges : gap L t p < row_count L → Enlarges L t p (gap L t p)
  unfolding gap
  gap-enlarges h = elim (gap-finds (row_count L)).found [ inl e ↦ absurd (omega arith) | inr g ↦ g ]

  -- where there is no gap, the table is closed
  pub no-gap-closed : row_count L ≤ gap L t p → Closed L t p
  no-gap-closed h = told-closed L t p (λ r l g. held r l g (on? (get_or t r 0) l))
    where
      held : (r l : ℕ) → Told L t p r l → Dec (Has t r l) → Has t r l
      held r l g (yes o) = o
      held r l g (no d) = absurd (omega (arith, gap-lowest r (l, g, d), (told-row L t small p fits r l g).1))

  -- and of a closed table there is none
  pub closed-no-gap : Closed L t p → gap L t p ≡ row_count L
  unfolding gap
  closed-no-gap c =
      elim (gap-finds (row_count L)).found [
        | inl e ↦ e
        | inr g ↦ absurd (g.2 (closed-told L t p c (gap L t p) g.0 g.1))
      ]
