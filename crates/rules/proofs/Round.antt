-- One round: it holds the facts of the table and those that the rule tells of it, and no other; row 0 and the words beyond the
-- rows stay. Assumes nothing.
use mathlib.Core.Path.{◌≡◌, refl, ◌∙◌, subst}
use mathlib.Core.Logic.{◌⊎◌, inl, inr, ◌↔◌, ⊎_elim}
use mathlib.Core.List.Memᴰ
use mathlib.Core.List.{List, [], ◌∷◌, Memᴰ}
use Prim.Native.Nat.{ℕ, ◌^◌, ◌≤◌, ◌<◌}
use native.Mathlib.Omega.{arith}
use lib.ListN.{length, get_or}
use lib.Pow.{pow-lt}
use Rattle.words.proofs.Bits.{on-single, single-only}
use Rattle.rows.specs.Row.{Row, number, row_count, InTable}
use Rattle.rows.proofs.Number.{number_bound}
use Rattle.rules.specs.Table.{Table, Has, Within, Small, Shaped}
use Rattle.rules.specs.Rule.{Rule, none, give, include, each, over, both}
use Rattle.rules.specs.Told.{Told, Closed, Fits}
use Rattle.rules.specs.Round.{labels, join, fold_over, fire, round}
use Rattle.rules.proofs.Labels.{label-on, on-label}
use Rattle.rules.proofs.Table.{has-label}
use Rattle.rules.proofs.Told.{told-within}
use Rattle.rules.proofs.Join.{join-length, join-keeps, join-other, join-row-zero, has_join, join-tells, join-small}

-- ---- folds over a list

module _ {A : Type 0} (f : ℕ → A → A) where
  pub fold-keeps : (Good : A → Type 0) (xs : List ℕ) → ((x : ℕ) → Memᴰ x xs → (b : A) → Good b → Good (f x b))
      → (a : A) → Good a → Good (fold_over f xs a)
  fold-keeps Good [] g a h = h
  fold-keeps Good (x ∷ xs) g a h = fold-keeps Good xs (λ y m. g y (Memᴰ.tail m)) (f x a) (g x (Memᴰ.head refl) a h)

  -- what one step of the fold brings about, and no later step undoes
  pub fold-brings : (Good Goal : A → Type 0) (y : ℕ) → ((b : A) → Good b → Goal (f y b)) → (xs : List ℕ)
      → ((x : ℕ) → Memᴰ x xs → (b : A) → Good b → Good (f x b)) → ((x : ℕ) → Memᴰ x xs → (b : A) → Goal b → Goal (f x b))
      → Memᴰ y xs → (a : A) → Good a → Goal (fold_over f xs a)
  fold-brings Good Goal y brings [] g k m a h = absurd (Memᴰ.not-nil m)
  fold-brings Good Goal y brings (x ∷ xs) g k m a h =
      go (Memᴰ.cases_cons m)
      (λ i. fold-brings Good Goal y brings xs (λ z j. g z (Memᴰ.tail j)) (λ z j. k z (Memᴰ.tail j)) i (f x a) (g x (Memᴰ.head refl) a h))
    where
      go : (y ≡ x) ⊎ Memᴰ y xs → (Memᴰ y xs → Goal (fold_over f xs (f x a))) → Goal (fold_over f xs (f x a))
      go (inl e) later =
          fold-keeps Goal xs (λ z j. k z (Memᴰ.tail j)) (f x a) (subst (λ (z : ℕ). Goal (f z a)) e (brings a h))
      go (inr i) later = later i

-- what is there after the fold was there before, or a step brought it
fold-has : (f : ℕ → Table → Table) (Told-by : ℕ → Type 0) (r l : ℕ) → ((x : ℕ) (b : Table) → Has (f x b) r l → Has b r l ⊎ Told-by x)
    → (xs : List ℕ) (a : Table) → Has (fold_over f xs a) r l → Has a r l ⊎ ((x : ℕ) × Memᴰ x xs × Told-by x)
fold-has f Told-by r l g [] a h = inl h
fold-has f Told-by r l g (x ∷ xs) a h = go (fold-has f Told-by r l g xs (f x a) h)
  where
    first : Has a r l ⊎ Told-by x → Has a r l ⊎ ((y : ℕ) × Memᴰ y (x ∷ xs) × Told-by y)
    first (inl e) = inl e
    first (inr q) = inr (x, Memᴰ.head refl, q)

    go : Has (f x a) r l ⊎ ((y : ℕ) × Memᴰ y xs × Told-by y) → Has a r l ⊎ ((y : ℕ) × Memᴰ y (x ∷ xs) × Told-by y)
    go (inl e) = first (g x a e)
    go (inr s) = inr (s.0, Memᴰ.tail s.1, s.2)

-- ---- all conclusions at once

module _ (L : ℕ) (t : Table) (small : Small L t) where
  -- what every join to a row of the table keeps, the rule keeps
  pub fire-keeps : (Good : Table → Type 0) → ((y : Row) → InTable L y → (w : ℕ) → w < 2 ^ L → (a : Table) → Good a → Good (join (number L y) w a))
      → (p : Rule) → Fits L p → (a : Table) → Good a → Good (fire L t p a)
  unfolding fire
  fire-keeps Good g none f a h = h
  fire-keeps Good g (give y m) f a h = g y f.0 (2 ^ m) (pow-lt f.1) a h
  fire-keeps Good g (include y x) f a h = g y f.0 (get_or t (number L x) 0) (small (number L x)) a h
  fire-keeps Good g (each x k) f a h =
      fold-keeps (λ m b. fire L t (k m) b) Good (labels L (get_or t (number L x) 0))
      (λ m i b. fire-keeps Good g (k m) (f.1 m (label-on L (get_or t (number L x) 0) m i).0) b) a h
  fire-keeps Good g (over xs k) f a h = fold-keeps (λ m b. fire L t (k m) b) Good xs (λ m i b. fire-keeps Good g (k m) (f m i) b) a h
  fire-keeps Good g (both p q) f a h = fire-keeps Good g q f.1 (fire L t p a) (fire-keeps Good g p f.0 a h)

  fire-adds : (p : Rule) → Fits L p → (a : Table) (r l : ℕ) → Has a r l → Has (fire L t p a) r l
  fire-adds p f a r l h = fire-keeps (λ b. Has b r l) (λ y i w s b g. join-keeps (number L y) w b r l g) p f a h

  fire-long : (n : ℕ) (p : Rule) → Fits L p → (a : Table) → n ≤ length a → n ≤ length (fire L t p a)
  fire-long n p f a h = fire-keeps (λ b. n ≤ length b) (λ y i w s b g. rw (join-length (number L y) w b) g) p f a h

  -- what is told is there afterwards
  fire-tells : (p : Rule) → Fits L p → (a : Table) → row_count L ≤ length a → (r l : ℕ) → Told L t p r l → Has (fire L t p a) r l
  unfolding fire
  fire-tells none f a n r l h = absurd h
  fire-tells (give y m) f a n r l h =
      rw (h.1, h.2) (join-tells (number L y) (2 ^ m) a h.0 (omega (arith, number_bound L y f.0)) m (on-single m))
  fire-tells (include y x) f a n r l h =
      rw h.1 (join-tells (number L y) (get_or t (number L x) 0) a h.0 (omega (arith, number_bound L y f.0)) l h.2)
  fire-tells (each x k) f a n r l h =
      let w = get_or t (number L x) 0 in
      let here = has-label L t small (number L x) h.0 h.1 in
      fold-brings (λ m b. fire L t (k m) b) (λ b. row_count L ≤ length b) (λ b. Has b r l) h.0
      (λ b i. fire-tells (k h.0) (f.1 h.0 here) b i r l h.2) (labels L w)
      (λ m i b. fire-long (row_count L) (k m) (f.1 m (label-on L w m i).0) b)
      (λ m i b. fire-adds (k m) (f.1 m (label-on L w m i).0) b r l) (on-label L w h.0 here h.1) a n
  fire-tells (over xs k) f a n r l h =
      fold-brings (λ m b. fire L t (k m) b) (λ b. row_count L ≤ length b) (λ b. Has b r l) h.0
      (λ b i. fire-tells (k h.0) (f h.0 h.1) b i r l h.2) xs (λ m i b. fire-long (row_count L) (k m) (f m i) b)
      (λ m i b. fire-adds (k m) (f m i) b r l) h.1 a n
  fire-tells (both p q) f a n r l (inl h) = fire-adds q f.1 (fire L t p a) r l (fire-tells p f.0 a n r l h)
  fire-tells (both p q) f a n r l (inr h) = fire-tells q f.1 (fire L t p a) (fire-long (row_count L) p f.0 a n) r l h

-- what is there afterwards was there before or is told
fire-has : (L : ℕ) (t : Table) (p : Rule) (a : Table) (r l : ℕ) → Has (fire L t p a) r l → Has a r l ⊎ Told L t p r l
unfolding fire
fire-has L t none a r l h = inl h
fire-has L t (give y m) a r l h =
    elim (has_join (number L y) (2 ^ m) a r l h) [
      | inl e ↦ inl e
      | inr e ↦ inr (e.0, e.1, single-only m l e.2)
    ]
fire-has L t (include y x) a r l h = has_join (number L y) (get_or t (number L x) 0) a r l h
fire-has L t (each x k) a r l h =
    go (fold-has (λ m b. fire L t (k m) b) (λ m. Told L t (k m) r l) r l (λ m b. fire-has L t (k m) b r l) (labels L (get_or t (number L x) 0)) a h)
  where
    go : Has a r l ⊎ ((m : ℕ) × Memᴰ m (labels L (get_or t (number L x) 0)) × Told L t (k m) r l) → Has a r l ⊎ Told L t (each x k) r l
    go (inl e) = inl e
    go (inr e) = inr (e.0, (label-on L (get_or t (number L x) 0) e.0 e.1).1, e.2)
fire-has L t (over xs k) a r l h = fold-has (λ m b. fire L t (k m) b) (λ m. Told L t (k m) r l) r l (λ m b. fire-has L t (k m) b r l) xs a h
fire-has L t (both p q) a r l h = go (fire-has L t q (fire L t p a) r l h) (fire-has L t p a r l)
  where
    earlier : Has a r l ⊎ Told L t p r l → Has a r l ⊎ Told L t (both p q) r l
    earlier (inl o) = inl o
    earlier (inr o) = inr (inl o)

    go : Has (fire L t p a) r l ⊎ Told L t q r l → (Has (fire L t p a) r l → Has a r l ⊎ Told L t p r l) → Has a r l ⊎ Told L t (both p q) r l
    go (inr e) before = inr (inr e)
    go (inl e) before = earlier (before e)

-- ---- one round

module _ (L : ℕ) (p : Rule) where
  -- a round adds what is told, and nothing else
  pub round-has : (t : Table) (r l : ℕ) → Has (round L p t) r l → Has t r l ⊎ Told L t p r l
  unfolding round
  round-has t r l h = fire-has L t p t r l h

  -- a closed table above stays above
  pub round-within : (t u : Table) → Closed L u p → Within t u → Within (round L p t) u
  round-within t u c w r l h = elim (round-has t r l h) [ inl g ↦ w r l g | inr g ↦ told-within L t u p c w r l g ]

module _ (L : ℕ) (p : Rule) (fits : Fits L p) where
  pub round_keeps : (t : Table) → Small L t → Within t (round L p t)
  unfolding round
  round_keeps t s r l h = fire-adds L t s p fits t r l h

  pub round-tells : (t : Table) → Shaped L t → (r l : ℕ) → Told L t p r l → Has (round L p t) r l
  unfolding round
  round-tells t s r l h = fire-tells L t s.small p fits t s.long r l h

  -- a round holds t and what is told of t, and nothing else
  pub round-holds : (t : Table) → Shaped L t → (r l : ℕ) → Has (round L p t) r l ↔ (Has t r l ⊎ Told L t p r l)
  round-holds t s r l = (round-has L p t r l, ⊎_elim (round_keeps t s.small r l) (round-tells t s r l))

  pub round-length : (t : Table) → Small L t → length (round L p t) ≡ length t
  unfolding round
  round-length t s = fire-keeps L t s (λ b. length b ≡ length t) (λ y i w h b e. join-length (number L y) w b ∙ e) p fits t refl

  pub round-shaped : (t : Table) → Shaped L t → Shaped L (round L p t)
  unfolding round
  round-shaped t s =
      record {
        long = rw (round-length t s.small) s.long;
        small = fire-keeps L t s.small (λ b. Small L b) (λ y i w h b g. join-small L (number L y) w b h g) p fits t s.small;
      }

  pub round-row-zero : (t : Table) → Small L t → get_or (round L p t) 0 0 ≡ get_or t 0 0
  unfolding round
  round-row-zero t s = fire-keeps L t s (λ b. get_or b 0 0 ≡ get_or t 0 0) (λ y i w h b e. join-row-zero (number L y) w b ∙ e) p fits t refl

  pub round-beyond : (t : Table) → Small L t → (r : ℕ) → row_count L ≤ r → get_or (round L p t) r 0 ≡ get_or t r 0
  unfolding round
  round-beyond t s r h =
      fire-keeps L t s (λ b. get_or b r 0 ≡ get_or t r 0)
      (λ y i w g b e. join-other (number L y) w b r (λ q. absurd (omega (arith, number_bound L y i, q))) ∙ e) p fits t refl
