-- What rules tell: a table is closed exactly where it holds all that is told of it; more facts, more conclusions; and what is told
-- stands in a row of the table and not in row 0. Assumes nothing.
use mathlib.Core.Path.{refl, subst, sym}
use mathlib.Core.Logic.{inl, inr, ◌↔◌}
use mathlib.Core.List.Memᴰ
use mathlib.Core.List.{List, [], ◌∷◌, Memᴰ}
use Prim.Native.Nat.{ℕ, ◌<◌}
use native.Mathlib.Omega.{arith}
use Rattle.rows.specs.Row.{number, row_count}
use Rattle.rows.proofs.Number.{number_bound}
use Rattle.rules.specs.Table.{Table, Has, Within, Small}
use Rattle.rules.specs.Rule.{Rule, none, give, include, each, over, both, every}
use Rattle.rules.specs.Told.{Told, Closed, Fits}
use Rattle.rules.proofs.Table.{has-label}

pub closed-told : (L : ℕ) (t : Table) (p : Rule) → Closed L t p → (r l : ℕ) → Told L t p r l → Has t r l
closed-told L t none c r l h = absurd h
closed-told L t (give y m) c r l h = rw (h.1, h.2) (c h.0)
closed-told L t (include y x) c r l h = rw h.1 (c h.0 l h.2)
closed-told L t (each x k) c r l h = closed-told L t (k h.0) (c h.0 h.1) r l h.2
closed-told L t (over xs k) c r l h = closed-told L t (k h.0) (c h.0 h.1) r l h.2
closed-told L t (both p q) c r l (inl h) = closed-told L t p c.0 r l h
closed-told L t (both p q) c r l (inr h) = closed-told L t q c.1 r l h

pub told-closed : (L : ℕ) (t : Table) (p : Rule) → ((r l : ℕ) → Told L t p r l → Has t r l) → Closed L t p
told-closed L t none h = tt
told-closed L t (give y m) h = λ z. h (number L y) m (z, refl, refl)
told-closed L t (include y x) h = λ z l g. h (number L y) l (z, refl, g)
told-closed L t (each x k) h = λ m g. told-closed L t (k m) (λ r l s. h r l (m, g, s))
told-closed L t (over xs k) h = λ x g. told-closed L t (k x) (λ r l s. h r l (x, g, s))
told-closed L t (both p q) h = (told-closed L t p (λ r l s. h r l (inl s)), told-closed L t q (λ r l s. h r l (inr s)))

-- a table is closed exactly where it holds all that the rule tells of it
pub closed-iff-told : (L : ℕ) (t : Table) (p : Rule) → Closed L t p ↔ ((r l : ℕ) → Told L t p r l → Has t r l)
closed-iff-told L t p = (closed-told L t p, told-closed L t p)

-- a table is closed for a list of rules exactly where it is for each of them
pub every-closed : (L : ℕ) (t : Table) (ps : List Rule) → Closed L t (every ps) → (p : Rule) → Memᴰ p ps → Closed L t p
every-closed L t [] c p m = absurd (Memᴰ.not-nil m)
every-closed L t (q ∷ ps) c p m =
    elim (Memᴰ.cases_cons m) [
      | inl e ↦ subst (λ (x : Rule). Closed L t x) (sym e) c.0
      | inr i ↦ every-closed L t ps c.1 p i
    ]

pub closed-every : (L : ℕ) (t : Table) (ps : List Rule) → ((p : Rule) → Memᴰ p ps → Closed L t p) → Closed L t (every ps)
closed-every L t [] h = tt
closed-every L t (q ∷ ps) h = (h q (Memᴰ.head refl), closed-every L t ps (λ p m. h p (Memᴰ.tail m)))

-- more facts, more conclusions
pub told-monotone : (L : ℕ) (t u : Table) → Within t u → (p : Rule) (r l : ℕ) → Told L t p r l → Told L u p r l
told-monotone L t u w none r l h = h
told-monotone L t u w (give y m) r l h = h
told-monotone L t u w (include y x) r l h = (h.0, h.1, w (number L x) l h.2)
told-monotone L t u w (each x k) r l h = (h.0, w (number L x) h.0 h.1, told-monotone L t u w (k h.0) r l h.2)
told-monotone L t u w (over xs k) r l h = (h.0, h.1, told-monotone L t u w (k h.0) r l h.2)
told-monotone L t u w (both p q) r l (inl h) = inl (told-monotone L t u w p r l h)
told-monotone L t u w (both p q) r l (inr h) = inr (told-monotone L t u w q r l h)

-- what is told of t is in every closed table that holds t
pub told-within : (L : ℕ) (t u : Table) (p : Rule) → Closed L u p → Within t u → (r l : ℕ) → Told L t p r l → Has u r l
told-within L t u p c w r l h = closed-told L u p c r l (told-monotone L t u w p r l h)

-- nothing is told of row 0, nor beyond the rows
pub told-row : (L : ℕ) (t : Table) → Small L t → (p : Rule) → Fits L p → (r l : ℕ) → Told L t p r l → (0 < r) × (r < row_count L)
told-row L t s none f r l h = absurd h
told-row L t s (give y m) f r l h = (omega (arith, h.0, h.1), omega (arith, h.1, number_bound L y f.0))
told-row L t s (include y x) f r l h = (omega (arith, h.0, h.1), omega (arith, h.1, number_bound L y f.0))
told-row L t s (each x k) f r l h = told-row L t s (k h.0) (f.1 h.0 (has-label L t s (number L x) h.0 h.1)) r l h.2
told-row L t s (over xs k) f r l h = told-row L t s (k h.0) (f h.0 h.1) r l h.2
told-row L t s (both p q) f r l (inl h) = told-row L t s p f.0 r l h
told-row L t s (both p q) f r l (inr h) = told-row L t s q f.1 r l h

-- the labels told are below L
pub told-label : (L : ℕ) (t : Table) → Small L t → (p : Rule) → Fits L p → (r l : ℕ) → Told L t p r l → l < L
told-label L t s none f r l h = absurd h
told-label L t s (give y m) f r l h = omega (arith, h.2, f.1)
told-label L t s (include y x) f r l h = has-label L t s (number L x) l h.2
told-label L t s (each x k) f r l h = told-label L t s (k h.0) (f.1 h.0 (has-label L t s (number L x) h.0 h.1)) r l h.2
told-label L t s (over xs k) f r l h = told-label L t s (k h.0) (f h.0 h.1) r l h.2
told-label L t s (both p q) f r l (inl h) = told-label L t s p f.0 r l h
told-label L t s (both p q) f r l (inr h) = told-label L t s q f.1 r l h
