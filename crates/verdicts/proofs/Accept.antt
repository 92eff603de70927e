-- What verdict and check go by: what both refuse, the word of forbidden labels held, and the gap, which is the lowest row of the given table that lacks
-- something told. Assumes nothing.
use mathlib.Core.Path.{◌≡◌, refl, subst}
use mathlib.Core.List.{List, [], ◌∷◌}
use mathlib.Core.Bool.{Bool, true, false, cond}
use Prim.Native.Nat.{ℕ, ◌<◌, ◌≤◌}
use native.Mathlib.Decide.{dec_lt}
use native.Mathlib.Omega.{arith}
use lib.Dec.{eqb, ltb}
use lib.Count.{count_trailing_zeros}
use borrow.Author.Tests.{eqb-true, eqb-false, ltb-true, ltb-false, eq-eqb, le-ltb}
use Rattle.words.proofs.Bits.{On, empty-off}
use Rattle.words.proofs.Laws.{lowest}
use Rattle.rows.specs.Row.{row_count}
use Rattle.answer.specs.Outcome.{Outcome, refused}
use Rattle.rules.specs.Table.{Table, Has}
use Rattle.rules.specs.Told.{Told, Closed}
use Rattle.rules.specs.Gap.{Enlarges, gap}
use Rattle.rules.proofs.Gap.{gap-lowest, gap-enlarges, no-gap-closed, closed-no-gap}
use Rattle.format.specs.Reading.{Reading}
use Rattle.program.specs.Program.{Program, Guest}
use Rattle.analysis.specs.Rules.{rules}
use Rattle.analysis.specs.Verdict.{held_forbidden}
use Rattle.analysis.proofs.Stated.{Declared}
use Rattle.analysis.proofs.Proper.{AllProper, Proper}
use Rattle.analysis.proofs.Fit.{proper-fits}
use Rattle.analysis.proofs.Naming.{told-declared, told-in-rows}
use Rattle.analysis.proofs.Held.{held_on, held_below}
use Rattle.verdicts.specs.Verdict.{admitted, forbidden_held}
use Rattle.verdicts.specs.Check.{cleaned, Lacks}
use Rattle.verdicts.proofs.Cleaned.{cleaned-has, has-cleaned, cleaned-small}

-- ---- what both operations refuse

pub admitted-readable : {A : Type 0} (L words : ℕ) (d : Reading) (refuse : ℕ → ℕ → A) (a : A) → row_count L ≤ words → d.refusal ≡ 0
    → admitted L words d refuse a ≡ a
admitted-readable L words d refuse a full ok = rw (le-ltb words (row_count L) full, eq-eqb d.refusal 0 ok)

-- the table is too short, the file is refused, or nothing is against them
pub data Admission (L words : ℕ) (d : Reading) (a o : Outcome) : Type 0 where
  short : words < row_count L → o ≡ refused 8 0 → Admission L words d a o
  unread : row_count L ≤ words → (d.refusal ≡ 0 → ⊥) → o ≡ refused d.refusal d.position → Admission L words d a o
  taken : row_count L ≤ words → d.refusal ≡ 0 → o ≡ a → Admission L words d a o

pub admission : (L words : ℕ) (d : Reading) (a : Outcome) → Admission L words d a (admitted L words d refused a)
admission L words d a = go (ltb words (row_count L)) refl (eqb d.refusal 0) refl
  where
    go : (x : Bool) → ltb words (row_count L) ≡ x → (y : Bool) → eqb d.refusal 0 ≡ y
        → Admission L words d a (cond x (refused 8 0) (cond y a (refused d.refusal d.position)))
    go true p y q = short (ltb-true _ _ p) refl
    go false p true q = taken (ltb-false _ _ p) (eqb-true _ _ q) refl
    go false p false q = unread (ltb-false _ _ p) (eqb-false _ _ q) refl

-- ---- the forbidden labels in row 1

module _ (L : ℕ) (p : Program) (o : Proper L p) where
  -- no label of the word of forbidden labels held, no such word
  pub none-held : (t u : Table) → ((r l : ℕ) → Declared p.sheet l → 0 < r → r < row_count L → Has t r l → Has u r l)
      → forbidden_held u p.guests ≡ 0 → forbidden_held t p.guests ≡ 0
  unfolding forbidden_held
  none-held t u up = go p.guests o.guests-proper
    where
      go : (gs : List Guest) → AllProper L p.sheet gs → forbidden_held u gs ≡ 0 → forbidden_held t gs ≡ 0
      go [] h e = refl
      go (g ∷ gs) h e = empty (dec_lt 0 (held_forbidden t g))
        where
          empty : Dec (0 < held_forbidden t g) → held_forbidden t g ≡ 0
          empty (no d) = omega arith
          empty (yes d) =
              let low = lowest L (held_forbidden t g) (held_below L t g h.0.forbidden-below) d in
              let l = count_trailing_zeros L (held_forbidden t g) in
              let both = (held_on t g l).0 low.«in» in
              let here = up g.bag l (h.0.forbidden-declared l both.1) h.0.bag-positive (omega (arith, h.0.bag-below)) both.0 in
              absurd (empty-off l (subst (λ (w : ℕ). On w l) e ((held_on u g l).1 (here, both.1))))

  -- ---- the gap

  module _ (t : Table) where
    -- what is told of the cleaned table is missing in the given one where it is missing in the cleaned one
    told-clean : (r l : ℕ) → Told L (cleaned L p.sheet t) (rules L p) r l → Has t r l → Has (cleaned L p.sheet t) r l
    told-clean r l h g =
        let rows = told-in-rows L p o (cleaned L p.sheet t) (cleaned-small L p.sheet t) r l h in
        let d = told-declared L p o (cleaned L p.sheet t) (λ x m k. (has-cleaned L p.sheet t x m k).declared-label) r l h in
        cleaned-has L p.sheet t r l (record { positive = rows.0; row = rows.1; declared-label = d; label = o.below l d; given = g })

    lacks-enlarges : (r : ℕ) → Lacks L p t r → Enlarges L (cleaned L p.sheet t) (rules L p) r
    lacks-enlarges r e = (e.0, e.1, λ h. e.2 (has-cleaned L p.sheet t r e.0 h).given)

    enlarges-lacks : (r : ℕ) → Enlarges L (cleaned L p.sheet t) (rules L p) r → Lacks L p t r
    enlarges-lacks r e = (e.0, e.1, λ h. e.2 (told-clean r e.0 e.1 h))

    -- 10's row: the given table lacks something there, and no lower row does
    pub gap-lacks : gap L (cleaned L p.sheet t) (rules L p) < row_count L → Lacks L p t (gap L (cleaned L p.sheet t) (rules L p))
    gap-lacks h =
        enlarges-lacks _ (gap-enlarges L (cleaned L p.sheet t) (cleaned-small L p.sheet t) (rules L p) (proper-fits L p o) h)

    pub gap-first : (r : ℕ) → Lacks L p t r → gap L (cleaned L p.sheet t) (rules L p) ≤ r
    gap-first r e =
        gap-lowest L (cleaned L p.sheet t) (cleaned-small L p.sheet t) (rules L p) (proper-fits L p o) r (lacks-enlarges r e)

    -- no 10: the cleaned table is closed
    pub no_gap : row_count L ≤ gap L (cleaned L p.sheet t) (rules L p) → Closed L (cleaned L p.sheet t) (rules L p)
    no_gap = no-gap-closed L (cleaned L p.sheet t) (cleaned-small L p.sheet t) (rules L p) (proper-fits L p o)

    pub closed-gap : Closed L (cleaned L p.sheet t) (rules L p) → gap L (cleaned L p.sheet t) (rules L p) ≡ row_count L
    closed-gap = closed-no-gap L (cleaned L p.sheet t) (cleaned-small L p.sheet t) (rules L p) (proper-fits L p o)
