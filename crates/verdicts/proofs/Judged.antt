-- What is judged of a program: confined or leaks, and the label of leaks is the lowest forbidden one that row 1 holds. Assumes nothing.
use mathlib.Core.Path.{◌≡◌, refl, subst}
use mathlib.Core.List.{List}
use mathlib.Core.Logic.{◌⊎◌, inl, inr}
use Prim.Native.Nat.{ℕ, ◌^◌, ◌<◌, ◌≤◌}
use native.Mathlib.Decide.{dec_lt, ℕ_discrete}
use native.Mathlib.Omega.{arith}
use lib.Count.{count_trailing_zeros}
use borrow.Author.Tests.{eq-eqb, ne_eqb}
use Rattle.words.proofs.Bits.{On, empty-off}
use Rattle.words.proofs.Laws.{Lowest, lowest}
use Rattle.answer.specs.Outcome.{confined, leaks}
use Rattle.rules.specs.Table.{Table, facts}
use Rattle.format.specs.Sheet.{Sheet}
use Rattle.program.specs.Program.{Program, Guest, guest_three, guests_of, program_of, program_in}
use Rattle.analysis.specs.Verdict.{least_table, held_forbidden}
use Rattle.analysis.proofs.Held.{held_on, held_below}
use Rattle.verdicts.specs.Verdict.{forbidden_held, holder, judged, Leaks, Confined}
use Rattle.verdicts.specs.Lists.{ForbiddenHeld, LowestForbidden}

-- ---- the two outcomes of a program

module _ (L : ℕ) (p : Program) where
  pub clear-confined : forbidden_held (least_table L p) p.guests ≡ 0 → judged L p ≡ confined (facts L (least_table L p))
  unfolding judged
  clear-confined e = rw (eq-eqb (forbidden_held (least_table L p) p.guests) 0 e)

  pub held-leaks : (forbidden_held (least_table L p) p.guests ≡ 0 → ⊥)
      → judged L p ≡ leaks (count_trailing_zeros L (forbidden_held (least_table L p) p.guests)) (holder p.guests) (facts L (least_table L p))
  unfolding judged
  held-leaks d = rw (ne_eqb (forbidden_held (least_table L p) p.guests) 0 d)

  pub confined-clear : Confined (judged L p) → forbidden_held (least_table L p) p.guests ≡ 0
  confined-clear c =
      elim (ℕ_discrete (forbidden_held (least_table L p) p.guests) 0) [
        | yes e ↦ e
        | no d ↦ (let a = held-leaks d in let b = c.1 in let z : ◌≡◌ {A = ℕ} 0 1 = cc in absurd (omega arith))
      ]

  pub leaks-held : Leaks (judged L p) → forbidden_held (least_table L p) p.guests ≡ 0 → ⊥
  leaks-held k e = let a = clear-confined e in let b = k.3 in let z : ◌≡◌ {A = ℕ} 0 1 = cc in omega arith

  pub judged-cases : Confined (judged L p) ⊎ Leaks (judged L p)
  judged-cases =
      elim (ℕ_discrete (forbidden_held (least_table L p) p.guests) 0) [
        | yes e ↦ inl (_, clear-confined e)
        | no d ↦ inr (_, _, _, held-leaks d)
      ]

-- the one guest that there is
pub guest-three : (L : ℕ) (xs : List ℕ) → holder (program_in L xs).guests ≡ 3
unfolding program_of
guest-three L xs = refl

-- ---- the lowest forbidden label in row 1

-- there is none, exactly where the word of forbidden labels held is 0
pub none-forbidden : (s : Sheet) (t : Table) → forbidden_held t (guests_of s) ≡ 0 → (l : ℕ) → ForbiddenHeld s t l → ⊥
unfolding forbidden_held
none-forbidden s t e l h =
    empty-off l (subst (λ (w : ℕ). On w l) e ((held_on t (guest_three s) l).1 h))

pub lowest-forbidden : (L : ℕ) (s : Sheet) (t : Table) → s.forbidden < 2 ^ L → (forbidden_held t (guests_of s) ≡ 0 → ⊥)
    → LowestForbidden s t (count_trailing_zeros L (forbidden_held t (guests_of s)))
unfolding forbidden_held
lowest-forbidden L s t below d =
    let g : Guest = guest_three s in
    let low = lowest L (held_forbidden t g) (held_below L t g below) (omega arith) in
    record { held = (held_on t g (count_trailing_zeros L (held_forbidden t g))).0 low.«in»; least = λ m h. first g low m ((held_on t g m).1 h) }
  where
    first : (g : Guest) → Lowest (held_forbidden t g) L (count_trailing_zeros L (held_forbidden t g)) → (m : ℕ) → On (held_forbidden t g) m
        → count_trailing_zeros L (held_forbidden t g) ≤ m
    first g low m o =
        elim (dec_lt m (count_trailing_zeros L (held_forbidden t g))) [
          | yes h ↦ absurd (omega (arith, low.least m h))
          | no h ↦ omega arith
        ]

pub forbidden-none : (L : ℕ) (s : Sheet) (t : Table) → s.forbidden < 2 ^ L → ((l : ℕ) → ForbiddenHeld s t l → ⊥) → forbidden_held t (guests_of s) ≡ 0
forbidden-none L s t below none =
    elim (ℕ_discrete (forbidden_held t (guests_of s)) 0) [
      | yes e ↦ e
      | no d ↦ absurd (none _ (lowest-forbidden L s t below d).held)
    ]

-- there is one lowest label at most
pub lowest-only : (s : Sheet) (t : Table) (l m : ℕ) → LowestForbidden s t l → LowestForbidden s t m → l ≡ m
lowest-only s t l m a b = omega (arith, a.least m b.held, b.least l a.held)
