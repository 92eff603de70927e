-- The least table above t holds exactly the facts that the rule derives from t. Assumes nothing.
use mathlib.Core.Logic.{inl, inr, ◌↔◌}
use Prim.Native.Nat.{ℕ}
use Rattle.rules.specs.Table.{Table, Has, Within, Shaped}
use Rattle.rules.specs.Rule.{Rule}
use Rattle.rules.specs.Told.{Closed, Fits, Derives, started, follows}
use Rattle.rules.specs.Round.{round, enough_rounds, least_above}
use Rattle.rules.proofs.Told.{told-within}
use Rattle.rules.proofs.Round.{round-has}
use Rattle.rules.proofs.Least.{settle-keeps, least-closed, least-keeps}

-- every closed table that holds t holds what is derived from t
pub derives-within : (L : ℕ) (p : Rule) (t u : Table) → Closed L u p → Within t u → (r l : ℕ) → Derives L p t r l → Has u r l
derives-within L p t u c w r l (started h) = w r l h
derives-within L p t u c w r l (follows v d h) = told-within L v u p c (λ x m g. derives-within L p t u c w x m (d x m g)) r l h

pub least-derives : (L : ℕ) (p : Rule) (t : Table) (r l : ℕ) → Has (least_above L p t) r l → Derives L p t r l
unfolding least_above
least-derives L p t =
    settle-keeps L p (λ v. (r l : ℕ) → Has v r l → Derives L p t r l) step (enough_rounds L) t (λ r l h. started h)
  where
    step : (v : Table) → ((r l : ℕ) → Has v r l → Derives L p t r l) → (r l : ℕ) → Has (round L p v) r l → Derives L p t r l
    step v d r l h = elim (round-has L p v r l h) [ inl g ↦ d r l g | inr g ↦ follows v d g ]

pub least-holds : (L : ℕ) (p : Rule) → Fits L p → (t : Table) → Shaped L t → (r l : ℕ) → Has (least_above L p t) r l ↔ Derives L p t r l
least-holds L p fits t s r l = (
  least-derives L p t r l,
  derives-within L p t (least_above L p t) (least-closed L p fits t s) (least-keeps L p fits t s) r l,
)
