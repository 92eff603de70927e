-- Words beyond the rows: a rule neither reads nor writes them, so that the least table above a table with words behind it is the
-- least one above the rows, with the same words behind it. Assumes nothing.
use mathlib.Core.Path.{◌≡◌, ap, sym, ◌∙◌}
use mathlib.Core.List.{◌++◌}
use Prim.Native.Nat.{ℕ, ◌+◌, ◌-◌, ◌≤◌, ◌<◌}
use native.Mathlib.Decide.{dec_lt}
use native.Mathlib.Omega.{arith}
use lib.ListN.{length, get_or, length-append, get_or-append, get_or-eq_default}
use lib.Seq.{get_or-append-add, take-append-le}
use Rattle.words.proofs.Bits.{empty-off}
use Rattle.rows.specs.Row.{number, row_count}
use Rattle.rows.proofs.Number.{number_bound}
use Rattle.rules.specs.Table.{Table, Has, Within, Small, Shaped, total, facts}
use Rattle.rules.specs.Rule.{Rule, none, give, include, each, over, both}
use Rattle.rules.specs.Told.{Closed, Fits}
use Rattle.rules.specs.Round.{least_above}
use Rattle.rules.proofs.Table.{has-label}
use Rattle.rules.proofs.Least.{least-only, least-shaped, least-closed, least-keeps, least-length, least-within}

-- two tables with the same rows are closed together
pub closed-rows : (L : ℕ) (t u : Table) → Small L u → ((r : ℕ) → r < row_count L → get_or t r 0 ≡ get_or u r 0) → (p : Rule) → Fits L p
    → Closed L t p → Closed L u p
closed-rows L t u s e none f c = tt
closed-rows L t u s e (give y m) f c = λ z. rw (← e (number L y) (number_bound L y f.0)) (c z)
closed-rows L t u s e (include y x) f c =
    rw (← e (number L y) (number_bound L y f.0), ← e (number L x) (number_bound L x f.1)) c
closed-rows L t u s e (each x k) f c = λ m h.
    closed-rows L t u s e (k m) (f.1 m (has-label L u s (number L x) m h)) (c m (rw (e (number L x) (number_bound L x f.0)) h))
closed-rows L t u s e (over xs k) f c = λ x m. closed-rows L t u s e (k x) (f x m) (c x m)
closed-rows L t u s e (both p q) f c = (closed-rows L t u s e p f.0 c.0, closed-rows L t u s e q f.1 c.1)

-- ---- words behind a table

behind : (a b : Table) (r : ℕ) → length a ≤ r → get_or (a ++ b) r 0 ≡ get_or b (r - length a) 0
behind a b r h =
    let e : length a + (r - length a) ≡ r = omega arith in
    sym (ap (λ (n : ℕ). get_or (a ++ b) n 0) e) ∙ get_or-append-add a b (r - length a) 0

append-small : (L : ℕ) (a b : Table) → Small L a → Small L b → Small L (a ++ b)
append-small L a b sa sb r =
    elim (dec_lt r (length a)) [
      | yes i ↦ rw (get_or-append a b 0 r i) (sa r)
      | no d ↦ rw (behind a b r (omega arith)) (sb (r - length a))
    ]

pub append-shaped : (L : ℕ) (a b : Table) → Shaped L a → Small L b → Shaped L (a ++ b)
append-shaped L a b s sb = record { long = rw length-append (omega (arith, s.long)); small = append-small L a b s.small sb }

append-within : (a b u v : Table) → length a ≡ length u → Within a u → Within b v → Within (a ++ b) (u ++ v)
append-within a b u v e w x r l h =
    elim (dec_lt r (length a)) [
      | yes i ↦ rw (get_or-append u v 0 r (rw (← e) i)) (w r l (rw (get_or-append a b 0 r i) at h))
      | no d ↦ rw (behind u v r (rw (← e) (omega arith)), ← e) (x (r - length a) l (rw (behind a b r (omega arith)) at h))
    ]

module _ (L : ℕ) (p : Rule) (fits : Fits L p) (a b : Table) (s : Shaped L a) (sb : Small L b) where
  rows : Table
  rows = least_above L p a

  sides : (v : Table) → Within (a ++ b) v → ((r l : ℕ) → r < length a → Has rows r l → Has v r l) → Within (rows ++ b) v
  unfolding rows
  sides v w f r l h = go (dec_lt r (length a))
    where
      e : length rows ≡ length a
      e = least-length L p fits a s

      go : Dec (r < length a) → Has v r l
      go (yes i) = f r l i (rw (get_or-append rows b 0 r (rw e i)) at h)
      go (no d) = w r l (rw (behind a b r (omega arith)) (rw (behind rows b r (rw e (omega arith)), e) at h))

  pub least-append : least_above L p (a ++ b) ≡ least_above L p a ++ b
  unfolding rows
  least-append =
      let e = least-length L p fits a s in
      let sm = least-shaped L p fits a s in
      let small = append-small L rows b sm.small sb in
      sym (least-only L p fits (a ++ b) (rows ++ b) (append-shaped L a b s sb) (rw (length-append rows b, length-append a b, e)) small
      (append-within a b rows b (sym e) (least-keeps L p fits a s) (λ r l h. h))
      (closed-rows L rows (rows ++ b) small (λ r i. sym (get_or-append rows b 0 r (omega (arith, sm.long)))) p fits (least-closed L p fits a s))
      (λ v c w. sides v w (λ r l i h. least-within L p a v c (λ x k g. w x k (front x k g (dec_lt x (length a)))) r l h)))
    where
      front : (x k : ℕ) → Has a x k → Dec (x < length a) → Has (a ++ b) x k
      front x k g (yes i) = rw (get_or-append a b 0 x i) g
      front x k g (no d) = absurd (empty-off k (rw (get_or-eq_default a 0 {n = x} (omega arith)) at g))

-- ---- the number of facts

pub facts-append : (L : ℕ) (a b : Table) → row_count L ≤ length a → facts L (a ++ b) ≡ facts L a
unfolding facts
facts-append L a b h = ap (λ (ws : Table). total L ws) (take-append-le (row_count L) a b h)
