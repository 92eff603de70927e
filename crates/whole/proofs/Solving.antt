-- A loop of passes in place, `while again { again = pass(..) }`: its invariant, its measure, and what it ends with. Assumes nothing.
use mathlib.Core.Path.{◌≡◌}
use mathlib.Core.Bool.{Bool, true, false, true≢false}
use mathlib.Core.List.{List}
use Prim.Native.Nat.{ℕ, suc, ◌-◌, ◌<◌}
use native.Mathlib.Omega.{arith}
use Rattle.rows.specs.Edition.{labels}
use Rattle.rules.specs.Table.{Small, facts}
use Rattle.rules.specs.Rule.{Rule}
use Rattle.rules.specs.Told.{Closed, Fits}
use Rattle.rules.specs.Round.{least_above}
use Rattle.uses.specs.Use.{table_of, tells, Reached, start, Used}
use Rattle.uses.proofs.Use.{reached-on, used-closed}
use Rattle.whole.proofs.Finished.{reached-small, reached-least, facts-most, used-facts}

-- from the words t the loop came to u, and where it is not to go on, the table is closed
pub record Solving (wide : Bool) (p : Rule) (t u : List ℕ) (again : Bool) : Type 0 where
  pub small : Small (labels wide) (table_of wide u)
  pub reached : Reached wide 0 (tells wide p) t u
  pub closed : again ≡ false → Closed (labels wide) (table_of wide u) p

pub solving-start : {wide : Bool} (p : Rule) {t : List ℕ} → Small (labels wide) (table_of wide t) → Solving wide p t t true
solving-start p s = record { small = s; reached = start; closed = λ e. absurd (true≢false e) }

pub solving-next : {wide : Bool} {p : Rule} {t u v : List ℕ} {again : Bool} → Fits (labels wide) p → (grew : Bool) → Solving wide p t u again
    → Used wide 0 (tells wide p) u u v grew → Solving wide p t v grew
solving-next {p = p} f true s w =
    record { small = reached-small p f s.small w.only; reached = reached-on s.reached w.only; closed = λ e. absurd (true≢false e) }
solving-next {p = p} f false s w =
    record { small = reached-small p f s.small w.only; reached = reached-on s.reached w.only; closed = λ _. used-closed p w }

pub solving-end : {wide : Bool} {p : Rule} {t u : List ℕ} {again : Bool} → Fits (labels wide) p → Small (labels wide) (table_of wide t) → again ≡ false
    → Solving wide p t u again → table_of wide u ≡ least_above (labels wide) p (table_of wide t)
solving-end {p = p} f small e s = reached-least p f small s.reached (s.closed e)

-- the measure: the room that is left for facts
abbrev pub left : Bool → Bool → List ℕ → ℕ
left wide true t = suc (2293760 - facts (labels wide) (table_of wide t))
left wide false t = 0

pub solving-less : {wide : Bool} {p : Rule} {t u v : List ℕ} {again : Bool} → Fits (labels wide) p → (grew : Bool) → again ≡ true
    → Solving wide p t u again → Used wide 0 (tells wide p) u u v grew → left wide grew v < left wide again u
solving-less {wide} {p} {t} {u} {v} f true e s w =
    rw e (omega (arith, used-facts p f s.small w, facts-most wide (table_of wide v)))
solving-less f false e s w = rw e (omega arith)
