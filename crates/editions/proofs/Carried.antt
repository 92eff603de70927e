-- Facts carried from one table to another. A rule that fits L labels names rows by what they hold, and tells of them whatever their numbers are: so a
-- fact derived with the numbers of a table for A labels is a fact, under its other number, of every table for B labels that the rule leaves as it is.
-- Assumes nothing.
use mathlib.Core.Path.{◌≡◌, sym, subst}
use mathlib.Core.Logic.{inl, inr}
use Prim.Native.Nat.{ℕ, ◌<◌, ◌≤◌}
use native.Mathlib.Nat.{le_trans}
use native.Mathlib.Omega.{arith}
use lib.ListN.{get_or}
use lib.Pow.{pow_pos, pow_mono}
use Rattle.words.proofs.Bits.{empty-off, same-labels}
use Rattle.rows.specs.Row.{Row, variable, property, chain, thrown, number, InTable}
use Rattle.rows.proofs.Number.{number-injective}
use Rattle.rules.specs.Table.{Table, Has, Small, empty_table}
use Rattle.rules.specs.Rule.{Rule, none, give, include, each, over, both}
use Rattle.rules.specs.Told.{Told, Closed, Fits, Derives, started, follows}
use Rattle.rules.proofs.Table.{empty-has}

-- a row has the number 0 in either table or in none
positive-kept : (A B : ℕ) (y : Row) → 0 < number A y → 0 < number B y
positive-kept A B (variable v) h = h
positive-kept A B (property l n) h = omega arith
positive-kept A B (chain l) h = omega arith
positive-kept A B (thrown k) h = omega arith

-- a row of a table is one of every larger table
pub row_kept : (L M : ℕ) → L ≤ M → (y : Row) → InTable L y → InTable M y
row_kept L M h (variable v) i = i
row_kept L M h (property l n) i = (omega (arith, i.0), i.1)
row_kept L M h (chain l) i = omega arith
row_kept L M h (thrown k) i = omega arith

-- row r of a table for A labels has its number from a row of the table for L labels, and t, a table for B labels, holds l in that row
pub record Carried (L A B : ℕ) (t : Table) (r l : ℕ) : Type 0 where
  pub row : Row
  pub in_table : InTable L row
  pub number_is : r ≡ number A row
  pub label : l < L
  pub held : Has t (number B row) l

module _ (L A B : ℕ) (t : Table) where
  told-carried : (u : Table) → ((y : Row) → InTable L y → (m : ℕ) → Has u (number A y) m → (m < L) × Has t (number B y) m)
      → (p : Rule) → Fits L p → Closed B t p → (r l : ℕ) → Told A u p r l → Carried L A B t r l
  told-carried u w none f c r l h = absurd h
  told-carried u w (give y m) f c r l h =
      record {
        row = y;
        in_table = f.0;
        number_is = h.1;
        label = omega (arith, h.2, f.1);
        held = subst (λ (k : ℕ). Has t (number B y) k) (sym h.2) (c (positive-kept A B y h.0));
      }
  told-carried u w (include y x) f c r l h =
      let g = w x f.1 l h.2 in
      record { row = y; in_table = f.0; number_is = h.1; label = g.0; held = c (positive-kept A B y h.0) l g.1 }
  told-carried u w (each x k) f c r l h =
      let g = w x f.0 h.0 h.1 in
      told-carried u w (k h.0) (f.1 h.0 g.0) (c h.0 g.1) r l h.2
  told-carried u w (over xs k) f c r l h = told-carried u w (k h.0) (f h.0 h.1) (c h.0 h.1) r l h.2
  told-carried u w (both p q) f c r l (inl h) = told-carried u w p f.0 c.0 r l h
  told-carried u w (both p q) f c r l (inr h) = told-carried u w q f.1 c.1 r l h

  module _ (enough : L ≤ A) where
    -- the row is the one of that number
    pub carried_row : (y : Row) (l : ℕ) → InTable A y → Carried L A B t (number A y) l → InTable L y × (l < L) × Has t (number B y) l
    carried_row y l i c =
        let e : c.row ≡ y = number-injective A c.row y (row_kept L A enough c.row c.in_table) i (sym c.number_is) in
        (subst (InTable L) e c.in_table, c.label, subst (λ (x : Row). Has t (number B x) l) e c.held)

    pub derives-carried : (p : Rule) → Fits L p → Closed B t p → (r l : ℕ) → Derives A p (empty_table A) r l → Carried L A B t r l
    derives-carried p f c r l (started h) = absurd (empty-has A r l h)
    derives-carried p f c r l (follows u d h) =
        told-carried u
        (λ y i m g.
        let k = carried_row y m (row_kept L A enough y i) (derives-carried p f c (number A y) m (d (number A y) m g)) in
        (k.1, k.2))
        p f c r l h

-- ---- the least tables of two sizes

-- a table for A labels that the rule leaves as it is, and that has derived facts only
pub record Least (A : ℕ) (p : Rule) (t : Table) : Type 0 where
  pub small : Small A t
  pub closed : Closed A t p
  pub derived : (r l : ℕ) → Has t r l → Derives A p (empty_table A) r l

module _ (L M : ℕ) (more : L ≤ M) (p : Rule) (f : Fits L p) (t u : Table) (a : Least L p t) (b : Least M p u) where
  -- a fact of the larger table stands in a row of the smaller, and there too
  down : (y : Row) (l : ℕ) → InTable M y → Has u (number M y) l → InTable L y × (l < L) × Has t (number L y) l
  down y l i h = carried_row L M L t more y l i (derives-carried L M L t more p f a.closed (number M y) l (b.derived (number M y) l h))

  up : (y : Row) (l : ℕ) → InTable L y → Has t (number L y) l → Has u (number M y) l
  up y l i h =
      let same : L ≤ L = omega arith in
      (carried_row L L M u same y l i (derives-carried L L M u same p f b.closed (number L y) l (a.derived (number L y) l h))).2

  pub row_same : (y : Row) → InTable L y → get_or u (number M y) 0 ≡ get_or t (number L y) 0
  row_same y i =
      same-labels M (get_or u (number M y) 0) (get_or t (number L y) 0) (b.small (number M y)) (le_trans (a.small (number L y)) (pow_mono more))
      (λ l h. (down y l (row_kept L M more y i) h).2) (λ l h. up y l i h)

  pub row-empty : (y : Row) → InTable M y → (InTable L y → ⊥) → get_or u (number M y) 0 ≡ 0
  row-empty y i out =
      same-labels M (get_or u (number M y) 0) 0 (b.small (number M y)) (pow_pos M)
      (λ l h. absurd (out (down y l i h).0)) (λ l h. absurd (empty-off l h))
