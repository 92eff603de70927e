-- The labels that the rules of a readable file tell are declared, where the table holds declared labels only. Assumes nothing.
use mathlib.Core.Path.{sym, subst}
use mathlib.Core.Logic.{inl, inr}
use mathlib.Core.List.{List, [], ◌∷◌, map, Memᴰ}
use mathlib.Core.Bool.{Bool, true, false, not}
use Prim.Native.Nat.{ℕ, ◌<◌}
use Rattle.rows.specs.Row.{number, row_count}
use Rattle.rules.specs.Table.{Table, Has, Small}
use Rattle.rules.specs.Rule.{Rule, none, give, include, each, over, both, when, every}
use Rattle.rules.specs.Told.{Told}
use Rattle.rules.proofs.Told.{told-row}
use Rattle.rules.proofs.Labels.{chosen-passes}
use Rattle.format.specs.Sheet.{type_of, declared, built_in}
use Rattle.program.specs.Statement as say
use Rattle.program.specs.Program.{Program, Guest, statements, is_function, formals_of}
use Rattle.analysis.specs.Rules.{passing, calling, rule_of, chain_rule, guest_chains, rules}
use Rattle.analysis.proofs.Stated.{Declared, Stated, AllStated}
use Rattle.analysis.proofs.Proper.{Proper}
use Rattle.analysis.proofs.Fit.{all-parents, all_three, proper-fits}

-- the labels that a rule gives of itself are in D, where those that it finds in the table are
abbrev pub Names : (ℕ → Type 0) → Rule → Type 0
Names D none = Unit {0}
Names D (give y m) = D m
Names D (include y x) = Unit {0}
Names D (each x k) = (m : ℕ) → D m → Names D (k m)
Names D (over xs k) = (x : ℕ) → Memᴰ x xs → Names D (k x)
Names D (both p q) = Names D p × Names D q

-- every label of the table is in D
abbrev pub Only : (ℕ → Type 0) → Table → Type 0
Only D t = (r l : ℕ) → Has t r l → D l

pub told_names : (D : ℕ → Type 0) (L : ℕ) (t : Table) → Only D t → (p : Rule) → Names D p → (r l : ℕ) → Told L t p r l → D l
told_names D L t o none n r l h = absurd h
told_names D L t o (give y m) n r l h = subst D (sym h.2) n
told_names D L t o (include y x) n r l h = o (number L x) l h.2
told_names D L t o (each x k) n r l h = told_names D L t o (k h.0) (n h.0 (o (number L x) h.0 h.1)) r l h.2
told_names D L t o (over xs k) n r l h = told_names D L t o (k h.0) (n h.0 h.1) r l h.2
told_names D L t o (both p q) n r l (inl h) = told_names D L t o p n.0 r l h
told_names D L t o (both p q) n r l (inr h) = told_names D L t o q n.1 r l h

-- ---- the rules of a program

when-names : (D : ℕ → Type 0) (b : Bool) (a : Rule) → Names D a → Names D (when b a)
when-names D true a n = n
when-names D false a n = tt

module _ (L : ℕ) (p : Program) (o : Proper L p) where
  D : ℕ → Type 0
  D = Declared p.sheet

  passing-names : (ys args : List ℕ) → Names D (passing p ys args)
  passing-names [] args = tt
  passing-names (y ∷ ys) [] = tt
  passing-names (y ∷ ys) (a ∷ args) = (tt, passing-names ys args)

  calling-names : (k y c t : ℕ) (args : List ℕ) → Names D (calling p k y c t args)
  calling-names k y c t args = λ f d.
      when-names D (is_function p.sheet f) _ (tt, (passing-names (formals_of p.sheet f) args, ((λ x i. tt), tt)))

  rule-names : (a : say.Statement) → Stated p.sheet a → Names D (rule_of p a)
  unfolding D
  rule-names (say.named v n) h = (tt, tt)
  rule-names (say.grant v b) h = (tt, tt)
  rule-names (say.property l n m) h = h.2
  rule-names (say.held v l) h = h.1
  rule-names (say.copy k y x) h = tt
  rule-names (say.load k y x key w) h = (h.4, ((λ m d n i. tt), λ l d m e n i. tt))
  rule-names (say.store k x key a) h = λ l d. when-names D (not (built_in p.sheet l)) _ (λ n i. tt)
  rule-names (say.make k y l) h = h.2
  rule-names (say.make_function k y l q) h = (h.2, h.3)
  rule-names (say.call k y c t args) h = calling-names k y c t args
  rule-names (say.new k y c t l args) h = (h.4, (tt, ((λ f d m e. tt), calling-names k y c t args)))
  rule-names (say.return k x) h = tt
  rule-names (say.throw k x) h = tt
  rule-names (say.catch k y) h = tt
  rule-names (say.prim k x) h = λ l d m e n i f g. when-names D (is_function p.sheet f) _ (tt, tt)

  statements-name : (ss : List (ℕ × say.Statement)) → AllStated p.sheet ss
      → Names D (every (map (λ (r : ℕ × Rule). r.1) (map (λ (a : ℕ × say.Statement). (a.0, rule_of p a.1)) ss)))
  statements-name [] h = tt
  statements-name (a ∷ ss) h = (rule-names a.1 h.0, statements-name ss h.1)

  guests-name : (gs : List Guest) → Names D (guest_chains gs)
  unfolding D
  guests-name [] = tt
  guests-name (g ∷ gs) =
      ((λ m i. all_three (Declared p.sheet) o.object-declared o.function-declared o.array-declared m i), guests-name gs)

  chain-names : (l : ℕ) → D l → Names D (chain_rule p.sheet l)
  unfolding D
  chain-names l d = (
    d,
    ((λ m i. all-parents (Declared p.sheet) o.object-declared o.function-declared o.array-declared (type_of p.sheet l) m i), λ m e. tt),
  )

  pub rules-name : Names (Declared p.sheet) (rules L p)
  unfolding rules D
  rules-name =
      ((λ l i. chain-names l (chosen-passes (declared p.sheet) L l i).1), (guests-name p.guests, statements-name (statements p) o.all-stated))

  -- every label told of a table that holds declared labels only is declared
  pub told-declared : (t : Table) → Only (Declared p.sheet) t → (r l : ℕ) → Told L t (rules L p) r l → Declared p.sheet l
  told-declared t only = told_names (Declared p.sheet) L t only (rules L p) rules-name

  -- nothing is told of row 0, nor beyond the rows
  pub told-in-rows : (t : Table) → Small L t → (r l : ℕ) → Told L t (rules L p) r l → (0 < r) × (r < row_count L)
  told-in-rows t small = told-row L t small (rules L p) (proper-fits L p o)
