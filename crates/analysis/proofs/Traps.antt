-- Document 01's traps ("Listed files", last lines), each as a law of the rules that a wrong rule breaks; beside them that "every member's P" is
-- followed. A closed table is one that already holds all that the rules say of it. Assumes nothing.
use mathlib.Core.Path.{◌≡◌, refl, sym, subst}
use mathlib.Core.Logic.{inl, inr}
use mathlib.Core.List.Memᴰ
use mathlib.Core.List.{List, [], ◌∷◌, map, Memᴰ}
use mathlib.Core.Bool.{Bool, true, false, not}
use Prim.Native.Nat.{ℕ, ◌<◌}
use native.Mathlib.Omega.{arith}
use Rattle.rows.specs.Row.{number, variable, property, chain, thrown}
use Rattle.rules.specs.Table.{Table, Has}
use Rattle.rules.specs.Rule.{Rule, include, over, when, every}
use Rattle.rules.specs.Told.{Told, Closed}
use Rattle.rules.proofs.Labels.{passes-chosen}
use Rattle.format.specs.Sheet.{declared, built_in}
use Rattle.program.specs.Statement as say
use Rattle.program.specs.Program.{Program, statements, names_of, is_function, this_of, returns_of}
use Rattle.analysis.specs.Rules.{rule_of, rules}
use Rattle.analysis.proofs.Stated.{Declared}

-- what a test that holds lets through
when-closed : (L : ℕ) (t : Table) (b : Bool) (a : Rule) → b ≡ true → Closed L t (when b a) → Closed L t a
when-closed L t b a e c = rw e at c

module _ (L : ℕ) (p : Program) (t : Table) where
  statements-closed : (ss : List (ℕ × say.Statement))
      → Closed L t (every (map (λ (r : ℕ × Rule). r.1) (map (λ (a : ℕ × say.Statement). (a.0, rule_of p a.1)) ss)))
      → (at : ℕ) (a : say.Statement) → Memᴰ (at, a) ss → Closed L t (rule_of p a)
  statements-closed [] c at a i = absurd (Memᴰ.not-nil i)
  statements-closed (b ∷ ss) c at a i =
      elim (Memᴰ.cases_cons i) [
        | inl e ↦ subst (λ (x : ℕ × say.Statement). Closed L t (rule_of p x.1)) (sym e) c.0
        | inr j ↦ statements-closed ss c.1 at a j
      ]

  module _ (c : Closed L t (rules L p)) where
    -- a table that is closed for all rules is closed for those of each statement
    pub statement-closed : (at : ℕ) (a : say.Statement) → Memᴰ (at, a) (statements p) → Closed L t (rule_of p a)
    unfolding rules
    statement-closed = statements-closed (statements p) c.1.1

    -- an object stands on its own chain
    pub own-chain : (l : ℕ) → l < L → Declared p.sheet l → Has t (number L (chain l)) l
    unfolding rules
    own-chain l h d = (c.0 l (passes-chosen (declared p.sheet) L l h d)).0 (omega arith)

    -- "with every member's P"
    pub member-chain : (l m x : ℕ) → l < L → Declared p.sheet l → Has t (number L (chain l)) m → Has t (number L (chain m)) x
        → Has t (number L (chain l)) x
    unfolding rules
    member-chain l m x h d on next = (c.0 l (passes-chosen (declared p.sheet) L l h d)).1.1 m on (omega arith) x next

-- ---- a load: w is held by the object, and looked up whatever the object is, object 0 too

pub load-holds : (L : ℕ) (p : Program) (t : Table) (k y x key w : ℕ) → Closed L t (rule_of p (say.load k y x key w)) → 0 < x → Has t x w
load-holds L p t k y x key w c h = c.0 h

pub load-from-w : (L : ℕ) (p : Program) (t : Table) (k y x key w : ℕ) → Closed L t (rule_of p (say.load k y x key w)) → 0 < y → (m n v : ℕ)
    → Has t (number L (chain w)) m → Memᴰ n (names_of p.sheet key) → Has t (number L (property m n)) v → Has t y v
load-from-w L p t k y x key w c h m n v on i held = c.1.0 m on n i h v held

-- ---- a store: it lands on no built-in label

pub store-spares : (L : ℕ) (p : Program) (t : Table) (k x key a r v : ℕ) → Told L t (rule_of p (say.store k x key a)) r v
    → (l n : ℕ) × (r ≡ number L (property l n)) × (built_in p.sheet l ≡ false)
store-spares L p t k x key a r v h = go (built_in p.sheet h.0) refl h.2
  where
    go : (b : Bool) → built_in p.sheet h.0 ≡ b → Told L t (when (not b) (over (names_of p.sheet key) (λ n. include (property h.0 n) (variable a)))) r v
        → (l n : ℕ) × (r ≡ number L (property l n)) × (built_in p.sheet l ≡ false)
    go true e q = absurd q
    go false e q = (h.0, q.0, q.2.1, e)

-- ---- a call: its returns and throws do not hang on an argument

pub call_returns : (L : ℕ) (p : Program) (t : Table) (k y c this : ℕ) (args : List ℕ) → Closed L t (rule_of p (say.call k y c this args)) → 0 < y
    → (f x v : ℕ) → is_function p.sheet f ≡ true → Has t c f → Memᴰ x (returns_of p f) → Has t x v → Has t y v
call_returns L p t k y c this args closed h f x v is on i held = (when-closed L t (is_function p.sheet f) _ is (closed f on)).1.1.0 x i h v held

pub call-throws : (L : ℕ) (p : Program) (t : Table) (k y c this : ℕ) (args : List ℕ) → Closed L t (rule_of p (say.call k y c this args))
    → (f v : ℕ) → is_function p.sheet f ≡ true → Has t c f → Has t (number L (thrown f)) v → Has t (number L (thrown k)) v
call-throws L p t k y c this args closed f v is on held = (when-closed L t (is_function p.sheet f) _ is (closed f on)).1.1.1 (omega arith) v held

-- ---- prim: the this variable of what is called includes S(object), all of it

pub prim-this : (L : ℕ) (p : Program) (t : Table) (k x : ℕ) → Closed L t (rule_of p (say.prim k x)) → (l m n f v : ℕ) → Memᴰ n (1 ∷ 2 ∷ [])
    → is_function p.sheet f ≡ true → 0 < this_of p.sheet f → Has t x l → Has t (number L (chain l)) m → Has t (number L (property m n)) f → Has t x v
    → Has t (this_of p.sheet f) v
prim-this L p t k x c l m n f v i is h on next called held =
    (when-closed L t (is_function p.sheet f) _ is (c l on m next n i f called)).0 h v held
