-- What soundness asks of a table and a program: the table holds what each rule says, and the program's statements and start are as reading leaves
-- them. Readable.antt has it for every readable file. Assumes nothing.
use mathlib.Core.Path.{◌≡◌, refl, subst}
use mathlib.Core.Logic.{◌⊎◌, inl, inr}
use mathlib.Core.List.{List, [], ◌∷◌, Memᴰ}
use mathlib.Core.Bool.{Bool, true, false, cond}
use Prim.Native.Nat.{ℕ, zero, suc, ◌<◌}
use native.Mathlib.Omega.{arith}
use Rattle.rows.specs.Row.{chain}
use Rattle.rules.specs.Rule.{Rule, give, over, when}
use Rattle.rules.specs.Told.{Closed}
use Rattle.rules.specs.Table.{Table, Has}
use Rattle.format.specs.Sheet.{type_of}
use Rattle.program.specs.Statement as say
use Rattle.program.specs.Program.{Program, statements}
use Rattle.analysis.specs.Rules.{rule_of, chain_rule, parents_of}
use Rattle.machine.specs.State.{Object}
use Rattle.machine.specs.Variable.{place_of, named}
use Rattle.machine.specs.Property.{prototype_of_type, is_guest, prototype_for}
use Rattle.machine.specs.Start.{start_labels}
use Rattle.soundness.proofs.States.{Declared}
use Rattle.soundness.specs.Described.{P, Allowed, primitive-allowed, object-allowed, FirstObjects}

-- the labels that a statement makes objects of, or fills the start with, are declared; new has a variable for the object, whose label is of type 1 or a guest's
abbrev pub Sensible : Program → say.Statement → Type 0
Sensible p (say.named v n) = Unit {0}
Sensible p (say.grant v b) = Unit {0}
Sensible p (say.property l n m) = Declared p l × Declared p m
Sensible p (say.held v l) = Declared p l
Sensible p (say.copy k y x) = Unit {0}
Sensible p (say.load k y x key w) = Declared p w
Sensible p (say.store k x key a) = Unit {0}
Sensible p (say.make k y l) = Declared p l
Sensible p (say.make_function k y l q) = Declared p l × Declared p q
Sensible p (say.call k y c t args) = Unit {0}
Sensible p (say.new k y c t l args) = (0 < t) × Declared p l × ((type_of p.sheet l ≡ 1) ⊎ (is_guest p.guests l ≡ true))
Sensible p (say.return k x) = Unit {0}
Sensible p (say.throw k x) = Unit {0}
Sensible p (say.catch k y) = Unit {0}
Sensible p (say.prim k x) = Unit {0}

-- "1, 2 and 4 for label 3"
abbrev pub guest_chain : ℕ → Rule
guest_chain l = over (1 ∷ 2 ∷ 4 ∷ []) (λ m. give (chain l) m)

pub record Setting (L : ℕ) (t : Table) (p : Program) : Type 0 where
  -- the table holds what each statement's rule says
  pub rule : (at : ℕ) (a : say.Statement) → Memᴰ (at, a) (statements p) → Closed L t (rule_of p a)
  pub sensible : (at : ℕ) (a : say.Statement) → Memᴰ (at, a) (statements p) → Sensible p a
  -- and, of a variable that is found by its name, what the name's rule says
  pub name-rule : (v n : ℕ) → place_of p v ≡ named n → Closed L t (rule_of p (say.named v n))
  -- and the P line
  pub chain-rule : (l : ℕ) → Declared p l → Closed L t (chain_rule p.sheet l)
  pub guest-rule : (l : ℕ) → is_guest p.guests l ≡ true → Closed L t (guest_chain l)
  -- every label of the start is declared
  pub start-declared : (l : ℕ) → Memᴰ l (start_labels p) → Declared p l

pub when-closed : (L : ℕ) (t : Table) (b : Bool) (r : Rule) → b ≡ true → Closed L t (when b r) → Closed L t r
when-closed L t true r e c = c
when-closed L t false r e c = let z : ◌≡◌ {A = ℕ} 0 1 = cc in absurd (omega arith)

-- ---- what the P line says of prototypes

module _ {t : Table} {os : List Object} (first : FirstObjects os) where
  pub object-on : {r : ℕ} → Has t r 1 → Allowed t os r (prototype_of_type 1)
  object-on h = object-allowed 0 (omega (arith, first.four)) (rw first.object-label h)

  pub function-on : {r : ℕ} → Has t r 2 → Allowed t os r (prototype_of_type 2)
  function-on h = object-allowed 2 (omega (arith, first.four)) (rw first.function-label h)

  pub array-on : {r : ℕ} → Has t r 4 → Allowed t os r (prototype_of_type 3)
  array-on h = object-allowed 3 (omega (arith, first.four)) (rw first.array-label h)

  pub type-prototype : (L k l : ℕ) → Closed L t (over (parents_of k) (λ m. give (chain l) m)) → Allowed t os (P L l) (prototype_of_type k)
  type-prototype L zero l c = primitive-allowed
  type-prototype L (suc zero) l c = object-on (c 1 (Memᴰ.head refl) (omega arith))
  type-prototype L (suc (suc zero)) l c = function-on (c 2 (Memᴰ.head refl) (omega arith))
  type-prototype L (suc (suc (suc k))) l c = array-on (c 4 (Memᴰ.head refl) (omega arith))

  guest-prototype : (L c l : ℕ) → Closed L t (guest_chain l) → Allowed t os (P L l) (prototype_of_type (suc c))
  guest-prototype L zero l c = object-on (c 1 (Memᴰ.head refl) (omega arith))
  guest-prototype L (suc zero) l c = function-on (c 2 (Memᴰ.tail (Memᴰ.head refl)) (omega arith))
  guest-prototype L (suc (suc k)) l c = array-on (c 4 (Memᴰ.tail (Memᴰ.tail (Memᴰ.head refl))) (omega arith))

  -- the prototype of what is made, unless by new
  pub made-prototype : {L : ℕ} {p : Program} → Setting L t p → (l c : ℕ) → Declared p l → Allowed t os (P L l) (prototype_for p l c)
  made-prototype {L} {p} w l c d = go (is_guest p.guests l) refl
    where
      go : (b : Bool) → is_guest p.guests l ≡ b → Allowed t os (P L l) (cond b (prototype_of_type (suc c)) (prototype_of_type (type_of p.sheet l)))
      go true e = guest-prototype L c l (w.guest-rule l e)
      go false e = type-prototype L (type_of p.sheet l) l (w.chain-rule l d).1.0

-- label 1 is on the chain of what new makes
pub object-on-chain : {L : ℕ} {t : Table} {p : Program} → Setting L t p → (l : ℕ) → Declared p l → (type_of p.sheet l ≡ 1) ⊎ (is_guest p.guests l ≡ true)
    → Has t (P L l) 1
object-on-chain {L} {t} w l d (inl e) =
    subst (λ (k : ℕ). Closed L t (over (parents_of k) (λ m. give (chain l) m))) e (w.chain-rule l d).1.0 1 (Memᴰ.head refl) (omega arith)
object-on-chain w l d (inr e) = w.guest-rule l e 1 (Memᴰ.head refl) (omega arith)
