-- Programs that say the same of keys, built-in labels and functions have the same rule for each statement. Assumes nothing.
use mathlib.Core.Path.{◌≡◌, refl, ap, ◌∙◌}
use mathlib.Core.List.{List, [], ◌∷◌}
use mathlib.Core.Bool.{Bool, true, false, not}
use Prim.Native.Nat.{ℕ}
use Rattle.rows.specs.Row.{variable, property, chain, thrown}
use Rattle.rules.specs.Rule.{Rule, give, include, each, over, ◌also◌, when}
use Rattle.format.specs.Sheet.{built_in}
use Rattle.program.specs.Statement as say
use Rattle.program.specs.Program.{Program, names_of, is_function, this_of, formals_of, returns_of}
use Rattle.analysis.specs.Rules.{looking, storing, passing, entering, calling, converting, rule_of}

pub record Alike (p q : Program) : Type 0 where
  pub names_same : (key : ℕ) → names_of p.sheet key ≡ names_of q.sheet key
  pub built-in-same : (l : ℕ) → built_in p.sheet l ≡ built_in q.sheet l
  pub function-same : (f : ℕ) → is_function p.sheet f ≡ is_function q.sheet f
  pub this-same : (f : ℕ) → is_function q.sheet f ≡ true → this_of p.sheet f ≡ this_of q.sheet f
  pub formals-same : (f : ℕ) → is_function q.sheet f ≡ true → formals_of p.sheet f ≡ formals_of q.sheet f
  pub returns-same : (f : ℕ) → is_function q.sheet f ≡ true → returns_of p f ≡ returns_of q f

-- a rule under a test matters where the test holds
when-same : (a : Bool) (x y : Rule) → (a ≡ true → x ≡ y) → when a x ≡ when a y
when-same true x y h = h refl
when-same false x y h = refl

module _ (p q : Program) (same : Alike p q) where
  -- a rule for each function label
  functions-alike : (a b : ℕ → Rule) → ((f : ℕ) → is_function q.sheet f ≡ true → a f ≡ b f) → (f : ℕ)
      → when (is_function p.sheet f) (a f) ≡ when (is_function q.sheet f) (b f)
  functions-alike a b h f = ap (λ (t : Bool). when t (a f)) (same.function-same f) ∙ when-same (is_function q.sheet f) (a f) (b f) (h f)

  looking-alike : (y key l : ℕ) → looking p y key l ≡ looking q y key l
  looking-alike y key l = λ i. each (chain l) (λ m. over (same.names_same key i) (λ n. include (variable y) (property m n)))

  storing-alike : (x key a : ℕ) → storing p x key a ≡ storing q x key a
  storing-alike x key a = λ i.
      each (variable x) (λ l.
      when (not (same.built-in-same l i)) (over (same.names_same key i) (λ n. include (property l n) (variable a))))

  passing-alike : (ys args : List ℕ) → passing p ys args ≡ passing q ys args
  passing-alike [] args = refl
  passing-alike (y ∷ ys) [] = refl
  passing-alike (y ∷ ys) (a ∷ args) = λ i. include (variable y) (variable a) also passing-alike ys args i

  entering-alike : (k y t : ℕ) (args : List ℕ) (f : ℕ) → is_function q.sheet f ≡ true → entering p k y t args f ≡ entering q k y t args f
  entering-alike k y t args f h = λ i.
      include (variable (same.this-same f h i)) (variable t)
      also (ap (λ (ys : List ℕ). passing p ys args) (same.formals-same f h) ∙ passing-alike (formals_of q.sheet f) args) i
      also over (same.returns-same f h i) (λ x. include (variable y) (variable x))
      also include (thrown k) (thrown f)

  calling-alike : (k y c t : ℕ) (args : List ℕ) → calling p k y c t args ≡ calling q k y c t args
  calling-alike k y c t args = λ i.
      each (variable c) (λ f. functions-alike (entering p k y t args) (entering q k y t args) (entering-alike k y t args) f i)

  converting-alike : (k x : ℕ) → converting p k x ≡ converting q k x
  converting-alike k x = λ i.
      each (variable x) (λ l. each (chain l) (λ m. over (1 ∷ 2 ∷ []) (λ j. each (property m j) (λ f. handed f i))))
    where
      hands : ℕ → ℕ → Rule
      hands v f = include (variable v) (variable x) also include (thrown k) (thrown f)

      handed : (f : ℕ) → when (is_function p.sheet f) (hands (this_of p.sheet f) f) ≡ when (is_function q.sheet f) (hands (this_of q.sheet f) f)
      handed =
          functions-alike (λ f. hands (this_of p.sheet f) f) (λ f. hands (this_of q.sheet f) f)
          (λ f h. ap (λ (v : ℕ). hands v f) (same.this-same f h))

  pub rule-alike : (a : say.Statement) → rule_of p a ≡ rule_of q a
  rule-alike (say.named v m) = refl
  rule-alike (say.grant v b) = refl
  rule-alike (say.property l m l') = refl
  rule-alike (say.held v l) = refl
  rule-alike (say.copy k y x) = refl
  rule-alike (say.load k y x key w) = λ i.
      give (variable x) w also looking-alike y key w i also each (variable x) (λ l. looking-alike y key l i)
  rule-alike (say.store k x key a) = storing-alike x key a
  rule-alike (say.make k y l) = refl
  rule-alike (say.make_function k y l m) = refl
  rule-alike (say.call k y c t args) = calling-alike k y c t args
  rule-alike (say.new k y c t l args) = λ i.
      give (variable t) l
      also include (variable y) (variable t)
      also each (variable c) (λ f. each (chain f) (λ m. include (chain l) (property m 3)))
      also calling-alike k y c t args i
  rule-alike (say.return k x) = refl
  rule-alike (say.throw k x) = refl
  rule-alike (say.catch k y) = refl
  rule-alike (say.prim k x) = converting-alike k x
