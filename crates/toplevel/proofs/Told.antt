-- A return at top level tells nothing: no rule asks for what label 0 returns, and the rule of the statement itself is none. So the least table and the
-- check's gap are those of the program without it. Assumes nothing.
use mathlib.Core.Path.{◌≡◌, refl, sym, ap, fun_ext, ◌∙◌}
use mathlib.Core.List.{List, [], ◌∷◌, ◌++◌, map, map-append}
use mathlib.Core.Bool.{true}
use Prim.Native.Nat.{ℕ}
use borrow.Author.Tests.{eqb-true, ne_eqb}
use Rattle.rules.specs.Table.{Table, empty_table}
use Rattle.rules.specs.Rule.{Rule, none, over, ◌also◌, every}
use Rattle.rules.specs.Round.{fire, round, enough_rounds, least_above}
use Rattle.rules.specs.Gap.{gap_below, gap}
use Rattle.rules.proofs.Alike.{fire-none, gap-none, settle-same}
use Rattle.format.specs.Sheet.{type_of}
use Rattle.program.specs.Statement as say
use Rattle.program.specs.Program.{Program, statements, is_function, returned_by, returns_in, returns_of}
use Rattle.analysis.specs.Rules.{rule_of, chain_rule, declared_labels, guest_chains, rules}
use Rattle.analysis.specs.Verdict.{least_table}
use Rattle.analysis.proofs.Alike.{Alike, rule-alike}
use Rattle.toplevel.proofs.Bare.{bare, with_host, Among, earlier, bare-with, bare-without}

-- ---- what functions return, positions aside

unfoldable pub returns_among : ℕ → List say.Statement → List ℕ
returns_among f [] = []
returns_among f (s ∷ ss) = returned_by f s ++ returns_among f ss

pub returns-bare : (f : ℕ) (ss : List (ℕ × say.Statement)) → returns_in f ss ≡ returns_among f (bare ss)
unfolding returns_in returns_among
returns-bare f [] = refl
returns-bare f (s ∷ ss) = ap (λ (vs : List ℕ). returned_by f s.1 ++ vs) (returns-bare f ss)

-- a return in scope 0 is none of f's
returns-other : (f v : ℕ) → (f ≡ 0 → ⊥) → (xs ys : List say.Statement) → returns_among f (xs ++ (say.return 0 v ∷ ys)) ≡ returns_among f (xs ++ ys)
unfolding returns_among
returns-other f v n [] ys = rw (ne_eqb 0 f (λ e. n (sym e)))
returns-other f v n (a ∷ xs) ys = ap (λ (vs : List ℕ). returned_by f a ++ vs) (returns-other f v n xs ys)

-- ---- the rules of a list of statements, positions aside

every-bare : (g : say.Statement → Rule) (ss : List (ℕ × say.Statement))
    → every (map (λ (r : ℕ × Rule). r.1) (map (λ (s : ℕ × say.Statement). (s.0, g s.1)) ss)) ≡ every (map g (bare ss))
every-bare g [] = refl
every-bare g (s ∷ ss) = ap (λ (r : Rule). g s.1 also r) (every-bare g ss)

-- the chains, and behind them the rules of the statements
abbrev pub chained : ℕ → Program → Rule → Rule
chained L p r = over (declared_labels L p.sheet) (chain_rule p.sheet) also guest_chains p.guests also r

pub rules-bare : (L : ℕ) (p : Program) → rules L p ≡ chained L p (every (map (rule_of p) (bare (statements p))))
unfolding rules
rules-bare L p = ap (chained L p) (every-bare (rule_of p) (statements p))

-- ---- the two programs

module _ (q : Program) (h : List (ℕ × say.Statement)) (a : Among q h) (plain : type_of q.sheet 0 ≡ 2 → ⊥) where
  abbrev p : Program
  p = with_host q h

  -- the rules ask for the returns of functions alone
  returns-same : (f : ℕ) → is_function q.sheet f ≡ true → returns_of p f ≡ returns_of q f
  unfolding returns_of
  returns-same f e =
      returns-bare f (statements p) ∙ ap (returns_among f) (bare-with q h a)
      ∙ returns-other f a.value (λ z. plain (eqb-true (type_of q.sheet 0) 2 (rw z at e))) (earlier q h a) a.back
      ∙ sym (returns-bare f (statements q) ∙ ap (returns_among f) (bare-without q h a))

  alike : Alike p q
  alike =
      record {
        names_same = λ key. refl;
        built-in-same = λ l. refl;
        function-same = λ f. refl;
        this-same = λ f e. refl;
        formals-same = λ f e. refl;
        returns-same = returns-same;
      }

  before : List Rule
  before = map (rule_of q) (earlier q h a)

  behind : List Rule
  behind = map (rule_of q) a.back

  rules-without : (L : ℕ) → rules L q ≡ chained L q (every (before ++ behind))
  unfolding before behind
  rules-without L =
      rules-bare L q
      ∙ ap (chained L q)
      (ap (λ (ss : List say.Statement). every (map (rule_of q) ss)) (bare-without q h a)
      ∙ ap every (map-append (rule_of q) (earlier q h a) a.back))

  rules-with : (L : ℕ) → rules L p ≡ chained L q (every (before ++ (none ∷ behind)))
  unfolding before behind
  rules-with L =
      rules-bare L p
      ∙ ap (chained L q)
      (ap (λ (g : say.Statement → Rule). every (map g (bare (statements p)))) (fun_ext (rule-alike p q alike))
      ∙ ap (λ (ss : List say.Statement). every (map (rule_of q) ss)) (bare-with q h a)
      ∙ ap every (map-append (rule_of q) (earlier q h a) (say.return 0 a.value ∷ a.back)))

  round_same : (L : ℕ) (t : Table) → round L (rules L p) t ≡ round L (rules L q) t
  unfolding round fire
  round_same L t =
      ap (λ (r : Rule). round L r t) (rules-with L) ∙ fire-none L t before behind _ ∙ sym (ap (λ (r : Rule). round L r t) (rules-without L))

  pub least-same : (L : ℕ) → least_table L p ≡ least_table L q
  unfolding least_table least_above
  least-same L = settle-same L (rules L p) (rules L q) (round_same L) (enough_rounds L) (empty_table L)

  pub gap_same : (L : ℕ) (t : Table) → gap L t (rules L p) ≡ gap L t (rules L q)
  unfolding gap gap_below
  gap_same L t =
      ap (gap L t) (rules-with L) ∙ gap-none L t before behind _ ∙ sym (ap (gap L t) (rules-without L))
