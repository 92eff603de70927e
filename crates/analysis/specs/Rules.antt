-- The rules (document 01, "The rules"), each written once, beside the paper's line. S(v) is `variable v`, H(l,n) `property l n`, P(l) `chain l`,
-- T(k) `thrown k`; a conclusion in S(0) is dropped (crate rules). L is the number of labels. Assumes nothing.
use Rattle.std.specs.Prelude.{List, [], ◌∷◌, map, not, ℕ, zero, suc}
use Rattle.rows.specs.Row.{variable, property, chain, thrown}
use Rattle.rules.specs.Rule.{Rule, none, give, include, each, over, ◌also◌, when, every, chosen}
use Rattle.format.specs.Sheet.{Sheet, type_of, declared, built_in}
use Rattle.program.specs.Statement as say
use Rattle.program.specs.Program.{Program, Guest, no_record_position, statements, names_of, is_function, this_of, formals_of, returns_of}

module _ (p : Program) where
  -- what a load from an object of label l finds: "m in its P, n of the key, S(y) includes H(m,n)"
  abbrev pub looking : ℕ → ℕ → ℕ → Rule
  looking y key l = let ns = names_of p.sheet key in each (chain l) (λ m. over ns (λ n. include (variable y) (property m n)))

  -- 17: "S(object) holds w; for w and each l in S(object) .."
  abbrev pub loading : ℕ → ℕ → ℕ → ℕ → Rule
  loading y x key w = give (variable x) w also looking y key w also each (variable x) (λ l. looking y key l)

  -- 18: "for l in S(object) not built-in, n of the key, H(l,n) includes S(value)"
  abbrev pub storing : ℕ → ℕ → ℕ → Rule
  storing x key a =
      let ns = names_of p.sheet key in
      each (variable x) (λ l. when (not (built_in p.sheet l)) (over ns (λ n. include (property l n) (variable a))))

  -- "each formal S(the argument)"
  abbrev pub passing : List ℕ → List ℕ → Rule
  passing [] args = none
  passing (y ∷ ys) [] = none
  passing (y ∷ ys) (a ∷ args) = include (variable y) (variable a) also passing ys args

  -- function f called in scope k with variable t as this: "its this variable includes S(this), each formal S(the argument), S(y) includes S(value)
  -- of each return in scope f, T(k) includes T(f)"
  abbrev pub entering : ℕ → ℕ → ℕ → List ℕ → ℕ → Rule
  entering k y t args f =
      include (variable (this_of p.sheet f)) (variable t)
      also passing (formals_of p.sheet f) args
      also over (returns_of p f) (λ x. include (variable y) (variable x))
      also include (thrown k) (thrown f)

  -- 21: "for each function label f in S(callee)"
  abbrev pub calling : ℕ → ℕ → ℕ → ℕ → List ℕ → Rule
  calling k y c t args = each (variable c) (λ f. when (is_function p.sheet f) (entering k y t args f))

  -- 22: "S(t) holds l; S(y) includes S(t); P(l) includes H(m,3) for every m on the chain of a label in S(callee); then as 21 with t as this"
  abbrev pub making : ℕ → ℕ → ℕ → ℕ → ℕ → List ℕ → Rule
  making k y c t l args =
      give (variable t) l
      also include (variable y) (variable t)
      also each (variable c) (λ f. each (chain f) (λ m. include (chain l) (property m 3)))
      also calling k y c t args

  -- 26: "for each function label f in H(m,1) or H(m,2), m on the object's chains: f's this variable includes S(object), T(k) includes T(f)"
  abbrev pub converting : ℕ → ℕ → Rule
  converting k x =
      each (variable x) (λ l. each (chain l) (λ m. over (1 ∷ 2 ∷ []) (λ n. each (property m n) (λ f.
      when (is_function p.sheet f) (include (variable (this_of p.sheet f)) (variable x) also include (thrown k) (thrown f))))))

  -- the rules of each statement
  abbrev pub rule_of : say.Statement → Rule
  rule_of (say.named v n) = include (variable v) (property 0 n) also include (property 0 n) (variable v)  -- "S(v) = H(0,n)"
  rule_of (say.grant v b) = include (variable b) (variable v) also include (variable v) (variable b)  -- "copies between v and 1 each way"
  rule_of (say.property l n m) = give (property l n) m  -- 7: "H(l,n) holds l'"
  rule_of (say.held v l) = give (variable v) l  -- 8: "S(v) holds l"
  rule_of (say.copy k y x) = include (variable y) (variable x)  -- 16: "S(y) includes S(source)"
  rule_of (say.load k y x key w) = loading y x key w
  rule_of (say.store k x key a) = storing x key a
  rule_of (say.make k y l) = give (variable y) l  -- 19: "S(y) holds l"
  rule_of (say.make_function k y l q) = give (variable y) l also give (property l 3) q  -- 20: "also H(l,3) holds q"
  rule_of (say.call k y c t args) = calling k y c t args
  rule_of (say.new k y c t l args) = making k y c t l args
  rule_of (say.return k x) = none  -- 23: its facts are the call's
  rule_of (say.throw k x) = include (thrown k) (variable x)  -- 24: "T(k) includes S(value)"
  rule_of (say.catch k y) = include (variable y) (thrown k)  -- 25: "S(y) includes T(k)"
  rule_of (say.prim k x) = converting k x

-- "1 for type 1, 2 for type 2, 4 for type 3"; labels 0, 2 and 4 are of type 1
abbrev pub parents_of : ℕ → List ℕ
parents_of zero = []
parents_of (suc zero) = 1 ∷ []
parents_of (suc (suc zero)) = 2 ∷ []
parents_of (suc (suc (suc t))) = 4 ∷ []

-- "P(l) holds l for each declared l, with every member's P"
abbrev pub chain_rule : Sheet → ℕ → Rule
chain_rule s l =
    give (chain l) l
    also over (parents_of (type_of s l)) (λ m. give (chain l) m)
    also each (chain l) (λ m. include (chain l) (chain m))

-- the declared labels, ascending
abbrev pub declared_labels : ℕ → Sheet → List ℕ
declared_labels L s = chosen (declared s) L

-- "1, 2 and 4 for label 3"
abbrev pub guest_chains : List Guest → Rule
guest_chains [] = none
guest_chains (g ∷ gs) = over (1 ∷ 2 ∷ 4 ∷ []) (λ m. give (chain g.label) m) also guest_chains gs

-- every rule of the file with the position of its record; "the P line and the guest's rules, grants apart, belong to no record"
abbrev pub rules_at : ℕ → Program → List (ℕ × Rule)
rules_at L p =
    (no_record_position, over (declared_labels L p.sheet) (chain_rule p.sheet))
    ∷ (no_record_position, guest_chains p.guests)
    ∷ map (λ s. (s.0, rule_of p s.1)) (statements p)

-- all of them
unfoldable pub rules : ℕ → Program → Rule
rules L p = every (map (λ r. r.1) (rules_at L p))
