-- The rules of the two programs: a table that is closed under document 01's is closed under those of the guest that is held, and where its class has every
-- name they are the same rules. Assumes nothing.
use mathlib.Core.Path.{◌≡◌, refl, sym, ap, subst, fun_ext, ◌∙◌}
use mathlib.Core.List.{List, ◌++◌, map, Memᴰ}
use mathlib.Core.Bool.{Bool, true, false, not}
use Prim.Native.Nat.{ℕ, ◌+◌}
use lib.ListN.{drop}
use Rattle.layout.specs.Key.{inside}
use Rattle.rows.specs.Row.{variable, property, chain}
use Rattle.rules.specs.Table.{Table}
use Rattle.rules.specs.Rule.{Rule, give, include, each, over, ◌also◌, when, every}
use Rattle.rules.specs.Told.{Closed}
use Rattle.format.specs.Sheet.{Sheet, built_in}
use Rattle.program.specs.Statement as say
use Rattle.program.specs.Statement.{bag}
use Rattle.program.specs.Program.{Guest, Program, function_made, guest_statements, in_class, names_of, statements, returns_of}
use Rattle.program.proofs.Held.{made-either}
use Rattle.analysis.specs.Rules.{rule_of, rules}
use Rattle.analysis.proofs.Alike.{Alike, rule-alike}
use Rattle.toplevel.proofs.Bare.{bare}
use Rattle.toplevel.proofs.Told.{returns_among, returns-bare, chained, rules-bare}
use Rattle.profiles.specs.Profiles.{free_guest, held_guest}
use Rattle.profiles.proofs.Guest.{guest_by, free_program, held_program, free-statements, held-statements, guest-returns}

-- ---- rules of fewer names

-- the guest's load and its store, with the names of its key
abbrev finds : List ℕ → ℕ → Rule
finds ns l = each (chain l) (λ m. over ns (λ n. include (variable bag) (property m n)))

abbrev loads : List ℕ → Rule
loads ns = give (variable bag) 3 also finds ns 3 also each (variable bag) (λ l. finds ns l)

abbrev puts : Bool → List ℕ → ℕ → Rule
puts fixed ns l = when (not fixed) (over ns (λ n. include (property l n) (variable bag)))

abbrev stores : Sheet → List ℕ → Rule
stores s ns = each (variable bag) (λ l. puts (built_in s l) ns l)

-- what is closed under those of more names is closed under these
module _ (L : ℕ) (t : Table) (ns ms : List ℕ) (within : (n : ℕ) → Memᴰ n ns → Memᴰ n ms) where
  loads-fewer : Closed L t (loads ms) → Closed L t (loads ns)
  loads-fewer c = (c.0, ((λ m h n i. c.1.0 m h n (within n i)), λ l g m h n i. c.1.1 l g m h n (within n i)))

  stores-fewer : (s : Sheet) → Closed L t (stores s ms) → Closed L t (stores s ns)
  stores-fewer s c l g = go (built_in s l) (c l g)
    where
      go : (b : Bool) → Closed L t (puts b ms l) → Closed L t (puts b ns l)
      go true h = h
      go false h = λ n i. h n (within n i)

-- ---- the two programs

module _ (s : Sheet) (c : ℕ) (h k : List (ℕ × say.Statement)) (same : bare k ≡ bare h) where
  abbrev free : Program
  free = free_program s h

  abbrev held : Program
  held = held_program s c k

  returns-same : (f : ℕ) → returns_of held f ≡ returns_of free f
  unfolding returns_of
  returns-same f =
      returns-bare f (statements held) ∙ ap (returns_among f) (held-statements s c h k same) ∙ guest-returns f (held_guest s c) (bare h)
      ∙ sym (returns-bare f (statements free) ∙ ap (returns_among f) (free-statements s h) ∙ guest-returns f (free_guest s) (bare h))

  alike : Alike held free
  unfolding names_of
  alike =
      record {
        names_same = λ key. refl;
        built-in-same = λ l. refl;
        function-same = λ f. refl;
        this-same = λ f e. refl;
        formals-same = λ f e. refl;
        returns-same = λ f e. returns-same f;
      }

  -- the guest's first three statements, by the rule of the first and the names of its key, and behind them all others
  abbrev others : Rule
  others = every (map (rule_of free) (drop 3 (guest_statements (free_guest s) ++ bare h)))

  abbrev ruled : Rule → List ℕ → Rule
  ruled made ns = made also loads ns also stores s ns also others

  abbrev made_by : Guest → Rule
  made_by g = rule_of free (function_made g)

  rules-free : (L : ℕ) → rules L free ≡ chained L free (ruled (made_by (free_guest s)) (names_of s inside))
  unfolding guest_statements
  rules-free L = rules-bare L free ∙ ap (λ (ss : List say.Statement). chained L free (every (map (rule_of free) ss))) (free-statements s h)

  rules-held : (L : ℕ) → rules L held ≡ chained L free (ruled (made_by (held_guest s c)) (names_of s (inside + c)))
  unfolding guest_statements
  rules-held L =
      rules-bare L held
      ∙ ap (λ (f : say.Statement → Rule). chained L held (every (map f (bare (statements held))))) (fun_ext (rule-alike held free alike))
      ∙ ap (λ (ss : List say.Statement). chained L held (every (map (rule_of free) ss))) (held-statements s c h k same)

  -- ---- fewer

  module _ (within : (n : ℕ) → Memᴰ n (names_of s (inside + c)) → Memᴰ n (names_of s inside)) where
    made-fewer : (L : ℕ) (t : Table) → Closed L t (made_by (free_guest s)) → Closed L t (made_by (held_guest s c))
    made-fewer L t e = made-either (λ (a : say.Statement). Closed L t (rule_of free a)) (held_guest s c) e e.0

    -- a table that is closed under document 01's rules is closed under these
    pub closed-fewer : (L : ℕ) (t : Table) → Closed L t (rules L free) → Closed L t (rules L held)
    closed-fewer L t e =
        let ns = names_of s (inside + c) in
        let ms = names_of s inside in
        let a = subst (Closed L t) (rules-free L) e in
        let g = a.1.1 in
        subst (Closed L t) (sym (rules-held L))
        (a.0, (a.1.0, (made-fewer L t g.0, (loads-fewer L t ns ms within g.1.0, (stores-fewer L t ns ms within s g.1.1.0, g.1.1.1)))))

  -- ---- the same

  pub rules-same : names_of s (inside + c) ≡ names_of s inside → in_class s c 3 ≡ true → (L : ℕ) → rules L held ≡ rules L free
  rules-same names three L =
      rules-held L
      ∙ ap (λ (b : Bool). chained L free (ruled (made_by (guest_by s c b)) (names_of s (inside + c)))) three
      ∙ ap (λ (ns : List ℕ). chained L free (ruled (made_by (free_guest s)) ns)) names
      ∙ sym (rules-free L)
