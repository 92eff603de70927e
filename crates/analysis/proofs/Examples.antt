-- Examples, computed: one use of a rule on a table of a few facts, which rows it changes and what they hold then; and a least table. A rule that
-- lacks a part, or has another variable or label in its place, changes other rows. There are 8 labels; the program has a plain label 5, a function
-- 6 with this variable 2 and first formal 3, which returns variable 4, and no guest. Assumes nothing.
use mathlib.Core.Path.{◌≡◌, refl}
use mathlib.Core.List.{List, [], ◌∷◌}
use mathlib.Core.Bool.{cond}
use Prim.Native.Nat.{ℕ, zero, suc, ◌^◌, ◌+◌}
use lib.ListN.{get_or, set}
use lib.Dec.{eqb}
use Rattle.rows.specs.Row.{Row, number, variable, property, chain, thrown}
use Rattle.rules.specs.Table.{Table, empty_table}
use Rattle.rules.specs.Rule.{Rule, chosen}
use Rattle.rules.specs.Round.{round}
use Rattle.format.specs.Sheet.{Sheet, start, with_mask, with_label, with_function}
use Rattle.program.specs.Statement as say
use Rattle.program.specs.Program.{Program, statements, names_of, returns_of}
use Rattle.analysis.specs.Rules.{rule_of, chain_rule}
use Rattle.analysis.specs.Verdict.{least_table}

-- ---- the program, and what is said of it

sheet : Sheet
unfolding start
sheet = with_function (with_label (with_label (start 8) 5 1 0) 6 2 0) 6 (2 ∷ 3 ∷ 0 ∷ 0 ∷ 0 ∷ 0 ∷ 0 ∷ [])

program : List (ℕ × say.Statement) → Program
unfolding sheet
program ss = record { sheet = sheet; host = ss; guests = [] }

-- a table of some rows and their words
holding : List (Row × ℕ) → Table
holding [] = empty_table 8
holding (f ∷ fs) = set (holding fs) (number 8 f.0) f.1

-- the rows in which the second table differs from the first, counted from `at`, each with its word
changed : ℕ → Table → Table → List (ℕ × ℕ)
changed at [] u = []
changed at (x ∷ t) [] = []
changed at (x ∷ t) (y ∷ u) = let rest = changed (suc at) t u in cond (eqb x y) rest ((at, y) ∷ rest)

-- what one use of a rule changes
adds : Rule → List (Row × ℕ) → List (ℕ × ℕ)
unfolding holding changed round
adds rule fs = let t = holding fs in changed 0 t (round 8 rule t)

-- what one use of the rules of a statement changes, where variable 4 is returned in scope 6 and variable 15 in scope 0
uses : say.Statement → List (Row × ℕ) → List (ℕ × ℕ)
unfolding program adds
uses a fs = adds (rule_of (program ((0, say.return 6 4) ∷ (3, say.return 0 15) ∷ [])) a) fs

-- the program with every name in classes 0 and 1 but for those given, each with its mask
listing : List (ℕ × ℕ) → Program
unfolding sheet
listing ns = record { sheet = masked ns (in_both 32); host = []; guests = [] }
  where
    in_both : ℕ → Sheet
    in_both zero = sheet
    in_both (suc n) = with_mask (in_both n) n 3

    masked : List (ℕ × ℕ) → Sheet → Sheet
    masked [] s = s
    masked (n ∷ ns) s = with_mask (masked ns s) n.0 n.1

-- ---- the rules of properties

-- the object 10 comes to hold w, which is 5; 13 gets what w's chain has under name 7, and what the chain of the object's label 1 has
load-adds :
    uses (say.load 0 13 10 7 5)
    ((variable 10, 2 ^ 1) ∷ (chain 1, 2 ^ 1) ∷ (property 1 7, 2 ^ 2) ∷ (chain 5, 2 ^ 5) ∷ (property 5 7, 2 ^ 6) ∷ [])
    ≡ (10, 2 ^ 1 + 2 ^ 5) ∷ (13, 2 ^ 2 + 2 ^ 6) ∷ []
unfolding uses names_of
load-adds = refl

-- the object 10 may be 1, which is built-in, or 5: the value 11 goes to 5 alone
store-adds :
    uses (say.store 0 10 7 11) ((variable 10, 2 ^ 1 + 2 ^ 5) ∷ (variable 11, 2 ^ 2) ∷ []) ≡ (number 8 (property 5 7), 2 ^ 2) ∷ []
unfolding uses names_of
store-adds = refl

-- under the key of the names outside class 1, where all names but 7 and 30 are of it
store-outside-adds :
    adds (rule_of (listing ((7, 5) ∷ (30, 1) ∷ [])) (say.store 0 10 137 11)) ((variable 10, 2 ^ 5) ∷ (variable 11, 2 ^ 2) ∷ [])
    ≡ (number 8 (property 5 7), 2 ^ 2) ∷ (number 8 (property 5 30), 2 ^ 2) ∷ []
unfolding adds listing names_of chosen
store-outside-adds = refl

load-outside-adds :
    adds (rule_of (listing ((7, 5) ∷ [])) (say.load 0 13 10 137 5))
    ((chain 5, 2 ^ 5) ∷ (property 5 7, 2 ^ 6) ∷ (property 5 30, 2 ^ 2) ∷ [])
    ≡ (10, 2 ^ 5) ∷ (13, 2 ^ 6) ∷ []
unfolding adds listing names_of chosen
load-outside-adds = refl

-- under 136 nothing is loaded, but w is held
load-under-no-name-adds :
    adds (rule_of (listing ((7, 5) ∷ [])) (say.load 0 13 10 136 5)) ((chain 5, 2 ^ 5) ∷ (property 5 7, 2 ^ 6) ∷ []) ≡ (10, 2 ^ 5) ∷ []
unfolding adds listing names_of chosen
load-under-no-name-adds = refl

-- ---- the rules of functions

-- the callee 12 may be 5, which is no function, or 6: its this variable gets what 10 holds, its formal what 11 holds; 13 gets what it returns, and
-- the scope 0 what it throws
call-adds :
    uses (say.call 0 13 12 10 (11 ∷ []))
    ((variable 10, 2 ^ 1) ∷ (variable 11, 2 ^ 2) ∷ (variable 12, 2 ^ 5 + 2 ^ 6) ∷ (variable 4, 2 ^ 3) ∷ (variable 15, 2 ^ 5) ∷ (thrown 6, 2 ^ 4) ∷ [])
    ≡ (2, 2 ^ 1) ∷ (3, 2 ^ 2) ∷ (13, 2 ^ 3) ∷ (number 8 (thrown 0), 2 ^ 4) ∷ []
unfolding uses returns_of
call-adds = refl

-- label 0 is no function: a call of it hands back nothing that the top level returns, and the return itself adds nothing
call-of-label-0-adds : uses (say.call 0 13 12 10 (11 ∷ [])) ((variable 12, 2 ^ 0) ∷ (variable 15, 2 ^ 5) ∷ []) ≡ []
unfolding uses returns_of
call-of-label-0-adds = refl

top-return-adds : uses (say.return 0 15) ((variable 15, 2 ^ 5) ∷ []) ≡ []
unfolding uses
top-return-adds = refl

-- new: t, which is 10, comes to hold 5; y, which is 13, gets what t held; the chain of 5 gets the prototype of the callee, found along its chain; and the
-- callee gets t as this
new-adds :
    uses (say.new 0 13 12 10 5 []) ((variable 10, 2 ^ 1) ∷ (variable 12, 2 ^ 6) ∷ (chain 6, 2 ^ 2) ∷ (property 2 3, 2 ^ 4) ∷ [])
    ≡ (2, 2 ^ 1) ∷ (10, 2 ^ 1 + 2 ^ 5) ∷ (13, 2 ^ 1) ∷ (number 8 (chain 5), 2 ^ 4) ∷ []
unfolding uses returns_of
new-adds = refl

-- prim: what stands under name 1 on the chain of 5 is called: its this variable gets all that the object 10 holds, and the scope 0 what it throws
prim-adds :
    uses (say.prim 0 10) ((variable 5, 2 ^ 2) ∷ (variable 10, 2 ^ 5) ∷ (chain 5, 2 ^ 1) ∷ (property 1 1, 2 ^ 6) ∷ (thrown 6, 2 ^ 4) ∷ [])
    ≡ (2, 2 ^ 5) ∷ (number 8 (thrown 0), 2 ^ 4) ∷ []
unfolding uses
prim-adds = refl

-- ---- the P line

-- 6, a function, stands on its own chain with 2, and what is on the chain of its member 5 comes to be on its own
chain-adds :
    adds (chain_rule sheet 6) ((chain 5, 2 ^ 4) ∷ (chain 6, 2 ^ 5) ∷ []) ≡ (number 8 (chain 6), 2 ^ 2 + 2 ^ 4 + 2 ^ 5 + 2 ^ 6) ∷ []
unfolding adds sheet
chain-adds = refl

-- ---- the least table

-- of the only label 0: variable 4 has its labels from 3, 3 from 2, and 2 holds 0, a round for each
three-rounds :
    get_or (least_table 1 (record { sheet = start 1; host = (0, say.copy 0 4 3) ∷ (4, say.copy 0 3 2) ∷ (8, say.held 2 0) ∷ []; guests = [] })) 4 0 ≡ 1
unfolding least_table start statements chosen
three-rounds = refl
