-- The rules of a file in the order of a pass: the P line, the guest's, the records'. Assumes nothing.
use Rattle.std.specs.Prelude.{Bool, List, [], ◌∷◌, map, ℕ, zero, suc, replicate}
use Rattle.rows.specs.Edition.{labels}
use Rattle.rows.specs.Row.{chain}
use Rattle.rules.specs.Rule.{Rule, give, over, every, ◌also◌}
use Rattle.format.specs.Reading.{read_file}
use Rattle.program.specs.Statement as say
use Rattle.program.specs.Program.{Program, Guest, function_made, guests_statements, host_statements, guests_of, program_in}
use Rattle.analysis.specs.Rules.{rule_of, chain_rule, declared_labels, rules}
use Rattle.rows.specs.declared.Var.{Var}
use Rattle.records.specs.declared.Site.{Site}
use Rattle.uses.specs.Use.{tells}
use Rattle.shared.specs.Apply.{Applies}

-- guest 3 with this key, whatever is forbidden to it
abbrev pub guest_with : ℕ → Bool → Guest
guest_with key prototyped = record { label = 3; bag = say.bag; key = key; prototyped = prototyped; forbidden = 0 }

-- its statements, one by one: make function, load, store, call, new, return, throw, catch
abbrev pub guest_statement : ℕ → Bool → ℕ → say.Statement
guest_statement key prototyped zero = function_made (guest_with key prototyped)
guest_statement key prototyped (suc zero) = say.load 3 1 1 key 3
guest_statement key prototyped (suc (suc zero)) = say.store 3 1 key 1
guest_statement key prototyped (suc (suc (suc zero))) = say.call 3 1 1 1 (replicate 6 1)
guest_statement key prototyped (suc (suc (suc (suc zero)))) = say.new 3 1 1 1 3 (replicate 6 1)
guest_statement key prototyped (suc (suc (suc (suc (suc zero))))) = say.return 3 1
guest_statement key prototyped (suc (suc (suc (suc (suc (suc zero)))))) = say.throw 3 1
guest_statement key prototyped (suc (suc (suc (suc (suc (suc (suc i))))))) = say.catch 3 1

-- a call of the guest: variable 1 in every field
abbrev pub the_site : Site
the_site =
    let v : Var = record { 0 = 1 } in
    record {
      scope = record { 0 = 3 };
      result = v;
      callee = v;
      inputs = replicate 7 v;
    }

-- the rules of its statements
abbrev pub guest_rules : Program → Rule
guest_rules p = every (map (λ s. rule_of p s.1) (guests_statements (guests_of p.sheet)))

-- the rules of the records of a file
abbrev pub record_rules : ℕ → Program → List ℕ → Rule
record_rules L p file = every (map (λ s. rule_of p s.1) (host_statements (read_file L file).records))

-- the rules that no record says
abbrev pub line_rules : ℕ → Program → Rule
line_rules L p =
    over (declared_labels L p.sheet) (chain_rule p.sheet) also over (1 ∷ 2 ∷ 4 ∷ []) (λ m. give (chain 3) m) also guest_rules p

-- one use of all rules of the file
abbrev pub PassOf : Bool → ℕ → List ℕ → List ℕ → List ℕ → List ℕ → List ℕ → Bool → Type 0
PassOf wide o file t keeps u kept grew =
    let p = program_in (labels wide) file in
    Applies wide o p (tells wide (rules (labels wide) p)) t keeps u kept grew
