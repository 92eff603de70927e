-- What a record says, as the code holds it: the rules of a statement. Assumes nothing.
use Rattle.std.specs.Prelude.{List, [], ◌∷◌, map, ℕ, ◌<◌, get_or}
use Rattle.layout.specs.Key.{Key}
use Rattle.rules.specs.Rule.{Rule, every}
use Rattle.format.specs.Records.{Record}
use Rattle.program.specs.Statement as say
use Rattle.program.specs.Program.{Program}
use Rattle.analysis.specs.Rules.{rule_of}
use Rattle.rows.specs.declared.Var.{Var}
use Rattle.records.specs.declared.Statement.{Statement}
use Rattle.records.specs.declared.Statement.TheVariants.{Nothing, Named, Grant, Property, Held, Copy, Load, Store, Make, MakeFunction, Call, New, Return, Throw, Catch, Convert}

-- the rules of a record, and of a record of kind k and body b as one rule
abbrev pub saying : Program → Record → List Rule
saying p r = map (rule_of p) (say.statements_of r)

abbrev pub record_rule : Program → ℕ → List ℕ → Rule
record_rule p k b = every (saying p (record { kind = k; body = b }))

-- the j-th input of a call: this, then the arguments
abbrev pub input_at : List Var → ℕ → ℕ
input_at inputs j = (get_or inputs j (record { 0 = 0 })).0

-- the six arguments
abbrev pub arguments : List Var → List ℕ
arguments i = input_at i 1 ∷ input_at i 2 ∷ input_at i 3 ∷ input_at i 4 ∷ input_at i 5 ∷ input_at i 6 ∷ []

-- the statement; what no rule reads is left out
abbrev pub spoken : Statement → List say.Statement
spoken Nothing = []
spoken (Named v n) = say.named v.0 n.0 ∷ []
spoken (Grant v) = say.grant v.0 say.bag ∷ []
spoken (Property l n m) = say.property l.0 n.0 m.0 ∷ []
spoken (Held v l) = say.held v.0 l.0 ∷ []
spoken (Copy y x) = say.copy 0 y.0 x.0 ∷ []
spoken (Load y x key w) = say.load 0 y.0 x.0 key w.0 ∷ []
spoken (Store x key a) = say.store 0 x.0 key a.0 ∷ []
spoken (Make y l) = say.make 0 y.0 l.0 ∷ []
spoken (MakeFunction y l q) = say.make_function 0 y.0 l.0 q.0 ∷ []
spoken (Call s) = say.call s.scope.0 s.result.0 s.callee.0 (input_at s.inputs 0) (arguments s.inputs) ∷ []
spoken (New s l) = say.new s.scope.0 s.result.0 s.callee.0 (input_at s.inputs 0) l.0 (arguments s.inputs) ∷ []
spoken Return = say.return 0 0 ∷ []
spoken (Throw k x) = say.throw k.0 x.0 ∷ []
spoken (Catch k y) = say.catch k.0 y.0 ∷ []
spoken (Convert k x) = say.prim k.0 x.0 ∷ []

-- its rules, as one
abbrev pub rule_by : Program → Statement → Rule
rule_by p s = every (map (rule_of p) (spoken s))

-- its labels are below L, its names below 32, its keys keys
abbrev pub InBounds : ℕ → Statement → Type 0
InBounds L Nothing = Unit {0}
InBounds L (Named v n) = n.0 < 32
InBounds L (Grant v) = Unit {0}
InBounds L (Property l n m) = (l.0 < L) × (n.0 < 32) × (m.0 < L)
InBounds L (Held v l) = l.0 < L
InBounds L (Copy y x) = Unit {0}
InBounds L (Load y x key w) = Key key × (w.0 < L)
InBounds L (Store x key a) = Key key
InBounds L (Make y l) = l.0 < L
InBounds L (MakeFunction y l q) = (l.0 < L) × (q.0 < L)
InBounds L (Call s) = s.scope.0 < L
InBounds L (New s l) = (s.scope.0 < L) × (l.0 < L)
InBounds L Return = Unit {0}
InBounds L (Throw k x) = k.0 < L
InBounds L (Catch k y) = k.0 < L
InBounds L (Convert k x) = k.0 < L
