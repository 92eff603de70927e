-- What a call hands over to the functions that it enters. Assumes nothing.
use Rattle.std.specs.Prelude.{◌≡◌, Bool, ℕ, ◌<◌}
use Rattle.words.specs.Words.{bit}
use Rattle.rules.specs.Table.{Table, Has}
use Rattle.rows.specs.Row.{variable, property, chain}
use Rattle.rules.specs.Rule.{Rule, give, include, each, ◌also◌}
use Rattle.program.specs.Program.{Program}
use Rattle.analysis.specs.Rules.{calling, making}
use Rattle.records.specs.declared.Site.{Site}
use Rattle.records.specs.Say.{input_at, arguments}
use Rattle.kept.specs.Promise.{input, Takes}

-- what variable v holds, to the j-th input of the functions fs
abbrev pub handing : Bool → Program → ℕ → ℕ → ℕ → Table → ℕ → ℕ → Type 0
handing wide p fs j v t r l = (f : ℕ) × (bit fs f ≡ 1) × Takes wide p (input j) f r × (0 < r) × Has t v l

-- the first n inputs
abbrev pub handing_all : Bool → Program → ℕ → (ℕ → ℕ) → ℕ → Table → ℕ → ℕ → Type 0
handing_all wide p fs inputs n t r l = (j : ℕ) × (j < n) × handing wide p fs j (inputs j) t r l

-- the rules of a call and of new
abbrev pub call_by : Program → Site → Rule
call_by p s = calling p s.scope.0 s.result.0 s.callee.0 (input_at s.inputs 0) (arguments s.inputs)

-- new without its call
abbrev pub object_rule : ℕ → ℕ → ℕ → ℕ → Rule
object_rule y c x l =
    give (variable x) l
    also include (variable y) (variable x)
    also each (variable c) (λ f. each (chain f) (λ m. include (chain l) (property m 3)))

abbrev pub new_by : Program → Site → ℕ → Rule
new_by p s l = making p s.scope.0 s.result.0 s.callee.0 (input_at s.inputs 0) l (arguments s.inputs)
