-- Work in place that adds only what the rules of the file tell, and leaves the pairs as good as they were. Assumes nothing.
use Rattle.std.specs.Prelude.{List, Bool, ℕ}
use Rattle.rows.specs.Edition.{labels}
use Rattle.program.specs.Program.{program_in}
use Rattle.analysis.specs.Rules.{rules}
use Rattle.uses.specs.Use.{Since, tells, Reached}
use Rattle.kept.specs.Promise.{Remembers}

pub record Steps (wide : Bool) (file old t u kept : List ℕ) : Type 0 where
  pub reached : Reached wide 0 (tells wide (rules (labels wide) (program_in (labels wide) file))) t u
  pub memory : Remembers wide 0 (program_in (labels wide) file) old u kept

-- counted from whatever words the pairs are good for
abbrev pub StepsFor : Bool → List ℕ → List ℕ → List ℕ → List ℕ → List ℕ → Type 0
StepsFor wide file t keeps u kept =
    (old : List ℕ) → Since wide old t → Remembers wide 0 (program_in (labels wide) file) old t keeps → Steps wide file old t u kept
