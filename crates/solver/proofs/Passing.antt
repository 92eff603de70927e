-- The loop of a search and a pass, from a table without facts to the least one. Assumes nothing.
use mathlib.Core.Path.{◌≡◌, refl, sym, ap, subst, ◌∙◌}
use mathlib.Core.Logic.{inl}
use mathlib.Core.Bool.{Bool, true, false, true≢false}
use mathlib.Core.List.{List, []}
use Prim.Native.Nat.{ℕ, ◌<◌}
use native.Mathlib.Omega.{arith}
use lib.ListN.{replicate}
use Rattle.rows.specs.Edition.{labels}
use Rattle.rules.specs.Table.{Small, empty_table}
use Rattle.rules.specs.Told.{Fits}
use Rattle.rules.specs.Round.{least_above}
use Rattle.rules.proofs.Table.{empty-shaped}
use Rattle.format.proofs.Arrays.{padded}
use Rattle.analysis.specs.Rules.{rules}
use Rattle.uses.specs.Use.{Since, table_of, tells, Used}
use Rattle.uses.proofs.Use.{reached-on, reached-read}
use Rattle.kept.specs.Promise.{Remembers}
use Rattle.kept.proofs.Remembers.{remembers-none}
use Rattle.whole.proofs.Finished.{reached-small, reached-facts}
use Rattle.whole.proofs.Solving.{Solving, solving-start, solving-next, solving-end, left, solving-less}
use Rattle.passes.specs.Order.{PassOf}
use Rattle.program.specs.Program.{program_in}
use Rattle.turns.specs.Steps.{Steps, StepsFor}
use Rattle.solver.specs.Solved.{Settled}

-- from the words `from` searches and passes came to t, and the pairs are good
pub record Turned (wide : Bool) (file from t keeps : List ℕ) (again : Bool) : Type 0 where
  pub solving : Solving wide (rules (labels wide) (program_in (labels wide) file)) from t again
  pub old : List ℕ
  pub since : Since wide old t
  pub remembers : Remembers wide 0 (program_in (labels wide) file) old t keeps

empty-small : (wide : Bool) (t : List ℕ) → table_of wide t ≡ empty_table (labels wide) → Small (labels wide) (table_of wide t)
empty-small wide t e = subst (Small (labels wide)) (sym e) (empty-shaped (labels wide)).small

module _ {wide : Bool} (file : List ℕ) (fits : Fits (labels wide) (rules (labels wide) (program_in (labels wide) file))) where
  -- before the first pass there are no facts, and nothing was kept
  module _ {t : List ℕ} (empty : table_of wide t ≡ empty_table (labels wide)) where
    pub turned-first : Turned wide file t t (replicate 256 0) true
    turned-first =
        record {
          solving = solving-start (rules (labels wide) (program_in (labels wide) file)) (empty-small wide t empty);
          old = t;
          since = λ r l h. h;
          remembers = remembers-none (padded [] 256 0);
        }

    -- after the last one the table is the least
    pub turned-settled : {v keeps : List ℕ} {again : Bool} → again ≡ false → Turned wide file t v keeps again → Settled wide file t v
    turned-settled e last =
        record {
          reached = last.solving.reached;
          least = solving-end fits (empty-small wide t empty) e last.solving ∙ ap (least_above (labels wide) (rules (labels wide) (program_in (labels wide) file))) empty;
        }

  -- a search and then a pass, the pairs being forgotten between them
  module _ {from t u v keeps found forgot kept : List ℕ} {again : Bool} (grew : Bool) (before : Turned wide file from t keeps again)
      (search : StepsFor wide file t keeps u found) (forgets : (old : List ℕ) → Remembers wide 0 (program_in (labels wide) file) old u found → Remembers wide 0 (program_in (labels wide) file) u u forgot)
      (pass : PassOf wide 0 file u forgot v kept grew) where
    steps : Steps wide file before.old t u found
    steps = search before.old before.since before.remembers

    searched : Solving wide (rules (labels wide) (program_in (labels wide) file)) from u true
    searched =
        record {
          small = reached-small (rules (labels wide) (program_in (labels wide) file)) fits before.solving.small steps.reached;
          reached = reached-on before.solving.reached steps.reached;
          closed = λ e. absurd (true≢false e);
        }

    fresh : Remembers wide 0 (program_in (labels wide) file) u u forgot
    fresh = forgets before.old steps.memory

    used : Used wide 0 (tells wide (rules (labels wide) (program_in (labels wide) file))) u u v grew
    used = pass.uses u (λ r l h. h) fresh

    pub turned : Turned wide file from v kept grew
    turned =
        record {
          solving = solving-next fits grew searched used;
          old = u;
          since = reached-read (inl refl) used.only;
          remembers = pass.memory u (λ r l h. h) fresh;
        }

    pub turned-less : again ≡ true → left wide grew v < left wide again t
    turned-less e =
        let less : left wide grew v < left wide true u = solving-less fits grew refl searched used in rw e (omega (arith, less, reached-facts steps.reached))
