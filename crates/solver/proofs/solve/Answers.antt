-- `solver::solve` meets its contract. Assumes nothing.
use mathlib.Core.Path.{refl, ◌∙◌}
use mathlib.Core.Logic.{inl}
use native.Mathlib.Omega.{arith}
use Rattle.analysis.specs.Verdict.{least_table}
use Rattle.uses.proofs.Use.{reached-length, reached-behind}
use Rattle.solver.proofs.solve.Goals as goal

pub settle-requires : goal.settle-requires
settle-requires c =
    let cleared = c.clear.ensures in
    (record { room = rw cleared.same_length (omega (arith, c.requires.0)); apart = inl refl }, c.requires.1, c.requires.2, cleared.none)

pub returns : goal.returns
unfolding least_table
returns c =
    let cleared = c.clear.ensures in
    let settled = c.settle.ensures in
    record {
      same_length = reached-length settled.reached ∙ cleared.same_length;
      least = settled.least;
      beyond = λ i h. reached-behind settled.reached i (omega (arith, h)) ∙ cleared.beyond i h;
    }
