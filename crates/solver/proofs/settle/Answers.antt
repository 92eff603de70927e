-- Searches and passes in place until a pass adds nothing. Assumes nothing.
use mathlib.Core.Path.{◌≡◌}
use mathlib.Core.Bool.{Bool}
use mathlib.Core.List.{List}
use Prim.Native.Nat.{ℕ}
use lib.ListN.{length}
use Rattle.rows.specs.Edition.{labels}
use Rattle.rules.specs.Told.{Fits}
use Rattle.format.specs.Reading.{Readable}
use Rattle.program.specs.Program.{program_in}
use Rattle.analysis.specs.Rules.{rules}
use Rattle.analysis.proofs.Fit.{rules-fit}
use Rattle.records.proofs.Walks.{five-labels}
use Rattle.uses.specs.Use.{Lent}
use Rattle.uses.proofs.Use.{reached-length}
use Rattle.solver.proofs.Passing.{turned-first, turned-settled, turned, turned-less}
use Rattle.solver.proofs.settle.Goals as goal

-- the rules fit the table
fits : (wide : Bool) (file : List ℕ) → Readable (labels wide) file → Fits (labels wide) (rules (labels wide) (program_in (labels wide) file))
fits wide file r = rules-fit (labels wide) file (five-labels wide) r

-- the table has room still, after additions
lent : (wide : Bool) (t u : List ℕ) → length u ≡ length t → Lent wide 0 (length t) → Lent wide 0 (length u)
lent wide t u e h = rw e h

-- ---- a search and a pass
pub rounds-init : goal.rounds-init
rounds-init c = turned-first c.args.file.now (fits c.args.wide c.args.file.now c.requires.1) c.requires.3

pub search_on-requires : goal.search_on-requires
search_on-requires c = (lent c.args.wide _ _ (reached-length c.rounds.invariant.solving.reached) c.requires.0, c.requires.1)

pub pass-again-requires : goal.pass-again-requires
pass-again-requires c =
    let here = c.lay_out.ensures.known (rw c.new-host.ensures.sheet c.requires.2) in
    let inv = c.rounds.invariant in (
      lent c.args.wide _ _ (reached-length (c.search_on.ensures here inv.old inv.since inv.remembers).reached)
          (lent c.args.wide _ _ (reached-length inv.solving.reached) c.requires.0),
      c.requires.1,
    )

pub rounds-smaller : goal.rounds-smaller
rounds-smaller c =
    let a = c.args in
    let here = c.lay_out.ensures.known (rw c.new-host.ensures.sheet c.requires.2) in
    turned-less a.file.now (fits a.wide a.file.now c.requires.1) _ c.rounds.invariant (c.search_on.ensures here)
    (λ old. c.forget.ensures 0 (program_in (labels a.wide) a.file.now) old _)
    (c.pass-again.ensures here) c.rounds-test.true

pub rounds-preserved : goal.rounds-preserved
rounds-preserved c =
    let a = c.args in
    let here = c.lay_out.ensures.known (rw c.new-host.ensures.sheet c.requires.2) in
    turned a.file.now (fits a.wide a.file.now c.requires.1) _ c.rounds.invariant (c.search_on.ensures here)
    (λ old. c.forget.ensures 0 (program_in (labels a.wide) a.file.now) old _)
    (c.pass-again.ensures here)

pub shape_of-t : goal.shape_of-t
shape_of-t c = reached-length c.rounds.invariant.solving.reached

pub returns : goal.returns
returns c = turned-settled c.args.file.now (fits c.args.wide c.args.file.now c.requires.1) c.requires.3 c.rounds-test.false c.rounds.invariant
