-- The chains of all declared labels, one after the other. Assumes nothing.
use mathlib.Core.Path.{◌≡◌}
use native.Mathlib.Omega.{arith}
use Rattle.rows.specs.Edition.{labels}
use Rattle.format.specs.Sheet.{declared}
use Rattle.analysis.specs.Rules.{chain_rule}
use Rattle.lines.proofs.Lines.{lines_none, lines_next}
use Rattle.lines.proofs.chain_lines.Goals as goal

pub loop-l-init : goal.loop-l-init
loop-l-init c p e = lines_none (declared p.sheet) (chain_rule p.sheet)

pub loop-l-preserved : goal.loop-l-preserved
loop-l-preserved c p e =
    lines_next (declared p.sheet) (chain_rule p.sheet) c.loop-l.l c.requires.apart (c.loop-l.invariant p e) (c.declared_line-grew.ensures p e)

pub returns : goal.returns
returns c p f =
    let e : c.loop-l.l ≡ labels c.args.wide = omega (arith, c.labels-l-end.ensures.0) in
    rw (← e) (c.loop-l.invariant p f)
