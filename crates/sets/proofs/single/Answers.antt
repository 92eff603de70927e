-- A single label: it is in one word. Assumes nothing.
use Rattle.rows.proofs.Edition.{labels-small}
use Rattle.sets.proofs.Values.{single-value}
use native.Mathlib.Omega.{arith}
use Rattle.sets.proofs.single.Goals as goal

pub returns-then-l-lt64 : goal.returns-then-l-lt64
returns-then-l-lt64 c = single-value _ 0 c.from-l.ensures c.requires (omega (arith, c.if-l-lt64.true)) c.single-word.ensures

pub returns-then-l-lt128 : goal.returns-then-l-lt128
returns-then-l-lt128 c = single-value _ 1 c.from-l.ensures c.requires (omega (arith, c.if-l-lt64.false, c.if-l-lt128.true)) c.single-word.ensures

pub returns-then-l-lt192 : goal.returns-then-l-lt192
returns-then-l-lt192 c = single-value _ 2 c.from-l.ensures c.requires (omega (arith, c.if-l-lt128.false, c.if-l-lt192.true)) c.single-word.ensures

pub returns : goal.returns
returns c = single-value _ 3 c.from-l.ensures c.requires (omega (arith, c.if-l-lt192.false, labels-small c.args.wide)) c.single-word.ensures
