-- The chain of a label, by its type in the array. Assumes nothing.
use mathlib.Core.Path.{refl}
use lib.ListN.{get_or}
use Rattle.lines.proofs.Lines.{no-chain, type-chain}
use Rattle.lines.proofs.declared_line.Goals as goal

pub returns-then-kind-eq0 : goal.returns-then-kind-eq0
returns-then-kind-eq0 c p e = no-chain c.args.types.now c.args.l.0 c.requires.1 e (rw c.from.ensures at c.if-kind-eq0.true)

pub returns : goal.returns
returns c =
    let a = c.args in
    λ p e. type-chain a.types.now (get_or a.types.now a.l.0 0) a.l.0 c.requires.1 e refl (rw c.from.ensures at c.if-kind-eq0.false)
    (rw c.from.ensures at (c.chain_line.ensures p))
