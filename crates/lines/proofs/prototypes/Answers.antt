-- The three prototypes. Assumes nothing.
use native.Mathlib.Omega.{arith}
use Rattle.sets.specs.Value.{value}
use Rattle.lines.proofs.Lines.{low-label, on-three}
use Rattle.lines.proofs.prototypes.Goals as goal

pub single-plain-requires : goal.single-plain-requires
single-plain-requires c = low-label c.args.wide (omega arith)

pub single-functions-requires : goal.single-functions-requires
single-functions-requires c = low-label c.args.wide (omega arith)

pub single-arrays-requires : goal.single-arrays-requires
single-arrays-requires c = low-label c.args.wide (omega arith)

pub returns : goal.returns
returns c =
    let a = c.args in
    on-three (value a.wide c.union.result) 1 2 4
    (rw (c.single-plain.ensures, c.union-others.ensures, c.single-functions.ensures, c.single-arrays.ensures) at c.union.ensures)
