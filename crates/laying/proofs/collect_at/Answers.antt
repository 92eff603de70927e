-- The bytes of a return are in the file. Assumes nothing.
use mathlib.Core.Path.{◌≡◌, ap}
use native.Mathlib.Omega.{arith}
use lib.ListN.{get_or}
use Rattle.layout.specs.Layout.{body_length}
use Rattle.records.proofs.Walks.{walk-room}
use Rattle.laying.proofs.collect_at.Goals as goal

pub bounds-file-at-then-file-at-eq23 : goal.bounds-file-at-then-file-at-eq23
bounds-file-at-then-file-at-eq23 c =
    let n : body_length (get_or c.args.file.now c.args.at 0) ≡ 2 = ap body_length c.if-file-at-eq23.true in
    omega (arith, walk-room c.requires.0 c.requires.1)

pub bounds-file-at-then-file-at-eq23-2 : goal.bounds-file-at-then-file-at-eq23-2
bounds-file-at-then-file-at-eq23-2 c =
    let n : body_length (get_or c.args.file.now c.args.at 0) ≡ 2 = ap body_length c.if-file-at-eq23.true in
    omega (arith, walk-room c.requires.0 c.requires.1)
