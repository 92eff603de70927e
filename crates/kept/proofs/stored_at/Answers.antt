-- Classes, the names outside them, and names have pairs in different ranges. Assumes nothing.
use native.Mathlib.Omega.{arith}
use Rattle.layout.proofs.Keys.{key-name, key_below}
use Rattle.kept.proofs.Slots.{slot-stored-class, slot-stored-name, slot-stored-outside}
use Rattle.kept.proofs.stored_at.Goals as goal

pub returns-then-key-ge-OUTSIDE : goal.returns-then-key-ge-OUTSIDE
returns-then-key-ge-OUTSIDE c = let h = key_below c.args.key c.requires in record { result_value = slot-stored-outside _ (omega arith) (omega arith) (omega arith); bound = omega arith }

pub returns-then-key-ge-INSIDE : goal.returns-then-key-ge-INSIDE
returns-then-key-ge-INSIDE c = record { result_value = slot-stored-class _ (omega arith) (omega arith) (omega arith); bound = omega arith }

pub returns : goal.returns
returns c =
    let h = key-name c.args.key c.requires (omega arith) in
    record { result_value = slot-stored-name _ (omega arith) (omega arith) (omega arith); bound = omega arith }
