-- Classes, the names outside them, the names 1 to 3, and the other names have pairs in different ranges. Assumes nothing.
use borrow.Author.Rules.{rules}
use native.Mathlib.Omega.{arith}
use Rattle.layout.proofs.Keys.{key-name, key_below}
use Rattle.kept.proofs.Slots.{slot-under-class, slot-under-often, slot-under-name, slot-under-outside}
use Rattle.kept.proofs.under_at.Goals as goal

pub returns-then-key-ge-OUTSIDE : goal.returns-then-key-ge-OUTSIDE
returns-then-key-ge-OUTSIDE c = let h = key_below c.args.key c.requires in record { result_value = slot-under-outside _ (omega arith) (omega arith) (omega arith); bound = omega arith }

pub returns-then-key-ge-INSIDE : goal.returns-then-key-ge-INSIDE
returns-then-key-ge-INSIDE c = record { result_value = slot-under-class _ (omega arith) (omega arith) (omega arith); bound = omega arith }

pub returns-in-0 : goal.returns-in-0
returns-in-0 c = search (rules, slot-under-name)

pub returns-in-1-to-3 : goal.returns-in-1-to-3
returns-in-1-to-3 c = record { result_value = slot-under-often _ (omega arith) (omega arith) (omega arith); bound = omega arith }

pub returns-in_default : goal.returns-in_default
returns-in_default c =
    let h = key-name c.args.key c.requires (omega arith) in
    record { result_value = slot-under-name _ (omega arith) (omega arith) (omega arith); bound = omega arith }
