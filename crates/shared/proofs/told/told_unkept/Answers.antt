-- What labels hold under a key without a pair of its own, by the pair of class 0. Assumes nothing.
use mathlib.Core.Path.{refl}
use mathlib.Core.Bool.{Bool, true, false}
use Prim.Native.Nat.{◌<◌}
use native.Mathlib.Omega.{arith}
use Rattle.layout.specs.Key.{inside}
use Rattle.sets.specs.Value.{value}
use Rattle.kept.specs.Pairs.{pair_count}
use Rattle.kept.specs.Promise.{under}
use Rattle.kept.proofs.Slots.{slot-under-class}
use Rattle.kept.proofs.Tellings.{tellings-whole, tellings-spared}
use Rattle.shared.proofs.Families.{under-told, under-every}
use Rattle.shared.proofs.told.told_unkept.Goals.{then-of_class_zero, else-of_class_zero}
use Rattle.shared.proofs.told.told_unkept.Goals as goal

fits : (wide : Bool) → 6 < pair_count wide
fits true = omega arith
fits false = omega arith

pub returns : goal.returns
returns c p key lays k e =
    let read = under-told c.args.wide p key c.args.names lays k e c.gather_under.ensures in
    elim c.if-of_class_zero.branch [
      | then-of_class_zero w ↦
          tellings-spared (under key) p c.args.t.now tt (fits c.args.wide) (slot-under-class 6 {key = inside} (omega arith) (omega arith) refl)
          (under-every key c.args.names lays k e (c.of_class_zero.ensures w.if-of_class_zero.true)) w.spare-rest.ensures (rw w.rest-is at read)
      | else-of_class_zero w ↦ tellings-whole (under key) p c.args.t.now (value c.args.wide c.args.s) (rw w.rest-is at read)
    ]
