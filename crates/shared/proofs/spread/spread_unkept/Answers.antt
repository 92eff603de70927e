-- A set spread to properties under a key without a pair of its own, by the pair of class 0. Assumes nothing.
use mathlib.Core.Path.{refl}
use native.Mathlib.Omega.{arith}
use Rattle.sets.specs.Value.{value}
use Rattle.layout.specs.Key.{inside}
use Rattle.kept.specs.Promise.{stored}
use Rattle.kept.proofs.Slots.{slot-stored-class}
use Rattle.shared.proofs.Applied.{applies-passed, applies-whole}
use Rattle.shared.proofs.Families.{named-spread, stored-every}
use Rattle.shared.proofs.spread.spread_unkept.Goals.{then-of_class_zero, else-of_class_zero}
use Rattle.shared.proofs.spread.spread_unkept.Goals as goal

pub returns : goal.returns
returns c p key lays k e =
    let done = named-spread key c.args.names _ c.requires.apart lays k e c.spread_under.ensures in
    elim c.if-of_class_zero.branch [
      | then-of_class_zero w ↦
          applies-passed (stored key) c.requires.apart (stored inside) (λ i. slot-stored-class 24 (omega arith) (omega arith) refl)
          (stored-every key c.args.names lays k e (c.of_class_zero.ensures w.if-of_class_zero.true)) w.leave.ensures
          (rw (w.rest-is, w.unwrap_or-rest.ensures) at done)
      | else-of_class_zero w ↦ applies-whole (stored key) c.requires.apart (value c.args.wide c.args.s) (rw w.rest-is at done)
    ]
