-- What the engine goes by, part by part. Assumes nothing.
use mathlib.Core.Path.{refl}
use Rattle.laying.proofs.Laid.{lays}
use Rattle.laying.proofs.Arrays.{known}
use Rattle.laying.proofs.lay_out.Goals as goal

pub returns : goal.returns
returns c =
    let f = c.labels_with-host.ensures in
    let b = c.labels_with-host-2.ensures in
    let names = c.classes-host.ensures in
    let class = c.class_of-host.ensures.value in
    record {
      sheet = refl;
      lays = λ p types flags masks profile. lays c.args.wide c.args.host.now.sheet.now _ f b names class p masks types flags profile;
      returns_of = c.collect.ensures;
      known = λ are. known are _ refl f b names class c.collect.ensures;
    }
