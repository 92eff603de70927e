-- The guest's rules: the loop takes its statements one by one. Assumes nothing.
use borrow.Author.Rules.{rules}
use mathlib.Core.Path.{◌≡◌, refl, sym, ap, ◌∙◌}
use native.Mathlib.Omega.{arith}
use Prim.Native.Nat.{ℕ}
use lib.ListN.{take}
use lib.Dec.{eqb}
use Rattle.words.specs.Words.{bit}
use Rattle.rules.specs.Rule.{every}
use Rattle.host.specs.Lays.{names_in}
use Rattle.passes.proofs.Every.{applies-none, applies-same}
use Rattle.passes.proofs.Guests.{guest_list, guest-all, guest-keyed, guest-prototyped, guest-turn}
use Rattle.passes.proofs.guest.guest.Goals as goal

pub loop-i-init : goal.loop-i-init
loop-i-init c p serves = applies-none _ refl

pub apply-grew-requires : goal.apply-grew-requires
apply-grew-requires c =
    (record { room = search rules; apart = c.requires.apart }, c.statement.ensures.in_bounds c.args.wide)

pub loop-i-preserved : goal.loop-i-preserved
loop-i-preserved c p serves =
    guest-turn p c.guest_key-key.result c.is_prototyped-prototyped.result c.loop-i.i c.statement.result (search rules)
    c.requires.apart (c.loop-i.invariant p serves) (c.statement.ensures.result_value p) (c.apply-grew.ensures p serves)

pub returns : goal.returns
returns c p serves =
    let key = c.guest_key-key in
    let prototyped = c.is_prototyped-prototyped in
    let e : c.loop-i.i ≡ 8 = omega arith in
    let k = key.ensures.0 ∙ guest-keyed p serves.lays in
    let q = prototyped.ensures ∙ ap (λ (n : ℕ). eqb (bit (names_in c.args.host.now n) 3) 1) key.ensures.0 ∙ guest-prototyped p serves.lays in
    applies-same (every (take 8 (guest_list p key.result prototyped.result))) _ (sym (guest-all p key.result prototyped.result k q))
    (rw (← e) (c.loop-i.invariant p serves))
