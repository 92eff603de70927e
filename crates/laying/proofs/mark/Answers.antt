-- One variable more, in the array that has the function. Assumes nothing.
use mathlib.Core.Path.{refl}
use Prim.Native.Nat.{◌-◌}
use Rattle.laying.proofs.Marks.{marked}
use borrow.Author.Rules.{rules}
use Rattle.laying.proofs.mark.Goals as goal

pub returns-then-f-lt64 : goal.returns-then-f-lt64
returns-then-f-lt64 c =
    let a = c.args in
    marked 0 c.from-f.result a.k.0 a.x.0 (search rules) (search rules) (search rules) (search rules) (search rules) c.mark_in.ensures
    (λ d. absurd (d refl), λ _. refl, λ _. refl, λ _. refl)

pub returns-then-f-lt128 : goal.returns-then-f-lt128
returns-then-f-lt128 c =
    let a = c.args in
    marked 1 (c.from-f.result - 64) a.k.0 a.x.0 (search rules) (search rules) (search rules) (search rules) (search rules) c.mark_in-then-f-lt128.ensures
    (λ _. refl, λ d. absurd (d refl), λ _. refl, λ _. refl)

pub returns-then-f-lt192 : goal.returns-then-f-lt192
returns-then-f-lt192 c =
    let a = c.args in
    marked 2 (c.from-f.result - 128) a.k.0 a.x.0 (search rules) (search rules) (search rules) (search rules) (search rules) c.mark_in-then-f-lt192.ensures
    (λ _. refl, λ _. refl, λ d. absurd (d refl), λ _. refl)

pub returns-else-f-lt192 : goal.returns-else-f-lt192
returns-else-f-lt192 c =
    let a = c.args in
    marked 3 (c.from-f.result - 192) a.k.0 a.x.0 (search rules) (search rules) (search rules) (search rules) (search rules) c.mark_in-else-f-lt192.ensures
    (λ _. refl, λ _. refl, λ _. refl, λ d. absurd (d refl))
