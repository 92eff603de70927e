-- `Kind::of` meets its contract: a byte that it does not name is no kind. Assumes nothing.
use Rattle.std.proofs.Common.{◌≡◌, refl, ℕ, zero, suc, ◌+◌, ◌-◌, ◌<◌, arith}
use native.Mathlib.Decide.{dec_lt}
use Rattle.layout.specs.Layout.{body_length}
use Rattle.layout.proofs.Table.{no_kind}
use Rattle.layout.proofs.Kind.of.Goals as goal

-- between the kinds that declare and those that say something
between : (j : ℕ) → j < 6 → body_length (10 + j) ≡ 0
between zero h = refl
between (suc zero) h = refl
between (suc (suc zero)) h = refl
between (suc (suc (suc zero))) h = refl
between (suc (suc (suc (suc zero)))) h = refl
between (suc (suc (suc (suc (suc zero))))) h = refl
between (suc (suc (suc (suc (suc (suc j)))))) h = absurd (omega arith)

pub returns-in_default : goal.returns-in_default
returns-in_default c =
    let b = c.args.byte in
    elim (dec_lt b 16) [
      | yes h ↦ elim (dec_lt b 10) [
        | yes g ↦ (let e : b ≡ 0 = omega arith in rw e)
        | no g ↦ (let e : 10 + (b - 10) ≡ b = omega arith in rw e at (between (b - 10) (omega arith)))
      ]
      | no h ↦ no_kind b (omega arith)
    ]
