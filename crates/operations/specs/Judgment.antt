-- What the forbidden labels in the guest's bag and the number of facts amount to. Assumes nothing.
use Rattle.std.specs.Prelude.{cond, ℕ, eqb}
use Rattle.std.specs.Int.Count.{count_trailing_zeros}
use Rattle.answer.specs.Outcome.{Outcome, confined, leaks}

-- "leaks if S(1) holds a forbidden label", with the lowest of them and the guest's label, 3; L is the number of labels
abbrev pub judgment : ℕ → ℕ → ℕ → Outcome
judgment L held count = cond (eqb held 0) (confined count) (leaks (count_trailing_zeros L held) 3 count)
