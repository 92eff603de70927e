-- How what the code reads stands for a reading of the crate format: its end, or the first refusal with its position. Assumes nothing.
use Rattle.std.specs.Prelude.{◌≡◌, ℕ, Result, Ok, Err}
use Rattle.answer.specs.Answer.{number_of}
use Rattle.format.specs.Reading.{Reading}
use Rattle.reader.specs.declared.Refused.{Refused}

-- reading stopped with that refusal, at that position
abbrev pub IsRefused : Refused → Reading → Type 0
IsRefused e d = (number_of e.refusal ≡ d.refusal) × (e.position ≡ d.position)

-- reading came to the end, at that position, or was refused
abbrev pub IsEnding : Result ℕ Refused → Reading → Type 0
IsEnding (Ok end) d = (d.refusal ≡ 0) × (end ≡ d.position)
IsEnding (Err e) d = IsRefused e d
