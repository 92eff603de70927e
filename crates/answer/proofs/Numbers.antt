-- No refusal has the number 0, which stands for none. Assumes nothing.
use mathlib.Core.Path.{◌≡◌}
use native.Mathlib.Omega.{arith}
use Rattle.answer.specs.Answer.{number_of}
use Rattle.answer.specs.declared.Refusal.{Refusal}
use Rattle.answer.specs.declared.Refusal.TheVariants.{UnknownKind, RecordCutShort, BadVariable, BadLabel, BadValue, DeclaredTwice, FunctionMissing, TableTooShort, FileTooLong, TableNotClosed, BufferTooShort, BadLoan, TooManyGuests, TooManyGrants, NotAddable}

pub not-zero : (r : Refusal) → number_of r ≡ 0 → ⊥
not-zero UnknownKind e = absurd (omega (arith, e))
not-zero RecordCutShort e = absurd (omega (arith, e))
not-zero BadVariable e = absurd (omega (arith, e))
not-zero BadLabel e = absurd (omega (arith, e))
not-zero BadValue e = absurd (omega (arith, e))
not-zero DeclaredTwice e = absurd (omega (arith, e))
not-zero FunctionMissing e = absurd (omega (arith, e))
not-zero TableTooShort e = absurd (omega (arith, e))
not-zero FileTooLong e = absurd (omega (arith, e))
not-zero TableNotClosed e = absurd (omega (arith, e))
not-zero BufferTooShort e = absurd (omega (arith, e))
not-zero BadLoan e = absurd (omega (arith, e))
not-zero TooManyGuests e = absurd (omega (arith, e))
not-zero TooManyGrants e = absurd (omega (arith, e))
not-zero NotAddable e = absurd (omega (arith, e))
