-- The number of a refusal of the code, and the outcome that an answer stands for. Assumes nothing.
use Rattle.std.specs.Prelude.{ℕ}
use Rattle.answer.specs.declared.Refusal.{Refusal}
use Rattle.answer.specs.declared.Refusal.TheVariants.{UnknownKind, RecordCutShort, BadVariable, BadLabel, BadValue, DeclaredTwice, FunctionMissing, TableTooShort, FileTooLong, TableNotClosed, BufferTooShort, BadLoan, TooManyGuests, TooManyGrants, NotAddable}
use Rattle.answer.specs.declared.Answer.{Answer}
use Rattle.answer.specs.declared.Answer.TheVariants.{Confined, Leaks, Accepted, Refused, Holds, Choice, NoneHelps}
use Rattle.answer.specs.Outcome.{Outcome, confined, leaks, accepted, refused, holds, choice, none_helps}

-- document 01, "What each operation says no to": 1 to 10; document 02 adds 12 to 16. 11 is `holds`
abbrev pub number_of : Refusal → ℕ
number_of UnknownKind = 1
number_of RecordCutShort = 2
number_of BadVariable = 3
number_of BadLabel = 4
number_of BadValue = 5
number_of DeclaredTwice = 6
number_of FunctionMissing = 7
number_of TableTooShort = 8
number_of FileTooLong = 9
number_of TableNotClosed = 10
number_of BufferTooShort = 12
number_of BadLoan = 13
number_of TooManyGuests = 14
number_of TooManyGrants = 15
number_of NotAddable = 16

abbrev pub outcome_of : Answer → Outcome
outcome_of (Confined count) = confined count
outcome_of (Leaks label guest count) = leaks label guest count
outcome_of (Accepted count) = accepted count
outcome_of (Refused why position) = refused (number_of why) position
outcome_of (Holds label guest) = holds label guest
outcome_of (Choice word) = choice word
outcome_of NoneHelps = none_helps
