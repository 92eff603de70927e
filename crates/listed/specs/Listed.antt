-- The eight lines of document 01, "shown from the definitions as a single list with one fact about it". Assumes nothing.
use Rattle.std.specs.Prelude.{◌≡◌, refl, List, [], ◌∷◌, map, ℕ}
use Rattle.std.proofs.Common.{◌∙◌, ap, arith}
use Rattle.rows.specs.Row.{row_count}
use Rattle.answer.specs.Outcome.{Outcome, confined, leaks}
use Rattle.format.specs.Sheet.{start}
use Rattle.format.specs.Fields.{good, refusal_of, first_bad}
use Rattle.format.specs.Records.{misnamed, twice, after, whole_refusal, body_refusal}
use Rattle.format.specs.Reading.{record_refusal, read_on, read_from, lacking, finished, read_file}
use Rattle.rules.specs.Rule.{chosen}
use Rattle.program.specs.Program.{statements, names_of, returns_of}
use Rattle.verdicts.specs.Verdict.{verdict_outcome}
use Rattle.editions.proofs.Same.{same}
use Rattle.listed.specs.Files.{empty_file, guest_forbidden, journal, named_journal, granted_journal, built_in_journal, granted_logger, returning_logger, files, lines}

-- what is refused of a file and the verdict on it in an edition of L labels, with a table of full size lent
unfoldable pub judged_in : ℕ → List ℕ → ℕ × Outcome
unfolding start good refusal_of first_bad misnamed twice after whole_refusal body_refusal record_refusal read_on read_from lacking finished chosen statements names_of returns_of verdict_outcome
judged_in L xs = ((read_file L xs).refusal, verdict_outcome L (row_count L) xs)

-- the verdict in the edition of 64 labels
abbrev pub verdict_of : List ℕ → Outcome
verdict_of xs = (judged_in 64 xs).1

-- What is computed with 16 labels, whose table is a third as long, is so with 64, where the file can be read (document 02, Req 13).
pub by-sixteen : (xs : List ℕ) {o : Outcome} → judged_in 16 xs ≡ (0, o) → verdict_of xs ≡ o
unfolding judged_in
by-sixteen xs e =
    let refusal = ap (λ (x : ℕ × Outcome). x.0) e in
    (same 16 64 (omega arith) (omega arith) xs refusal).outcome (row_count 16) (row_count 64) (omega arith) (omega arith) ∙ ap (λ (x : ℕ × Outcome). x.1) e

empty-line : verdict_of empty_file ≡ confined 45
unfolding judged_in empty_file
empty-line = by-sixteen empty_file refl

guest-forbidden-line : verdict_of guest_forbidden ≡ leaks 3 3 45
unfolding judged_in guest_forbidden
guest-forbidden-line = by-sixteen guest_forbidden refl

journal-line : verdict_of journal ≡ confined 48
unfolding judged_in journal
journal-line = by-sixteen journal refl

named-journal-line : verdict_of named_journal ≡ confined 49
unfolding judged_in named_journal
named-journal-line = by-sixteen named_journal refl

granted-journal-line : verdict_of granted_journal ≡ leaks 5 3 148
unfolding judged_in granted_journal
granted-journal-line = by-sixteen granted_journal refl

built-in-journal-line : verdict_of built_in_journal ≡ leaks 5 3 84
unfolding judged_in built_in_journal
built-in-journal-line = by-sixteen built_in_journal refl

granted-logger-line : verdict_of granted_logger ≡ confined 152
unfolding judged_in granted_logger
granted-logger-line = by-sixteen granted_logger refl

returning-logger-line : verdict_of returning_logger ≡ leaks 5 3 316
unfolding judged_in returning_logger
returning-logger-line = by-sixteen returning_logger refl

-- all eight
pub listed : map verdict_of files ≡ lines
unfolding files lines
listed = λ i. empty-line i ∷ guest-forbidden-line i ∷ journal-line i ∷ named-journal-line i ∷ granted-journal-line i ∷ built-in-journal-line i ∷ granted-logger-line i ∷ returning-logger-line i ∷ []
