-- A return at top level says nothing (document 02, Req 02: "It is to be read and have no effect on any fact. The machine does nothing on that step.").
-- L is the number of labels. proofs/Silent.antt proves it for every L from 5 up. Assumes nothing.
use Rattle.std.specs.Prelude.{◌≡◌, ◌↔◌, true, ℕ, ◌+◌, ◌≤◌, length, take, drop}
use mathlib.Core.List.{List, [], ◌∷◌, ◌++◌, Memᴰ}
use Rattle.layout.specs.Layout.{variable}
use Rattle.rules.specs.Table.{Table}
use Rattle.format.specs.Sheet.{start}
use Rattle.format.specs.Fields.{good}
use Rattle.format.specs.Records.{Record}
use Rattle.format.specs.Reading.{read_file, Readable, longest, written, sheet_after, AllWellFormed}
use Rattle.program.specs.Statement as say
use Rattle.program.specs.Program.{program_in}
use Rattle.verdicts.specs.Verdict.{verdict_outcome, verdict_table, verdict_words}
use Rattle.verdicts.specs.Check.{check_outcome}
use Rattle.machine.specs.State.{State}
use Rattle.machine.specs.Step.{Choice, Move, act, statement_at, step, run}
use Rattle.machine.specs.Start as machine

-- "a return in scope 0" of variable v
abbrev pub top_return : ℕ → Record
top_return v = record { kind = 23; body = 0 ∷ v ∷ [] }

-- xs is the file ys with such a record put in, behind whole records and before any bytes
pub record PutIn (L : ℕ) (ys xs : List ℕ) : Type 0 where
  pub before : List Record
  pub value : ℕ
  pub behind : List ℕ
  pub whole : AllWellFormed L (start L) before
  pub good-value : good L (sheet_after (start L) before) variable value ≡ true  -- 0, or declared by the records before
  pub without : ys ≡ written before ++ behind
  pub with_it : xs ≡ written before ++ (written (top_return value ∷ []) ++ behind)
  pub not-too-long : length xs ≤ longest

-- a run from the start leaves this state
abbrev pub Reached : ℕ → List ℕ → State → Type 0
Reached L xs s = (moves : List Move) × (s ≡ run (program_in L xs) moves (machine.start (program_in L xs)))

-- what is said of the file with the record is said of the file without, positions aside
pub record Unchanged (L : ℕ) (ys xs : List ℕ) : Type 0 where
  -- "It is to be read": the file with it is refused exactly where the file without is, by the same number, three bytes further on (the position of a
  -- readable file is its length)
  pub refusal : (read_file L xs).refusal ≡ (read_file L ys).refusal
  pub position : (read_file L xs).position ≡ (read_file L ys).position + 3
  -- the same declarations
  pub sheet : (read_file L xs).sheet ≡ (read_file L ys).sheet
  -- "no effect on any fact": the same words in the same rows, the same verdict, label and count
  pub table : (t : Table) → verdict_table L xs t ≡ verdict_table L ys t
  pub words : (k : ℕ) (t : List ℕ) → verdict_words k L xs t ≡ verdict_words k L ys t  -- in the words that a caller lends, k to a row
  pub outcome : Readable L ys → (rows : ℕ) → verdict_outcome L rows xs ≡ verdict_outcome L rows ys
  -- and the check says the same of every table
  pub check : Readable L ys → (t : Table) → check_outcome L xs t ≡ check_outcome L ys t
  -- the machine reaches the same states
  pub reached : Readable L ys → (s : State) → Reached L xs s ↔ Reached L ys s

pub record Silent (L : ℕ) : Type 0 where
  pub unchanged : (ys xs : List ℕ) → PutIn L ys xs → Unchanged L ys xs
  -- every such record of a readable file can be taken out, and by `refusal` what is left is readable, so that all of them can
  pub put_in : (xs : List ℕ) → Readable L xs → (at v : ℕ) → Memᴰ (at, top_return v) (read_file L xs).records
      → PutIn L (take at xs ++ drop (at + 3) xs) xs
  -- "The machine does nothing on that step.", in every state of the machine: those that a run reaches. In these no frame of scope 0 has a caller
  -- (`NothingCalledTheTop` of the crate machine)
  pub idle : (xs : List ℕ) → Readable L xs → (s : State) → Reached L xs s → (c : Choice) (v : ℕ)
      → (statement_at (program_in L xs) c.statement).1 ≡ say.return 0 v → step (program_in L xs) (act c) s ≡ s
