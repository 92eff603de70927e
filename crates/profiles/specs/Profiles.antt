-- What it changes that guests are held to a class of names: a file with a record of kind 9 beside the file without it (document 02, Req 04). L is the number
-- of labels. proofs/Profiles.antt proves it for every L from 5 up. Assumes nothing.
use Rattle.std.specs.Prelude.{◌≡◌, ◌↔◌, true, ℕ, ◌+◌, ◌<◌, ◌≤◌, length, take, drop}
use mathlib.Core.List.{List, [], ◌∷◌, ◌++◌, Memᴰ}
use Rattle.layout.specs.Key.{inside, class_count}
use Rattle.rules.specs.Table.{Table, Within, facts}
use Rattle.format.specs.Sheet.{Sheet, start, with_profile}
use Rattle.format.specs.Records.{Record}
use Rattle.format.specs.Reading.{read_file, Readable, longest, written, AllWellFormed}
use Rattle.program.specs.Statement.{bag}
use Rattle.program.specs.Program.{Guest, in_class, program_in}
use Rattle.analysis.specs.Verdict.{least_table}
use Rattle.verdicts.specs.Verdict.{verdict_outcome, verdict_table, verdict_words, Confined}
use Rattle.verdicts.specs.Check.{check_outcome, Accepts}
use Rattle.machine.specs.State.{State}
use Rattle.toplevel.specs.Silent.{Reached}

-- "New kind 9, body c"
abbrev pub profile : ℕ → Record
profile c = record { kind = 9; body = c ∷ [] }

-- the file has no such record
abbrev pub Free : ℕ → List ℕ → Type 0
Free L xs = (at : ℕ) (r : Record) → Memᴰ (at, r) (read_file L xs).records → r.kind ≡ 9 → ⊥

-- the guest of document 01: "scope 3 with variable 1 in every variable field, w, l, q = 3 and key 128: make function, .."
abbrev pub free_guest : Sheet → Guest
free_guest s = record { label = 3; bag = bag; key = inside; prototyped = true; forbidden = s.forbidden }

-- "With it, the guest's load and store use key 128 + c, and the prototype property of guest functions is written only if name 3 is in class c."
abbrev pub held_guest : Sheet → ℕ → Guest
held_guest s c = record { label = 3; bag = bag; key = inside + c; prototyped = in_class s c 3; forbidden = s.forbidden }

-- every name is of class c, by the masks of the whole file
abbrev pub HasEveryName : ℕ → List ℕ → ℕ → Type 0
HasEveryName L xs c = (n : ℕ) → n < 32 → in_class (read_file L xs).sheet c n ≡ true

-- the same table, verdict, label and count, the same check of every table, and the same states of the machine
pub record Unchanged (L : ℕ) (ys xs : List ℕ) : Type 0 where
  pub table : (t : Table) → verdict_table L xs t ≡ verdict_table L ys t
  pub words : (k : ℕ) (t : List ℕ) → verdict_words k L xs t ≡ verdict_words k L ys t  -- in the words that a caller lends, k to a row
  pub outcome : (rows : ℕ) → verdict_outcome L rows xs ≡ verdict_outcome L rows ys
  pub check : (t : Table) → check_outcome L xs t ≡ check_outcome L ys t
  pub reached : (s : State) → Reached L xs s ↔ Reached L ys s

-- xs has the record, with class c, and ys is the same file without it
pub record Held (L : ℕ) (ys xs : List ℕ) (c : ℕ) : Type 0 where
  -- both are readable, they declare the same, and the guest of ys is held to no class
  pub readable : Readable L xs
  pub readable-without : Readable L ys
  pub free : Free L ys
  pub sheet : (read_file L xs).sheet ≡ with_profile (read_file L ys).sheet c
  -- the guest of xs is held to class c
  pub guest : (program_in L xs).guests ≡ held_guest (read_file L xs).sheet c ∷ []
  -- to hold it adds no fact. (States of the machine are not compared: the functions that it makes may lack a property that those of ys have)
  pub fewer : Within (least_table L (program_in L xs)) (least_table L (program_in L ys))
  pub count : facts L (least_table L (program_in L xs)) ≤ facts L (least_table L (program_in L ys))
  -- so that what is confined stays so, and a table that is accepted is accepted for the guest that is held
  pub confined : (rows : ℕ) → Confined (verdict_outcome L rows ys) → Confined (verdict_outcome L rows xs)
  pub accepted : (t : Table) → Accepts L ys t → Accepts L xs t
  -- where its class has every name, nothing changes
  pub unchanged : HasEveryName L xs c → Unchanged L ys xs

pub record Profiles (L : ℕ) : Type 0 where
  -- without the record the guest is document 01's
  pub without : (xs : List ℕ) → Readable L xs → Free L xs → (program_in L xs).guests ≡ free_guest (read_file L xs).sheet ∷ []
  -- every such record of a readable file can be taken out
  pub taken_out : (xs : List ℕ) → Readable L xs → (at c : ℕ) → Memᴰ (at, profile c) (read_file L xs).records
      → Held L (take at xs ++ drop (at + 2) xs) xs c
  -- and one can be put into every readable file that has none, between any two records
  pub put_in : (before : List Record) (behind : List ℕ) (c : ℕ) → AllWellFormed L (start L) before → c < class_count
      → length (written before ++ (9 ∷ c ∷ behind)) ≤ longest → Readable L (written before ++ behind) → Free L (written before ++ behind)
      → Held L (written before ++ behind) (written before ++ (9 ∷ c ∷ behind)) c
