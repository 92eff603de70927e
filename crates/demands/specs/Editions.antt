-- Both editions (document 02, Req 13: "The rules and the soundness argument are shown with the number of labels, 5 to 256, as a parameter, and both
-- editions take them over."), what a caller sees who lends words of 64 bits, k to a row, and what requests say of both.
-- proofs/Editions.antt proves `Editions`. Assumes nothing.
use Rattle.std.specs.Prelude.{◌≡◌, ◌↔◌, List, ◌++◌, ℕ, ◌+◌, ◌*◌, ◌/◌, ◌%◌, ◌^◌, ◌≤◌, ◌<◌, length, get_or, drop}
use Rattle.words.specs.Words.{bit}
use Rattle.rows.specs.Row.{row_count}
use Rattle.rows.specs.Run.{Words, room_for, rows_of, laid}
use Rattle.answer.specs.Outcome.{refused}
use Rattle.format.specs.Reading.{Readable}
use Rattle.verdicts.specs.Verdict.{verdict_outcome, verdict_table, verdict_words, Confined}
use Rattle.verdicts.specs.Check.{Accepts}
use Rattle.editions.specs.Same.{Same}
use Rattle.toplevel.specs.Silent.{Silent}
use Rattle.profiles.specs.Profiles.{Profiles}
use Rattle.demands.specs.Demands.{Demands}

-- words and rows carry one another
pub record RoundTrip (k : ℕ) : Type 0 where
  -- "label l in bit l of the run": of the k words of row r, word l / 64 has it in bit l % 64
  pub label : (t : List ℕ) → Words t → (r l : ℕ) → r < room_for k t → l < 64 * k
      → bit (get_or (rows_of k t) r 0) l ≡ bit (get_or t (k * r + l / 64) 0) (l % 64)
  -- words read as rows and laid out again; what is left over is less than a row
  pub words : (t : List ℕ) → Words t → laid k (rows_of k t) ++ drop (k * room_for k t) t ≡ t
  -- rows laid out and read again
  pub rows : (rows rest : List ℕ) → length rest < k → ((r : ℕ) → get_or rows r 0 < 2 ^ (64 * k)) → rows_of k (laid k rows ++ rest) ≡ rows

-- the demands, of the words t that are lent
pub record InWords (k L : ℕ) (xs t : List ℕ) : Type 0 where
  -- "Refusal 8 is for fewer than 35,840 words": too few rows is too few words
  pub short : (room_for k t < row_count L) ↔ (length t < k * row_count L)
  -- the rows of the words that are left are the verdict's table
  pub rows_left : rows_of k (verdict_words k L xs t) ≡ verdict_table L xs (rows_of k t)
  -- "A refusal leaves the lent table unaltered": every word
  pub refusal-leaves : (n at : ℕ) → verdict_outcome L (room_for k t) xs ≡ refused n at → verdict_words k L xs t ≡ t
  -- document 01: "words beyond stay untouched"
  pub beyond-stay : drop (k * row_count L) (verdict_words k L xs t) ≡ drop (k * row_count L) t
  pub same_length : length (verdict_words k L xs t) ≡ length t
  -- "after confined the check accepts for it the lent table as the verdict left it."
  pub confined-left : Readable L xs → row_count L ≤ room_for k t → Confined (verdict_outcome L (room_for k t) xs)
      → Accepts L xs (rows_of k (verdict_words k L xs t))

-- an edition of L labels in rows of k words
pub record Edition (k L : ℕ) : Type 0 where
  pub demands : Demands L
  pub round_trip : RoundTrip k
  pub in_words : (xs t : List ℕ) → Words t → InWords k L xs t

pub record Editions : Type 0 where
  -- "with the number of labels, 5 to 256, as a parameter"
  pub every : (L : ℕ) → 5 ≤ L → L ≤ 256 → Demands L
  -- "and both editions take them over": the contracts of `verdict` and `check`, and of `verdict_large` and `check_large`
  pub small : Edition 1 64
  pub large : Edition 4 256
  -- "the table has 256 + 8,192 + 256 + 256 = 8,960 rows. Refusal 8 is for fewer than 35,840 words"; document 01: 2,432
  pub sizes : (row_count 64 ≡ 2432) × (row_count 256 ≡ 8960) × (4 * row_count 256 ≡ 35840)
  -- a row of one word is that word, so that the contracts of the small edition speak of the lent words themselves
  pub one_word : (t : List ℕ) → rows_of 1 t ≡ t
  pub one-word-room : (t : List ℕ) → room_for 1 t ≡ length t
  pub one-word-left : (xs t : List ℕ) → Words t → verdict_words 1 64 xs t ≡ verdict_table 64 xs t
  -- Req 02: a return at top level "is to be read and have no effect on any fact. The machine does nothing on that step."
  pub top-returns : (L : ℕ) → 5 ≤ L → Silent L
  -- Req 04: what it changes that guests are held to a class of names: without the record, and where the class has every name, nothing; and never a fact more
  pub profiles : (L : ℕ) → 5 ≤ L → Profiles L
  -- "A file readable in the small edition has the same verdict and count in the large one."
  pub small-in-large : (xs : List ℕ) → Readable 64 xs → Same 64 256 xs
