-- What is refused of a file, said of its bytes and not of how they are read (document 01, "What each operation says no to", without 8, which is about
-- the table): the first record that is not well formed, its first bad field, and where its kind byte stands. L is the number of labels.
-- Assumes nothing.
use Rattle.std.specs.Prelude.{List, ◌∷◌, ◌++◌, ◌≡◌, true, false, ℕ, ◌<◌, ◌≤◌, length}
use Rattle.layout.specs.Layout.{Class, fields_of, body_length}
use Rattle.format.specs.Sheet.{Sheet, start}
use Rattle.format.specs.Fields.{good, refusal_of, Fits}
use Rattle.format.specs.Records.{Record, misnamed, twice}
use Rattle.format.specs.Reading.{written, sheet_after, AllWellFormed, Missing, longest}

-- "from the left": every byte before this one is good in its field
pub record BadField (L : ℕ) (s : Sheet) (cs : List Class) (bs : List ℕ) (n : ℕ) : Type 0 where
  pub before : List Class
  pub class : Class
  pub after : List Class
  pub good-bytes : List ℕ
  pub byte : ℕ
  pub bytes_after : List ℕ
  pub classes : cs ≡ before ++ (class ∷ after)
  pub bytes : bs ≡ good-bytes ++ (byte ∷ bytes_after)
  pub good-before : Fits L s before good-bytes
  pub bad : good L s class byte ≡ false
  pub number : n ≡ refusal_of class

-- a whole body is refused with n: "from the left, 3 for a bad variable byte, 4 a bad label or scope, 5 a bad name, key, mask, type or flag; 6 last,
-- for a name, label, variable or function declared twice"; of request 04: "A c above 7 is refused 5, a repeat 6". Of kind 5, a
-- name other than 255 where the owner isn't 0 is refused once all three bytes were good: the name is the last of them, so this is from the left too
pub data BadBody (L : ℕ) (s : Sheet) (k : ℕ) (bs : List ℕ) (n : ℕ) : Type 0 where
  bad-byte : BadField L s (fields_of k) bs n → BadBody L s k bs n
  name-with-owner : Fits L s (fields_of k) bs → misnamed k bs ≡ true → n ≡ 5 → BadBody L s k bs n
  declared-twice : Fits L s (fields_of k) bs → misnamed k bs ≡ false → twice s k bs ≡ true → n ≡ 6 → BadBody L s k bs n

-- the record of kind k, with the bytes xs behind it, is refused with n: "1 unknown kind; 2 record cut short; from the left .."
pub data BadRecord (L : ℕ) (s : Sheet) (k : ℕ) (xs : List ℕ) (n : ℕ) : Type 0 where
  unknown-kind : body_length k ≡ 0 → n ≡ 1 → BadRecord L s k xs n
  cut_short : 0 < body_length k → length xs < body_length k → n ≡ 2 → BadRecord L s k xs n
  bad-body : (bs ys : List ℕ) → xs ≡ bs ++ ys → 0 < body_length k → length bs ≡ body_length k → BadBody L s k bs n → BadRecord L s k xs n

-- the file is refused with n at position `at`: "9 (position 0) if the file is longer than 32,768 bytes; then records in order .. The position is that
-- of the record's kind byte. Then 7 (position: file length) if a label of type 2 from 5 up has no function record."
pub data BadFile (L : ℕ) (xs : List ℕ) (n at : ℕ) : Type 0 where
  too_long : longest < length xs → n ≡ 9 → at ≡ 0 → BadFile L xs n at
  first-bad : length xs ≤ longest → (rs : List Record) (k : ℕ) (ys : List ℕ) → xs ≡ written rs ++ (k ∷ ys) → AllWellFormed L (start L) rs
      → BadRecord L (sheet_after (start L) rs) k ys n → at ≡ length (written rs) → BadFile L xs n at
  function-missing : length xs ≤ longest → (rs : List Record) → xs ≡ written rs → AllWellFormed L (start L) rs
      → (l : ℕ) → Missing (sheet_after (start L) rs) rs l → n ≡ 7 → at ≡ length xs → BadFile L xs n at
