-- A step of the walk over the records of a file: the position where the walk stands, if a byte is there, and the walk goes on behind the record's body. Assumes nothing.
use Rattle.std.specs.Prelude.{◌≡◌, ℕ, ◌+◌, ◌≤◌, ◌<◌, length, get_or, Option, MatchOption}
use Rattle.layout.specs.Layout.{body_length}
use Rattle.records.specs.declared.Cursor.{Cursor}

abbrev pub Steps : Cursor → Option ℕ → Cursor → Type 0
Steps s r t =
    (t.file.now ≡ s.file.now)
    × MatchOption r (length s.file.now ≤ s.at) (λ at. (at ≡ s.at) × (at < length s.file.now) × (t.at ≡ at + 1 + body_length (get_or s.file.now at 0)))
