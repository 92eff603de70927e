-- Where records begin: at such a position what is left of a readable file is the records left, written out. L is the number of labels. Assumes nothing.
use Rattle.std.specs.Prelude.{◌≡◌, List, [], ◌∷◌, ◌++◌, ℕ, ◌+◌, ◌≤◌, ◌<◌, length, get_or, take, drop}
use Rattle.layout.specs.Layout.{body_length}
use Rattle.format.specs.Records.{Record}
use Rattle.format.specs.Reading.{read_file, written, positioned}
use Rattle.records.specs.Range.{InRange}

-- every record's kind is known, and its bytes are in their ranges
abbrev pub Sound : ℕ → Record → Type 0
Sound L r = (0 < body_length r.kind) × InRange L r.kind r.body

abbrev pub AllSound : ℕ → List Record → Type 0
AllSound L [] = Unit {0}
AllSound L (r ∷ rs) = Sound L r × AllSound L rs

-- the records before position `at` are done, and the rest begins there
pub record Walk (L : ℕ) (file : List ℕ) (at : ℕ) : Type 0 where
  pub done : List Record
  pub rest : List Record
  pub whole : (read_file L file).records ≡ positioned 0 (done ++ rest)
  pub bytes : drop at file ≡ written rest
  pub within : at ≤ length file
  pub sound : AllSound L rest

-- the body of the record at position `at`
abbrev pub body_at : List ℕ → ℕ → List ℕ
body_at file at = take (body_length (get_or file at 0)) (drop (at + 1) file)
