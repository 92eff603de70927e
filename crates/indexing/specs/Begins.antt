-- Words with a bit for each byte of a file, where records begin. L is the number of labels. Assumes nothing.
use Rattle.std.specs.Prelude.{◌≡◌, ◌⊎◌, List, ℕ, ◌+◌, ◌-◌, ◌*◌, ◌<◌, length, get_or, cond, ltb}
use Rattle.words.specs.Words.{bit}
use Rattle.records.specs.Walk.{Walk}
use Rattle.indexing.specs.declared.position.Position.{Position}
use Rattle.indexing.specs.declared.position.Position.TheVariants.{Record, Lines}
use Rattle.indexing.specs.declared.starts.Starts.{Starts}

-- a record begins at this position
abbrev pub BeginsAt : ℕ → List ℕ → ℕ → Type 0
BeginsAt L file at = Walk L file at × (at < length file)

-- the word of the w-th 64 bytes; there are 512
abbrev pub word_at : Starts → ℕ → ℕ
word_at starts w = cond (ltb w 256) (get_or starts.low w 0) (cond (ltb w 512) (get_or starts.high (w - 256) 0) 0)

-- a record begins where a bit is
abbrev pub Begins : ℕ → List ℕ → Starts → Type 0
Begins L file starts = (w i : ℕ) → bit (word_at starts w) i ≡ 1 → BeginsAt L file (64 * w + i)

-- a bit is that of position `at`, or was there before
abbrev pub More : ℕ → Starts → Starts → Type 0
More at starts later = (w i : ℕ) → bit (word_at later w) i ≡ 1 → (64 * w + i ≡ at) ⊎ (bit (word_at starts w) i ≡ 1)

-- what the search names: where it is a record, one begins there
abbrev pub Named : ℕ → List ℕ → Position → Type 0
Named L file (Record at) = BeginsAt L file at
Named L file Lines = Unit {0}
