-- Words and rows. What a caller lends is words of 64 bits; what the rules speak of is rows, each the number of its set of labels, bit l for label l.
-- A row is a run of k words (document 02, Req 13: "a row is four words with label l in bit l of the run"): word i of the run has the labels from 64 * i
-- up. Sets in variables are such runs too, so every law of the two is stated once, over `number`. Assumes nothing.
use Rattle.std.specs.Prelude.{List, [], ◌∷◌, ◌++◌, ℕ, zero, suc, ◌+◌, ◌*◌, ◌/◌, ◌%◌, ◌^◌, ◌<◌, length, get_or}

-- every word has 64 bits
abbrev pub Words : List ℕ → Type 0
Words t = (i : ℕ) → get_or t i 0 < 2 ^ 64

-- the number of the k words of t from place i on
unfoldable pub number : ℕ → List ℕ → ℕ → ℕ
number zero t i = 0
number (suc k) t i = number k t (i + 1) * 2 ^ 64 + get_or t i 0

-- the n rows of k words each that begin at place o
unfoldable pub view : ℕ → ℕ → ℕ → List ℕ → List ℕ
unfolding number
view k zero o t = []
view k (suc n) o t = number k t o ∷ view k n (o + k) t

-- how many rows the words have room for
abbrev pub room_for : ℕ → List ℕ → ℕ
room_for k t = length t / k

-- the rows that the words hold; words left over at the end, fewer than k, belong to none
abbrev pub rows_of : ℕ → List ℕ → List ℕ
rows_of k t = view k (room_for k t) 0 t

-- and back: the k words of a row
unfoldable pub cut : ℕ → ℕ → List ℕ
cut zero n = []
cut (suc k) n = n % 2 ^ 64 ∷ cut k (n / 2 ^ 64)

-- the words of the rows, one row behind the other
unfoldable pub laid : ℕ → List ℕ → List ℕ
unfolding cut
laid k [] = []
laid k (n ∷ rows) = cut k n ++ laid k rows
