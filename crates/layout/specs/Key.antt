-- Key bytes: which bytes are keys, and where those of classes begin and those of the names outside them. Assumes nothing.
use Rattle.std.specs.Prelude.{◌≡◌, Bool, true, ◌&&◌, ◌||◌, ℕ, leb, ltb}

-- "A key byte is a name, or 128 + c for all names of class c" (document 01)
abbrev pub inside : ℕ
inside = 128

-- "Key bytes 136 + c, for c from 0 to 7, take this meaning": "all names outside class c" (request 01)
abbrev pub outside : ℕ
outside = 136

-- "c from 0 to 7": how many classes of names there are
abbrev pub class_count : ℕ
class_count = 8

-- the first byte behind them: "144 is refused" (request 01)
abbrev pub keys_end : ℕ
keys_end = 144

-- the byte is a key: a name, 0 to 31, or one of those
abbrev pub is_key : ℕ → Bool
is_key b = ltb b 32 || (leb inside b && ltb b keys_end)

abbrev pub Key : ℕ → Type 0
Key b = is_key b ≡ true
