-- What a key byte is: a name below `inside`, and below `keys_end`. Assumes nothing.
use mathlib.Core.Path.{◌≡◌, refl, sym, ◌∙◌}
use mathlib.Core.Bool.{Bool, true, false}
use Prim.Native.Nat.{ℕ, ◌+◌, ◌≤◌, ◌<◌}
use native.Mathlib.Decide.{dec_lt}
use native.Mathlib.Omega.{arith}
use lib.Dec.{ltb}
use borrow.Author.Tests.{le-ltb, lt-ltb, lt-leb, le-leb, ltb-true}
use Rattle.layout.specs.Key.{inside, keys_end, is_key, Key}

pub key-low : (b : ℕ) → b < inside → is_key b ≡ ltb b 32
key-low b h = go (ltb b 32) refl
  where
    go : (s : Bool) → ltb b 32 ≡ s → is_key b ≡ ltb b 32
    go true e = rw e
    go false e = rw (e, lt-leb inside b h)

pub key-high : (b : ℕ) → inside ≤ b → is_key b ≡ ltb b keys_end
key-high b h = rw (le-ltb b 32 (omega arith), le-leb inside b h)

-- a key below `inside` is a name
pub key-name : (b : ℕ) → Key b → b < inside → b < 32
key-name b k h = ltb-true b 32 (sym (key-low b h) ∙ k)

pub key_below : (b : ℕ) → Key b → b < keys_end
key_below b k = elim (dec_lt b inside) [ yes h ↦ omega (arith, h) | no h ↦ ltb-true b keys_end (sym (key-high b (omega (arith, h))) ∙ k) ]

-- those of classes are keys
pub class-key : (c : ℕ) → c < 8 → Key (inside + c)
class-key c h = key-high (inside + c) (omega arith) ∙ lt-ltb (inside + c) keys_end (omega arith)
