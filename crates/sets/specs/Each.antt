-- A set made of two others word by word. Assumes nothing.
use Rattle.std.specs.Prelude.{Bool, true, false, ℕ}
use Rattle.sets.specs.declared.Set.{Set}

-- each word of r that counts is to those of x and y as R says
abbrev pub EachWord : Bool → (ℕ → ℕ → ℕ → Type 0) → Set → Set → Set → Type 0
EachWord true R x y r = R x.a y.a r.a × R x.b y.b r.b × R x.c y.c r.c × R x.d y.d r.d
EachWord false R x y r = R x.a y.a r.a
