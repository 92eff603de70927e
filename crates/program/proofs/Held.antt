-- The guest of any sheet: its class is one, its key is one, and it makes functions in one of two ways. In a file that can be read it is document 01's where
-- no record holds it to a class, and where its class has every name it may use every name. Assumes nothing.
use mathlib.Core.Path.{◌≡◌, refl, ap, ◌∙◌}
use mathlib.Core.List.{List}
use mathlib.Core.Bool.{Bool, true, false, cond}
use Prim.Native.Nat.{ℕ, ◌+◌, ◌-◌, ◌<◌}
use native.Mathlib.Omega.{arith}
use lib.Dec.{ltb}
use borrow.Author.Tests.{le-ltb, lt-ltb, ltb-true}
use Rattle.layout.specs.Key.{inside, outside, Key}
use Rattle.layout.proofs.Keys.{class-key}
use Rattle.rules.specs.Rule.{chosen}
use Rattle.format.specs.Sheet.{Sheet}
use Rattle.program.specs.Statement as say
use Rattle.program.specs.Program.{Guest, function_made, in_class, names_of, guest_class}

-- ---- the class

class-by : (c : ℕ) (b : Bool) → ltb c 8 ≡ b → cond b c 0 < 8
class-by c true e = ltb-true c 8 e
class-by c false e = omega arith

pub class-below : (s : Sheet) → guest_class s < 8
class-below s = class-by s.profile (ltb s.profile 8) refl

-- ---- its key

pub guest-key : (s : Sheet) → Key (inside + guest_class s)
guest-key s = class-key (guest_class s) (class-below s)

second-of : (a b : Bool) (xs ys zs : List ℕ) → a ≡ false → b ≡ true → cond a xs (cond b ys zs) ≡ ys
second-of a b xs ys zs e f = rw (e, f)

-- its names are those of the class
pub class-names : (s : Sheet) (c : ℕ) → c < 8 → names_of s (inside + c) ≡ chosen (in_class s c) 32
unfolding names_of
class-names s c h =
    let over : (inside + c) - inside ≡ c = omega arith in
    second-of (ltb (inside + c) inside) (ltb (inside + c) outside) _ _ _ (le-ltb (inside + c) inside (omega arith)) (lt-ltb (inside + c) outside (omega arith))
    ∙ ap (λ (d : ℕ). chosen (in_class s d) 32) over

-- ---- how it makes functions

-- what holds of both ways holds of its own
pub made-either : (C : say.Statement → Type 0) (g : Guest) → C (say.make_function g.label g.bag g.label g.label)
    → C (say.make g.label g.bag g.label) → C (function_made g)
made-either C g with-property without = go g.prototyped
  where
    go : (b : Bool) → C (cond b (say.make_function g.label g.bag g.label g.label) (say.make g.label g.bag g.label))
    go true = with-property
    go false = without
