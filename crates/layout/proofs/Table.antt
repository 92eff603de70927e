-- The table of kinds, read at a byte that is no kind, and at the classes that the code hands out. Assumes nothing.
use mathlib.Core.Path.{◌≡◌, refl, sym, ap, ◌∙◌}
use mathlib.Core.Bool.{Bool, true, true≢false}
use mathlib.Core.List.{List, [], map}
use Prim.Native.Nat.{ℕ, ◌≤◌}
use native.Mathlib.Decide.{dec_lt}
use native.Mathlib.Omega.{arith}
use lib.Dec.{leb}
use borrow.Author.Tests.{leb-true}
use Rattle.std.specs.List.{list_all}
use Rattle.std.proofs.lemmas.Bool.{true_from_ne_false}
use Rattle.std.proofs.lemmas.List.Folds.{list_all_at}
use lib.ListN.{length, length-map, get_or-eq_default}
use Rattle.layout.specs.Layout.{Class, kinds, fields_of, body_length}
use Rattle.layout.specs.declared.Kind.{Kind}
use Rattle.layout.specs.declared.Kind.TheVariants as k
use Rattle.layout.specs.declared.Class as declared
use Rattle.layout.specs.Kinds.{number_of, class_meant}

pub no_kind : (k : ℕ) → 27 ≤ k → body_length k ≡ 0
no_kind k h = ap length (get_or-eq_default kinds [] h)

-- every kind has a body
pub some-body : (kind : Kind) → body_length (number_of kind) ≡ 0 → ⊥
some-body k.Name e = absurd (omega (arith, e))
some-body k.Label e = absurd (omega (arith, e))
some-body k.Forbid e = absurd (omega (arith, e))
some-body k.Function e = absurd (omega (arith, e))
some-body k.Variable e = absurd (omega (arith, e))
some-body k.Grant e = absurd (omega (arith, e))
some-body k.Property e = absurd (omega (arith, e))
some-body k.Held e = absurd (omega (arith, e))
some-body k.Profile e = absurd (omega (arith, e))
some-body k.Copy e = absurd (omega (arith, e))
some-body k.Load e = absurd (omega (arith, e))
some-body k.Store e = absurd (omega (arith, e))
some-body k.Make e = absurd (omega (arith, e))
some-body k.MakeFunction e = absurd (omega (arith, e))
some-body k.Call e = absurd (omega (arith, e))
some-body k.New e = absurd (omega (arith, e))
some-body k.Return e = absurd (omega (arith, e))
some-body k.Throw e = absurd (omega (arith, e))
some-body k.Catch e = absurd (omega (arith, e))
some-body k.Prim e = absurd (omega (arith, e))

-- no body is longer than 11
abbrev short : List Class → Bool
short cs = leb (length cs) 11

all_short : list_all short kinds ≡ true
all_short = refl

pub body-short : (k : ℕ) → body_length k ≤ 11
body-short k =
    elim (dec_lt k 27) [
      | yes h ↦ (let test : short (fields_of k) ≡ true = true_from_ne_false _ (λ e. true≢false (sym all_short ∙ list_all_at short kinds k [] h e)) in leb-true _ _ test)
      | no h ↦ (let none = no_kind k (omega arith) in omega (arith, none))
    ]

-- ---- the classes cs, which the code gives for kind k

module _ (cs : List declared.Class) (k : ℕ) (e : map class_meant cs ≡ fields_of k) where
  pub fields-length : length cs ≡ body_length k
  fields-length = sym (length-map cs class_meant) ∙ ap length e
