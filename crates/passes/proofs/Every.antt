-- Rules of a list, used one after the other. Assumes nothing.
use mathlib.Core.Path.{◌≡◌}
use mathlib.Core.Logic.{◌⊎◌, inl, inr}
use mathlib.Core.Bool.{Bool, false, ◌||◌}
use mathlib.Core.List.{List, [], ◌∷◌, ◌++◌}
use Prim.Native.Nat.{ℕ}
use Rattle.rows.specs.Edition.{labels}
use Rattle.rules.specs.Table.{Table}
use Rattle.rules.specs.Rule.{Rule, every}
use Rattle.rules.specs.Told.{Told}
use Rattle.program.specs.Program.{Program}
use Rattle.uses.specs.Use.{Apart, tells}
use Rattle.shared.specs.Apply.{Applies}
use Rattle.shared.proofs.Applied.{applies-for, applies-then, applies-nothing}

module _ (L : ℕ) (t : Table) (r l : ℕ) where
  pub told-append : (ps qs : List Rule) → Told L t (every ps) r l ⊎ Told L t (every qs) r l → Told L t (every (ps ++ qs)) r l
  told-append [] qs (inl h) = absurd h
  told-append [] qs (inr h) = h
  told-append (p ∷ ps) qs (inl (inl h)) = inl h
  told-append (p ∷ ps) qs (inl (inr h)) = inr (told-append ps qs (inl h))
  told-append (p ∷ ps) qs (inr h) = inr (told-append ps qs (inr h))

  pub append-told : (ps qs : List Rule) → Told L t (every (ps ++ qs)) r l → Told L t (every ps) r l ⊎ Told L t (every qs) r l
  append-told [] qs h = inr h
  append-told (p ∷ ps) qs (inl h) = inl (inl h)
  append-told (p ∷ ps) qs (inr h) = elim (append-told ps qs h) [ inl g ↦ inl (inr g) | inr g ↦ inr g ]

module _ {wide : Bool} {o : ℕ} {p : Program} where
  pub applies-none : {t keeps : List ℕ} (ps : List Rule) → ps ≡ [] → Applies wide o p (tells wide (every ps)) t keeps t keeps false
  applies-none ps e = rw e (applies-nothing (λ a i r l h. h))

  -- two lists, one after the other
  pub applies-append : {t u v keeps kept left : List ℕ} {a b : Bool} (ps qs : List Rule) → Apart wide o → Applies wide o p (tells wide (every ps)) t keeps u kept a
      → Applies wide o p (tells wide (every qs)) u kept v left b → Applies wide o p (tells wide (every (ps ++ qs))) t keeps v left (a || b)
  applies-append ps qs w first second =
      applies-for w (λ c i r l h. told-append (labels wide) c r l ps qs h) (λ c i r l h. append-told (labels wide) c r l ps qs h) (applies-then w first second)

  -- for a list that is the same
  pub applies-same : {t u keeps kept : List ℕ} {grew : Bool} (q s : Rule) → s ≡ q → Applies wide o p (tells wide q) t keeps u kept grew
      → Applies wide o p (tells wide s) t keeps u kept grew
  applies-same q s e a = rw e a
