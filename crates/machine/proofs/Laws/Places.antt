-- Lists with one element more, or another one at a place. Assumes nothing.
use mathlib.Core.Path.{◌≡◌, sym, ◌∙◌, subst}
use mathlib.Core.List.{List, [], ◌∷◌, ◌++◌}
use Prim.Native.Nat.{ℕ, ◌<◌}
use native.Mathlib.Omega.{arith}
use native.Mathlib.Decide.{ℕ_discrete, dec_lt}
use lib.ListN.{length, get_or, set, length-append, get_or-append, get_or-eq_default}
use lib.Seq.{get_or-set_same, get_or-set_other, set_out, get_or-append_seam}

-- what holds of the elements of a list, of one more and of the default holds at each place
pub at-append : {A : Type 0} (C : A → Type 0) (xs : List A) (x d : A) → ((i : ℕ) → C (get_or xs i d)) → C x → (i : ℕ) → C (get_or (xs ++ (x ∷ [])) i d)
at-append C xs x d h hx i = go (dec_lt i (length xs)) (ℕ_discrete i (length xs))
  where
    go : Dec (i < length xs) → Dec (i ≡ length xs) → C (get_or (xs ++ (x ∷ [])) i d)
    go (yes l) e = subst C (sym (get_or-append xs (x ∷ []) d i l)) (h i)
    go (no l) (yes e) = rw (e, get_or-append_seam xs x [] d) hx
    go (no l) (no e) =
        subst C (get_or-eq_default xs d (omega arith) ∙ sym (get_or-eq_default (xs ++ (x ∷ [])) d {n = i} (omega (arith, length-append xs (x ∷ []))))) (h i)

pub at_set : {A : Type 0} (C : A → Type 0) (xs : List A) (k : ℕ) (x d : A) → ((i : ℕ) → C (get_or xs i d)) → C x → (i : ℕ) → C (get_or (set xs k x) i d)
at_set C xs k x d h hx i = go (ℕ_discrete i k) (dec_lt k (length xs))
  where
    go : Dec (i ≡ k) → Dec (k < length xs) → C (get_or (set xs k x) i d)
    go (no e) l = subst C (sym (get_or-set_other xs k i x d e)) (h i)
    go (yes e) (yes l) = rw (e, get_or-set_same xs k x d l) hx
    go (yes e) (no l) = rw (set_out xs k x (omega arith)) (h i)
