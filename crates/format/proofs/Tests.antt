-- What a test that is made of two tests says, and one turned round. Assumes nothing.
use mathlib.Core.Path.{◌≡◌, refl, sym, ◌∙◌}
use mathlib.Core.Logic.{◌⊎◌, inl, inr}
use mathlib.Core.Bool.{Bool, true, false, not, ◌&&◌, ◌||◌, true≢false}

pub untrue : (a : Bool) → (a ≡ true → ⊥) → not a ≡ true
untrue true f = absurd (f refl)
untrue false f = refl

pub not-both : (a : Bool) → not a ≡ true → a ≡ true → ⊥
not-both true e f = true≢false (sym e)
not-both false e f = true≢false (sym f)

pub and_first : (a b : Bool) → (a && b) ≡ true → a ≡ true
and_first true b e = refl
and_first false b e = e

pub and_second : (a b : Bool) → (a && b) ≡ true → b ≡ true
and_second true b e = e
and_second false b e = absurd (true≢false (sym e))

-- one of the two fails: where the second holds it is the first
pub and-false : (a b : Bool) → (a && b) ≡ false → b ≡ true → a ≡ false
and-false true b e q = absurd (true≢false (sym q ∙ e))
and-false false b e q = refl

pub or-first : (a b : Bool) → a ≡ true → (a || b) ≡ true
or-first a b p = rw p

pub or-second : (a b : Bool) → b ≡ true → (a || b) ≡ true
or-second true b p = refl
or-second false b p = p

pub or-true : (a b : Bool) → (a || b) ≡ true → (a ≡ true) ⊎ (b ≡ true)
or-true true b e = inl refl
or-true false b e = inr e

pub or-false : (a b : Bool) → (a || b) ≡ false → (a ≡ false) × (b ≡ false)
or-false true b e = absurd (true≢false e)
or-false false b e = (refl, e)

pub and-map : (a b c : Bool) → (b ≡ true → c ≡ true) → (a && b) ≡ true → (a && c) ≡ true
and-map true b c f e = f e
and-map false b c f e = e

pub or_map : (a b c d : Bool) → (a ≡ true → c ≡ true) → (b ≡ true → d ≡ true) → (a || b) ≡ true → (c || d) ≡ true
or_map true b c d f g e = or-first c d (f refl)
or_map false b c d f g e = or-second c d (g e)
