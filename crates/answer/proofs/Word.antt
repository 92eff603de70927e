-- Every part of an outcome is read back from its word, so no two outcomes have the same word. Assumes nothing.
use mathlib.Core.Path.{◌≡◌, refl, sym, ap, subst, ◌∙◌}
use mathlib.Core.Logic.{inl, inr}
use mathlib.Core.Bool.{cond}
use Prim.Native.Nat.{ℕ, zero, suc, ◌+◌, ◌*◌, ◌/◌, ◌^◌, ◌<◌}
use native.Mathlib.Omega.{arith}
use lib.Dec.{eqb}
use borrow.Author.Tests.{ne_eqb}
use Rattle.answer.specs.Outcome.{Outcome, confined, leaks, accepted, refused, holds, choice, none_helps, Parts, parts, parts_of, packed, Ranged, field, parts_in, ReadBack}

-- ---- the parts

same : {k n at l g c w k' n' at' l' g' c' w' : ℕ} → k ≡ k' → n ≡ n' → at ≡ at' → l ≡ l' → g ≡ g' → c ≡ c' → w ≡ w'
    → parts k n at l g c w ≡ parts k' n' at' l' g' c' w'
same k n at l g c w = λ i. parts (k i) (n i) (at i) (l i) (g i) (c i) (w i)

-- above the label stands the guest's, and above both the count
holder-read : (at g : ℕ) → at < 2 ^ 13 → g < 2 ^ 8 → field 17 8 (packed (holds at g)) ≡ g
holder-read at g h k = let above : packed (holds at g) / 2 ^ 17 ≡ g = omega arith in rw above (omega arith)

guest-read : (l g c : ℕ) → l < 2 ^ 9 → g < 2 ^ 8 → field 17 8 (packed (leaks l g c)) ≡ g
guest-read l g c h k = let above : packed (leaks l g c) / 2 ^ 17 ≡ g + c * 2 ^ 15 = omega arith in rw above (omega arith)

count-read : (l g c : ℕ) → l < 2 ^ 9 → g < 2 ^ 8 → c < 2 ^ 22 → field 32 22 (packed (leaks l g c)) ≡ c
count-read l g c h k b = let above : packed (leaks l g c) / 2 ^ 32 ≡ c = omega arith in rw above (omega arith)

-- 16 is an outcome of its own
sixteen-read : (at : ℕ) → at < 2 ^ 56 → ReadBack (refused 16 at)
sixteen-read at h =
    let low : field 0 4 (packed (refused 16 at)) ≡ 0 = omega arith in
    let kind : field 4 4 (packed (refused 16 at)) ≡ 3 = omega arith in
    rw (low, kind) (same refl refl (omega arith) refl refl refl refl)

pub read_back : (o : Outcome) → Ranged o → ReadBack o
read_back (confined c) r =
    let low : field 0 4 (packed (confined c)) ≡ 0 = omega arith in
    let kind : field 4 4 (packed (confined c)) ≡ 0 = omega arith in
    rw (low, kind) (same refl refl refl refl refl (omega arith) refl)
read_back (leaks l g c) r =
    let low : field 0 4 (packed (leaks l g c)) ≡ 0 = omega arith in
    let kind : field 4 4 (packed (leaks l g c)) ≡ 1 = omega arith in
    rw (low, kind) (same refl refl refl (omega arith) (guest-read l g c r.0 r.1) (count-read l g c r.0 r.1 r.2) refl)
read_back (accepted c) r =
    let low : field 0 4 (packed (accepted c)) ≡ 0 = omega arith in
    let kind : field 4 4 (packed (accepted c)) ≡ 2 = omega arith in
    rw (low, kind) (same refl refl refl refl refl (omega arith) refl)
read_back (refused n at) (inl r) =
    let small = ne_eqb n 16 (λ e. omega arith) in
    let some = ne_eqb n 0 (λ e. omega arith) in
    let low : field 0 4 (n + at * 2 ^ 4) ≡ n = omega arith in
    rw (small, low, some, some, ne_eqb n 11 r.2, small) (same refl refl (omega arith) refl refl refl refl)
read_back (refused n at) (inr r) = subst (λ (m : ℕ). ReadBack (refused m at)) (sym r.0) (sixteen-read at r.1)
read_back (holds at g) r =
    let low : field 0 4 (packed (holds at g)) ≡ 11 = omega arith in
    rw low (same refl refl (omega arith) refl (holder-read at g r.0 r.1) refl refl)
read_back (choice w) r =
    let low : field 0 4 (packed (choice w)) ≡ 0 = omega arith in
    let kind : field 4 4 (packed (choice w)) ≡ 4 = omega arith in
    rw (low, kind) (same refl refl refl refl refl refl (omega arith))
read_back none_helps r = refl

-- ---- the whole outcome

-- it is what its parts say
unfoldable assembled : ℕ → Parts → Outcome
assembled zero p = confined p.count
assembled (suc zero) p = leaks p.label p.guest p.count
assembled (suc (suc zero)) p = accepted p.count
assembled (suc (suc (suc zero))) p = cond (eqb p.number 11) (holds p.position p.guest) (refused p.number p.position)
assembled (suc (suc (suc (suc zero)))) p = choice p.choice
assembled (suc (suc (suc (suc (suc k))))) p = none_helps

unfoldable whole : Parts → Outcome
unfolding assembled
whole p = assembled p.kind p

whole_parts : (o : Outcome) → Ranged o → whole (parts_of o) ≡ o
unfolding whole
whole_parts (confined c) r = refl
whole_parts (leaks l g c) r = refl
whole_parts (accepted c) r = refl
whole_parts (refused n at) (inl r) = rw (ne_eqb n 11 r.2)
whole_parts (refused n at) (inr r) = rw r.0
whole_parts (holds at g) r = refl
whole_parts (choice w) r = refl
whole_parts none_helps r = refl

-- so it can be read back whole
unfoldable pub unpacked : ℕ → Outcome
unfolding whole
unpacked w = whole (parts_in w)

pub unpacked-packed : (o : Outcome) → Ranged o → unpacked (packed o) ≡ o
unfolding unpacked
unpacked-packed o r = ap whole (read_back o r) ∙ whole_parts o r

pub packed-injective : (o q : Outcome) → Ranged o → Ranged q → packed o ≡ packed q → o ≡ q
packed-injective o q r s e = sym (unpacked-packed o r) ∙ ap unpacked e ∙ unpacked-packed q s

-- and the word has 64 bits
pub packed-below : (o : Outcome) → Ranged o → packed o < 2 ^ 64
packed-below (confined c) r = omega arith
packed-below (leaks l g c) r = omega arith
packed-below (accepted c) r = omega arith
packed-below (refused n at) (inl r) = rw (ne_eqb n 16 (λ e. omega arith)) (omega arith)
packed-below (refused n at) (inr r) = rw r.0 (omega arith)
packed-below (holds at g) r = omega arith
packed-below (choice w) r = omega arith
packed-below none_helps r = omega arith
