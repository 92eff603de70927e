-- What stands in an array of the sheet: padded with its default at the start, after a store, after a copy into it. Assumes nothing.
use mathlib.Core.Path.{◌≡◌, refl, sym, ◌∙◌, subst}
use mathlib.Core.Logic.{◌⊎◌, inl, inr}
use mathlib.Core.List.{List, [], ◌∷◌, ◌++◌, append_assoc}
use Prim.Native.Nat.{ℕ, zero, suc, ◌+◌, ◌-◌, ◌<◌, ◌≤◌}
use native.Mathlib.Omega.{arith}
use native.Mathlib.Decide.{ℕ_discrete, dec_lt}
use lib.ListN.{length, get_or, set, take, drop, replicate, length-take, length-drop, get_or-append}
use lib.Seq.{get_or-set_same, get_or-set_other, get_or-append-add, get_or-take, get_or-drop, paste, length-take-le, length_paste_head, ext_get_or, drop_at, take-length, take-append_seam}

pub padded : (xs : List ℕ) (n a i : ℕ) → get_or (xs ++ replicate n a) i a ≡ get_or xs i a
padded [] zero a i = refl
padded [] (suc n) a zero = refl
padded [] (suc n) a (suc i) = padded [] n a i
padded (x ∷ xs) n a zero = refl
padded (x ∷ xs) n a (suc i) = padded xs n a i

-- after a store at one place in two arrays: what holds of the new entries, and of the old ones at every other place, holds everywhere
pub after-stores : (P : ℕ → ℕ → ℕ → Type 0) (xs ys : List ℕ) (i x y d e : ℕ) → i < length xs → i < length ys → P i x y
    → ((j : ℕ) → (j ≡ i → ⊥) → P j (get_or xs j d) (get_or ys j e)) → (j : ℕ) → P j (get_or (set xs i x) j d) (get_or (set ys i y) j e)
after-stores P xs ys i x y d e hx hy p q j =
    elim (ℕ_discrete j i) [
      | yes r ↦ rw (r, get_or-set_same xs i x d hx, get_or-set_same ys i y e hy) p
      | no r ↦ rw (get_or-set_other xs i j x d r, get_or-set_other ys i j y e r) (q j r)
    ]

-- the same in one array
pub after_store : (P : ℕ → ℕ → Type 0) (xs : List ℕ) (i x d : ℕ) → i < length xs → P i x → ((j : ℕ) → (j ≡ i → ⊥) → P j (get_or xs j d))
    → (j : ℕ) → P j (get_or (set xs i x) j d)
after_store P xs i x d h p q = after-stores (λ j a b. P j a) xs xs i x x d d h h p q

-- ---- after a copy of n elements of vs to place at

pub pasted-before : (d : List ℕ) (at : ℕ) (vs : List ℕ) (n z i : ℕ) → at ≤ length d → i < at → get_or (paste d at vs n) i z ≡ get_or d i z
pasted-before d at vs n z i hd h =
    let a : length (take at d) ≡ at = length-take-le at d hd in
    rw append_assoc (get_or-append (take at d) _ z i (omega arith) ∙ get_or-take at d i z h)

pub pasted-inside : (d : List ℕ) (at : ℕ) (vs : List ℕ) (n z j : ℕ) → at ≤ length d → n ≤ length vs → j < n
    → get_or (paste d at vs n) (at + j) z ≡ get_or vs j z
pasted-inside d at vs n z j hd hv h =
    let a : length (take at d) ≡ at = length-take-le at d hd in
    let b : length (take n vs) ≡ n = length-take-le n vs hv in
    let e : get_or (take at d ++ (take n vs ++ drop (at + n) d)) (length (take at d) + j) z ≡ get_or (take n vs ++ drop (at + n) d) j z =
    get_or-append-add (take at d) (take n vs ++ drop (at + n) d) j z in
    rw append_assoc ((rw a at e) ∙ get_or-append (take n vs) (drop (at + n) d) z j (omega arith) ∙ get_or-take n vs j z h)

pub pasted-after : (d : List ℕ) (at : ℕ) (vs : List ℕ) (n z i : ℕ) → at ≤ length d → n ≤ length vs → at + n ≤ i
    → get_or (paste d at vs n) i z ≡ get_or d i z
pasted-after d at vs n z i hd hv h =
    let a : length (take at d ++ take n vs) ≡ at + n = length_paste_head d at vs n hd hv in
    let e : get_or (paste d at vs n) (length (take at d ++ take n vs) + (i - (at + n))) z ≡ get_or (drop (at + n) d) (i - (at + n)) z =
    get_or-append-add (take at d ++ take n vs) (drop (at + n) d) (i - (at + n)) z in
    let f : at + n + (i - (at + n)) ≡ i = omega arith in
    rw f at ((rw a at e) ∙ get_or-drop (at + n) d (i - (at + n)) z)

-- what holds of the copied elements, and of the old ones outside, holds everywhere
pub after-copy : (P : ℕ → ℕ → Type 0) (d : List ℕ) (at : ℕ) (vs : List ℕ) (n z : ℕ) → at ≤ length d → n ≤ length vs
    → ((j : ℕ) → j < n → P (at + j) (get_or vs j z)) → ((i : ℕ) → (i < at) ⊎ (at + n ≤ i) → P i (get_or d i z))
    → (i : ℕ) → P i (get_or (paste d at vs n) i z)
after-copy P d at vs n z hd hv p q i = go (dec_lt i at) (dec_lt i (at + n))
  where
    go : Dec (i < at) → Dec (i < at + n) → P i (get_or (paste d at vs n) i z)
    go (yes b) c = subst (P i) (sym (pasted-before d at vs n z i hd b)) (q i (inl b))
    go (no b) (yes c) =
        let f : at + (i - at) ≡ i = omega arith in
        let r : P (at + (i - at)) (get_or (paste d at vs n) (at + (i - at)) z) =
        subst (P (at + (i - at))) (sym (pasted-inside d at vs n z (i - at) hd hv (omega arith))) (p (i - at) (omega arith)) in
        subst (λ (k : ℕ). P k (get_or (paste d at vs n) k z)) f r
    go (no b) (no c) = subst (P i) (sym (pasted-after d at vs n z i hd hv (omega arith))) (q i (inr (omega arith)))

-- parts of two lists that are as long and agree there
pub part_same : (xs ys : List ℕ) (at n : ℕ) → length xs ≡ length ys → ((j : ℕ) → j < n → get_or xs (at + j) 0 ≡ get_or ys (at + j) 0)
    → take n (drop at xs) ≡ take n (drop at ys)
part_same xs ys at n e h =
    ext_get_or 0 (take n (drop at xs)) (take n (drop at ys)) (simp (length-take, length-drop, e) refl)
    (λ i b.
    let c : i < n = omega (arith, length-take n (drop at xs)) in
    get_or-take n (drop at xs) i 0 c ∙ get_or-drop at xs i 0 ∙ h i c ∙ sym (get_or-drop at ys i 0) ∙ sym (get_or-take n (drop at ys) i 0 c))

-- the copied part
pub part-pasted : (d : List ℕ) (at : ℕ) (vs : List ℕ) → at ≤ length d → take (length vs) (drop at (paste d at vs (length vs))) ≡ vs
part-pasted d at vs h =
    let e : drop at (take at d ++ (vs ++ drop (at + length vs) d)) ≡ vs ++ drop (at + length vs) d =
    drop_at (take at d) (vs ++ drop (at + length vs) d) at (length-take-le at d h) in
    rw (append_assoc, take-length vs, e) (take-append_seam vs (drop (at + length vs) d))
