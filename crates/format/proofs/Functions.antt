-- The variables of the functions, at the start and as records define functions. Assumes nothing.
use mathlib.Core.Path.{◌≡◌, sym, ◌∙◌}
use mathlib.Core.Logic.{inl, inr}
use mathlib.Core.List.{List, [], ◌∷◌, ◌++◌}
use Prim.Native.Nat.{ℕ, ◌+◌, ◌*◌, ◌-◌, ◌<◌, ◌≤◌}
use native.Mathlib.Omega.{arith}
use native.Mathlib.Decide.{ℕ_discrete, dec_lt}
use lib.ListN.{length, get_or, set, take, drop, replicate, get_or-eq_default, get_or-replicate, length-replicate}
use lib.Seq.{get_or-set_other, paste, length-paste}
use Rattle.format.specs.Sheet.{start}
use Rattle.format.specs.Records.{Record}
use Rattle.format.proofs.Arrays.{padded, after-copy, pasted-before, pasted-after, part_same, part-pasted}
use Rattle.format.proofs.Ready.{Among, Held, Functions, seven_of}
use Rattle.format.proofs.Among.{followed, among-more, among-last}

start-formal-is : (L i : ℕ) → i < 7 * L → get_or (start L).formals i 0 ≡ 1
unfolding start
start-formal-is L i h = get_or-replicate (7 * L) i 1 0 h

start-formal-small : (L i : ℕ) → get_or (start L).formals i 0 ≤ 1
unfolding start
start-formal-small L i =
    elim (dec_lt i (7 * L)) [
      | yes h ↦ omega (arith, get_or-replicate {A = ℕ} (7 * L) i 1 0 h)
      | no h ↦ omega (arith, get_or-eq_default {A = ℕ} (replicate (7 * L) 1) 0 {n = i} (omega (arith, length-replicate {A = ℕ} (7 * L) 1)))
    ]

-- at the start only label 3's function is known
abbrev pub start_defined : List ℕ
start_defined = 0 ∷ 0 ∷ 0 ∷ 1 ∷ 0 ∷ []

start-defined-is : (L l : ℕ) → get_or (start L).defined l 0 ≡ get_or start_defined l 0
unfolding start
start-defined-is L l = padded start_defined (L - 5) 0 l

pub functions-start : (L : ℕ) → 5 ≤ L → Functions (start L).owners (start L).defined (start L).formals []
functions-start L h5 =
    record {
      guest-formal = λ j h. start-formal-is L (21 + j) (omega arith);
      formal-known = λ i. inl (start-formal-small L i);
      function-record = λ l h d. absurd (d (start-defined-is L l ∙ get_or-eq_default start_defined 0 h));
    }

held_kept : (owners owners' : List ℕ) → ((v : ℕ) → (get_or owners v 1 ≡ 1 → ⊥) → get_or owners' v 1 ≡ get_or owners v 1) → (v : ℕ)
    → Held owners v → Held owners' v
held_kept owners owners' k v (inl h) = inl h
held_kept owners owners' k v (inr h) = inr (λ z. h (sym (k v h) ∙ z))

pub functions_more : (owners owners' defined formals : List ℕ) (ps qs : List (ℕ × Record))
    → ((v : ℕ) → (get_or owners v 1 ≡ 1 → ⊥) → get_or owners' v 1 ≡ get_or owners v 1)
    → Functions owners defined formals ps → Functions owners' defined formals (ps ++ qs)
functions_more owners owners' defined formals ps qs k x =
    record {
      guest-formal = x.guest-formal;
      formal-known = λ i. held_kept owners owners' k (get_or formals i 0) (x.formal-known i);
      function-record = λ l h d. among-more qs (x.function-record l h d);
    }

-- the variables of another function stay, those of this one are the copied ones
seven-other : (formals : List ℕ) (l : ℕ) (vs : List ℕ) (j : ℕ) → 7 * l + 7 ≤ length formals → length vs ≡ 7 → (j ≡ l → ⊥)
    → seven_of (paste formals (7 * l) vs 7) j ≡ seven_of formals j
seven-other formals l vs j room seven n =
    part_same (paste formals (7 * l) vs 7) formals (7 * j) 7 (length-paste formals (7 * l) vs 7 room (omega arith))
    (λ i h. go i h (dec_lt j l))
  where
    go : (i : ℕ) → i < 7 → Dec (j < l) → get_or (paste formals (7 * l) vs 7) (7 * j + i) 0 ≡ get_or formals (7 * j + i) 0
    go i h (yes q) = pasted-before formals (7 * l) vs 7 0 (7 * j + i) (omega arith) (omega arith)
    go i h (no q) =
        let above : l < j = omega (arith, n) in
        pasted-after formals (7 * l) vs 7 0 (7 * j + i) (omega arith) (omega arith) (omega arith)

seven-this : (formals : List ℕ) (l : ℕ) (vs : List ℕ) → 7 * l + 7 ≤ length formals → length vs ≡ 7 → seven_of (paste formals (7 * l) vs 7) l ≡ vs
seven-this formals l vs room seven =
    let e : take (length vs) (drop (7 * l) (paste formals (7 * l) vs (length vs))) ≡ vs = part-pasted formals (7 * l) vs (omega arith) in
    rw seven at e

pub functions-defined : (owners defined formals : List ℕ) (ps : List (ℕ × Record)) (at l : ℕ) (vs : List ℕ) → Functions owners defined formals ps
    → 5 ≤ l → 7 * l + 7 ≤ length formals → length vs ≡ 7 → ((j : ℕ) → j < 7 → Held owners (get_or vs j 0))
    → Functions owners (set defined l 1) (paste formals (7 * l) vs 7) (followed ps at 4 (l ∷ vs))
functions-defined owners defined formals ps at l vs x h5 room seven known =
    record {
      guest-formal = λ j h. pasted-before formals (7 * l) vs 7 0 (21 + j) (omega arith) (omega arith) ∙ x.guest-formal j h;
      formal-known = after-copy (λ i v. Held owners v) formals (7 * l) vs 7 0 (omega arith) (omega arith) known (λ i o. x.formal-known i);
      function-record = λ j h d. go j h d (ℕ_discrete j l);
    }
  where
    go : (j : ℕ) → 5 ≤ j → (get_or (set defined l 1) j 0 ≡ 0 → ⊥) → Dec (j ≡ l)
        → Among 4 (j ∷ seven_of (paste formals (7 * l) vs 7) j) (followed ps at 4 (l ∷ vs))
    go j h d (yes e) = rw (e, seven-this formals l vs room seven) (among-last ps at 4 (l ∷ vs))
    go j h d (no n) =
        rw (seven-other formals l vs j room seven n)
        (among-more _ (x.function-record j h (λ z. d (get_or-set_other defined l j 1 0 n ∙ z))))
