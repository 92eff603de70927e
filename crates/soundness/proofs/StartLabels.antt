-- At the start there is one object for labels 0, 1, 2, 4 and for each label of kinds 7 and 8, and no other. Assumes nothing.
use mathlib.Core.Path.{◌≡◌, refl, ap, sym, ◌∙◌, subst}
use mathlib.Core.Logic.{◌⊎◌, inl, inr}
use mathlib.Core.List.Memᴰ
use mathlib.Core.List.{List, [], ◌∷◌, ◌++◌, Memᴰ}
use mathlib.Core.Bool.{Bool, true, false, cond, true≢false}
use Prim.Native.Nat.{ℕ, zero, suc, ◌<◌}
use native.Mathlib.Omega.{arith}
use native.Mathlib.Decide.{dec_lt}
use lib.ListN.{length, get_or, length-append, get_or-append}
use lib.Seq.{get_or-append_seam}
use lib.Dec.{eqb}
use borrow.Author.Tests.{eqb-true, eq-eqb}
use Rattle.format.proofs.Tests.{or-false}
use Rattle.program.specs.Program.{Program}
use Rattle.machine.specs.Step.{member}
use Rattle.machine.specs.Start.{Filling, property, held, nothing, fillings, with_label, labels_with, labels_from, first_labels, start_labels, place_in}

-- ---- no label twice

-- each label of the list is found at its own place
abbrev Once : List ℕ → Type 0
Once ls = (i : ℕ) → i < length ls → place_in ls (get_or ls i 0) ≡ i

place_kept : (ls : List ℕ) (l x i : ℕ) → place_in ls x ≡ i → i < length ls → place_in (ls ++ (l ∷ [])) x ≡ i
place_kept [] l x i e h = absurd (omega arith)
place_kept (m ∷ ls) l x i e h = go (eqb m x) i e h (place_kept ls l x)
  where
    go : (b : Bool) (k : ℕ) → cond b 0 (suc (place_in ls x)) ≡ k → k < suc (length ls)
        → ((j : ℕ) → place_in ls x ≡ j → j < length ls → place_in (ls ++ (l ∷ [])) x ≡ j) → cond b 0 (suc (place_in (ls ++ (l ∷ [])) x)) ≡ k
    go true k a c rest = a
    go false zero a c rest = absurd (omega arith)
    go false (suc k) a c rest = ap suc (rest k (omega arith) (omega arith))

place-new : (ls : List ℕ) (l : ℕ) → member l ls ≡ false → place_in (ls ++ (l ∷ [])) l ≡ length ls
place-new [] l e = rw (eq-eqb l l refl)
place-new (m ∷ ls) l e = go (eqb m l) refl (place-new ls l)
  where
    parts : (eqb l m ≡ false) × (member l ls ≡ false)
    parts = or-false (eqb l m) (member l ls) e

    go : (b : Bool) → eqb m l ≡ b → (member l ls ≡ false → place_in (ls ++ (l ∷ [])) l ≡ length ls)
        → cond b 0 (suc (place_in (ls ++ (l ∷ [])) l)) ≡ suc (length ls)
    go true q rest = absurd (true≢false (sym (eq-eqb l m (sym (eqb-true m l q))) ∙ parts.0))
    go false q rest = ap suc (rest parts.1)

with-once : (l : ℕ) (ls : List ℕ) → Once ls → Once (with_label l ls)
with-once l ls h = go (member l ls) refl
  where
    last : (i : ℕ) → member l ls ≡ false → Dec (i < length ls) → i < length (ls ++ (l ∷ [])) → place_in (ls ++ (l ∷ [])) (get_or (ls ++ (l ∷ [])) i 0) ≡ i
    last i e (yes q) k = rw (get_or-append ls (l ∷ []) 0 i q) (place_kept ls l (get_or ls i 0) i (h i q) q)
    last i e (no q) k =
        let z : i ≡ length ls = omega (arith, length-append ls (l ∷ [])) in
        rw (z, get_or-append_seam ls l [] 0) (place-new ls l e)

    go : (b : Bool) → member l ls ≡ b → Once (cond b ls (ls ++ (l ∷ [])))
    go true e = h
    go false e = λ i k. last i e (dec_lt i (length ls)) k

labels-once : (xs : List Filling) (ls : List ℕ) → Once ls → Once (labels_from ls xs)
labels-once [] ls h = h
labels-once (x ∷ xs) ls h = labels-once xs (labels_with ls x) (one x)
  where
    one : (y : Filling) → Once (labels_with ls y)
    one (property l n m) = with-once m (with_label l ls) (with-once l ls h)
    one (held v l) = with-once l ls h
    one nothing = h

first-once : Once first_labels
first-once zero h = refl
first-once (suc zero) h = refl
first-once (suc (suc zero)) h = refl
first-once (suc (suc (suc zero))) h = refl
first-once (suc (suc (suc (suc i)))) h = absurd (omega arith)

-- the object of a label is the only one
pub start-once : (p : Program) (i : ℕ) → i < length (start_labels p) → place_in (start_labels p) (get_or (start_labels p) i 0) ≡ i
start-once p = labels-once (fillings p) first_labels first-once

-- ---- no other label

-- the filling names the label
pub data Names (l : ℕ) : Filling → Type 0 where
  names-holder : (n m : ℕ) → Names l (property l n m)
  names-value : (k n : ℕ) → Names l (property k n l)
  names-held : (v : ℕ) → Names l (held v l)

-- where a label of the start comes from
pub data Origin (ls : List ℕ) (xs : List Filling) (l : ℕ) : Type 0 where
  first : Memᴰ l ls → Origin ls xs l
  filled : (x : Filling) → Memᴰ x xs → Names l x → Origin ls xs l

with_cases : (k l : ℕ) (ls : List ℕ) → Memᴰ l (with_label k ls) → Memᴰ l ls ⊎ (l ≡ k)
with_cases k l ls = go (member k ls)
  where
    last : Memᴰ l ls ⊎ Memᴰ l (k ∷ []) → Memᴰ l ls ⊎ (l ≡ k)
    last (inl q) = inl q
    last (inr q) = inr (Memᴰ.eq_of_singleton q)

    go : (b : Bool) → Memᴰ l (cond b ls (ls ++ (k ∷ []))) → Memᴰ l ls ⊎ (l ≡ k)
    go true q = inl q
    go false q = last (Memᴰ.append_cases ls q)

filling-cases : (l : ℕ) (ls : List ℕ) (x : Filling) → Memᴰ l (labels_with ls x) → Memᴰ l ls ⊎ Names l x
filling-cases l ls nothing m = inl m
filling-cases l ls (held v k) m =
    elim (with_cases k l ls m) [
      | inl q ↦ inl q
      | inr e ↦ inr (subst (λ (z : ℕ). Names l (held v z)) e (names-held v))
    ]
filling-cases l ls (property k n j) m = go (with_cases j l (with_label k ls) m)
  where
    holder : Memᴰ l ls ⊎ (l ≡ k) → Memᴰ l ls ⊎ Names l (property k n j)
    holder (inl q) = inl q
    holder (inr e) = inr (subst (λ (z : ℕ). Names l (property z n j)) e (names-holder n j))

    go : Memᴰ l (with_label k ls) ⊎ (l ≡ j) → Memᴰ l ls ⊎ Names l (property k n j)
    go (inl q) = holder (with_cases k l ls q)
    go (inr e) = inr (subst (λ (z : ℕ). Names l (property k n z)) e (names-value k n))

labels-origin : (xs : List Filling) (ls : List ℕ) (l : ℕ) → Memᴰ l (labels_from ls xs) → Origin ls xs l
labels-origin [] ls l m = first m
labels-origin (x ∷ xs) ls l m = go (labels-origin xs (labels_with ls x) l m)
  where
    here : Memᴰ l ls ⊎ Names l x → Origin ls (x ∷ xs) l
    here (inl q) = first q
    here (inr q) = filled x (Memᴰ.head refl) q

    go : Origin (labels_with ls x) xs l → Origin ls (x ∷ xs) l
    go (first q) = here (filling-cases l ls x q)
    go (filled y q n) = filled y (Memᴰ.tail q) n

-- a label of the start is 0, 1, 2 or 4, or a record of kind 7 or 8 names it
pub start-origin : (p : Program) (l : ℕ) → Memᴰ l (start_labels p) → Origin first_labels (fillings p) l
start-origin p l m = labels-origin (fillings p) first_labels l m
