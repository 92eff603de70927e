-- Which labels stand at the start, and where the object of each one stands. Assumes nothing.
use mathlib.Core.Path.{◌≡◌, refl, ap, sym, ◌∙◌}
use mathlib.Core.Logic.{◌⊎◌, inl, inr}
use mathlib.Core.List.Memᴰ
use mathlib.Core.List.{List, [], ◌∷◌, ◌++◌, Memᴰ}
use mathlib.Core.Bool.{Bool, true, false, cond, true≢false}
use Prim.Native.Nat.{ℕ, zero, suc, ◌≤◌, ◌<◌}
use native.Mathlib.Omega.{arith}
use lib.ListN.{length, get_or, length-append, get_or-append}
use lib.Dec.{eqb}
use borrow.Author.Tests.{eqb-true, eq-eqb}
use Rattle.format.proofs.Tests.{or-true}
use Rattle.program.specs.Statement as say
use Rattle.program.specs.Program.{Program}
use Rattle.machine.specs.State.{object_in}
use Rattle.machine.specs.Property.{fresh}
use Rattle.machine.specs.Step.{member}
use Rattle.machine.specs.Start.{Filling, property, held, nothing, filling_of, with_label, labels_with, labels_from, place_in, start_prototype, top_frame, start_objects}

pub member-mem : (x : ℕ) (xs : List ℕ) → member x xs ≡ true → Memᴰ x xs
member-mem x [] e = absurd (true≢false (sym e))
member-mem x (y ∷ ys) e =
    elim (or-true (eqb x y) (member x ys) e) [
      | inl q ↦ Memᴰ.head (eqb-true x y q)
      | inr q ↦ Memᴰ.tail (member-mem x ys q)
    ]

-- ---- which labels stand at the start

-- the first list begins the second, and all its labels are in it
pub record Prefix (a b : List ℕ) : Type 0 where
  pub longer : length a ≤ length b
  pub same : (i : ℕ) → i < length a → get_or b i 0 ≡ get_or a i 0
  pub within : (l : ℕ) → Memᴰ l a → Memᴰ l b

prefix_refl : (a : List ℕ) → Prefix a a
prefix_refl a = record { longer = omega arith; same = λ i h. refl; within = λ l m. m }

prefix_trans : {a b c : List ℕ} → Prefix a b → Prefix b c → Prefix a c
prefix_trans h k =
    record { longer = omega arith; same = λ i l. k.same i (omega (arith, h.longer)) ∙ h.same i l; within = λ l m. k.within l (h.within l m) }

label-begins : (l : ℕ) (a : List ℕ) → Prefix a (with_label l a) × Memᴰ l (with_label l a)
label-begins l a = go (member l a) refl
  where
    go : (b : Bool) → member l a ≡ b → Prefix a (cond b a (a ++ (l ∷ []))) × Memᴰ l (cond b a (a ++ (l ∷ [])))
    go true e = (prefix_refl a, member-mem l a e)
    go false e = (
      record {
        longer = omega (arith, length-append a (l ∷ []));
        same = λ i h. get_or-append a (l ∷ []) 0 i h;
        within = λ m q. Memᴰ.append_left (l ∷ []) q;
      },
      Memᴰ.append_right a (Memᴰ.head refl),
    )

-- the labels that a filling names are in the list
pub data Listed (ls : List ℕ) : Filling → Type 0 where
  property-listed : (l n m : ℕ) → Memᴰ l ls → Memᴰ m ls → Listed ls (property l n m)
  held-listed : (v l : ℕ) → Memᴰ l ls → Listed ls (held v l)
  nothing-listed : Listed ls nothing

listed_more : {a b : List ℕ} {x : Filling} → Prefix a b → Listed a x → Listed b x
listed_more g (property-listed l n m h k) = property-listed l n m (g.within l h) (g.within m k)
listed_more g (held-listed v l h) = held-listed v l (g.within l h)
listed_more g nothing-listed = nothing-listed

filling-begins : (a : List ℕ) (x : Filling) → Prefix a (labels_with a x) × Listed (labels_with a x) x
filling-begins a (property l n m) =
    let h = label-begins l a in
    let k = label-begins m (with_label l a) in
    (prefix_trans h.0 k.0, property-listed l n m (k.0.within l h.1) k.1)
filling-begins a (held v l) = let h = label-begins l a in (h.0, held-listed v l h.1)
filling-begins a nothing = (prefix_refl a, nothing-listed)

pub fillings-begin : (a : List ℕ) (xs : List Filling) → Prefix a (labels_from a xs)
fillings-begin a [] = prefix_refl a
fillings-begin a (x ∷ xs) = prefix_trans (filling-begins a x).0 (fillings-begin (labels_with a x) xs)

pub fillings-listed : (a : List ℕ) (xs : List Filling) (x : Filling) → Memᴰ x xs → Listed (labels_from a xs) x
fillings-listed a [] x m = absurd (Memᴰ.not-nil m)
fillings-listed a (y ∷ ys) x m =
    elim (Memᴰ.cases_cons m) [
      | inl e ↦ rw e (listed_more (fillings-begin (labels_with a y) ys) (filling-begins a y).1)
      | inr q ↦ fillings-listed (labels_with a y) ys x q
    ]

-- a statement is of kind 7 or 8, or puts nothing in the start
pub data Fills : say.Statement → Type 0 where
  property-fills : (l n m : ℕ) → Fills (say.property l n m)
  held-fills : (v l : ℕ) → Fills (say.held v l)
  nothing-fills : (a : say.Statement) → filling_of a ≡ nothing → Fills a

pub fills : (a : say.Statement) → Fills a
fills (say.named v n) = nothing-fills _ refl
fills (say.grant v b) = nothing-fills _ refl
fills (say.property l n m) = property-fills l n m
fills (say.held v l) = held-fills v l
fills (say.copy k y x) = nothing-fills _ refl
fills (say.load k y x key w) = nothing-fills _ refl
fills (say.store k x key a) = nothing-fills _ refl
fills (say.make k y l) = nothing-fills _ refl
fills (say.make_function k y l q) = nothing-fills _ refl
fills (say.call k y g t args) = nothing-fills _ refl
fills (say.new k y g t l args) = nothing-fills _ refl
fills (say.return k x) = nothing-fills _ refl
fills (say.throw k x) = nothing-fills _ refl
fills (say.catch k y) = nothing-fills _ refl
fills (say.prim k x) = nothing-fills _ refl

-- ---- where the object of a label stands

pub place-of : (l : ℕ) (ls : List ℕ) → Memᴰ l ls → (place_in ls l < length ls) × (get_or ls (place_in ls l) 0 ≡ l)
place-of l [] m = absurd (Memᴰ.not-nil m)
place-of l (x ∷ xs) m = go (eqb x l) refl (Memᴰ.cases_cons m) (place-of l xs)
  where
    go : (b : Bool) → eqb x l ≡ b → (l ≡ x) ⊎ Memᴰ l xs → (Memᴰ l xs → (place_in xs l < length xs) × (get_or xs (place_in xs l) 0 ≡ l))
        → (place_in (x ∷ xs) l < length (x ∷ xs)) × (get_or (x ∷ xs) (place_in (x ∷ xs) l) 0 ≡ l)
    go true e c rest = rw e (omega arith, eqb-true x l e)
    go false e (inl q) rest = absurd (true≢false (sym (eq-eqb x l (sym q)) ∙ e))
    go false e (inr q) rest = rw e (omega (arith, (rest q).0), (rest q).1)

-- ---- the objects of the labels

pub length-start : (p : Program) (ls : List ℕ) → length (start_objects p ls) ≡ length ls
length-start p [] = refl
length-start p (l ∷ ls) = ap suc (length-start p ls)

pub object-is : (p : Program) (ls : List ℕ) (i : ℕ) → i < length ls → object_in (start_objects p ls) i ≡ fresh (get_or ls i 0) (start_prototype p (get_or ls i 0)) top_frame
object-is p [] i h = absurd (omega arith)
object-is p (l ∷ ls) zero h = refl
object-is p (l ∷ ls) (suc i) h = object-is p ls i (omega arith)
