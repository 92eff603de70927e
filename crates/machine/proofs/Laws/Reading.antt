-- A statement can read from a variable whatever it holds, and of a bag any value ever put there. Assumes nothing.
use mathlib.Core.Path.{◌≡◌, refl, sym, ap}
use mathlib.Core.Logic.{◌⊎◌, inl, inr, ⊎_elim}
use mathlib.Core.List.Memᴰ
use mathlib.Core.List.{List, [], ◌∷◌, Memᴰ}
use mathlib.Core.Bool.{Bool, true, false, ◌||◌}
use Prim.Native.Nat.{ℕ, zero, suc, ◌<◌}
use native.Mathlib.Omega.{arith}
use native.Mathlib.Decide.{ℕ_discrete}
use borrow.Author.Tests.{eq-eqb, ne_eqb}
use lib.ListN.{length, get_or}
use lib.Dec.{eqb}
use Rattle.format.specs.Sheet.{name_of}
use Rattle.program.specs.Program.{Program, Guest}
use Rattle.machine.specs.State.{Value, primitive, State}
use Rattle.machine.specs.Variable.{bag, named, local, is_bag, place_of, read, read_all}
use Rattle.machine.specs.Seen.{Bag, NoBag, Named, Local, Holds, in-bag, in-global, in_frame, Nothing, variable-none, bag-empty, no-pair, no-frame, Reads, reads_held, reads_nothing, ReadsAll, reads_none, reads_more}
use Rattle.machine.proofs.Laws.Outward.{nearest-found}

-- ---- the place of a variable of each sort

is-bag : (gs : List Guest) (v : ℕ) {g : Guest} → Memᴰ g gs → g.bag ≡ v → is_bag gs v ≡ true
is-bag [] v m q = elim m [ ]
is-bag (h ∷ gs) v (Memᴰ.head e) q = rw (eq-eqb h.bag v (rw e at q))
is-bag (h ∷ gs) v (Memᴰ.tail m) q = go (eqb h.bag v) (is-bag gs v m q)
  where
    go : (b : Bool) → is_bag gs v ≡ true → (b || is_bag gs v) ≡ true
    go true e = refl
    go false e = e

is-no-bag : (gs : List Guest) (v : ℕ) → ((g : Guest) → Memᴰ g gs → g.bag ≡ v → ⊥) → is_bag gs v ≡ false
is-no-bag [] v n = refl
is-no-bag (h ∷ gs) v n = rw (ne_eqb h.bag v (n h (Memᴰ.head refl))) (is-no-bag gs v (λ g m. n g (Memᴰ.tail m)))

pub bag-place : {p : Program} (v : ℕ) → Bag p v → place_of p v ≡ bag
bag-place zero h = absurd (omega (arith, h.not_none))
bag-place {p} (suc v) h = rw (is-bag p.guests (suc v) h.among h.its-bag)

pub named-place : {p : Program} (v : ℕ) {n : ℕ} → Named p v n → place_of p v ≡ named n
named-place zero h = absurd (omega (arith, h.not_none))
named-place {p} (suc v) {n} h = rw (is-no-bag p.guests (suc v) h.no-bag, h.name-is, ne_eqb n 255 h.is_name)

pub local-place : {p : Program} (v : ℕ) {k : ℕ} → Local p v k → place_of p v ≡ local k
local-place zero h = absurd (omega (arith, h.not_none))
local-place {p} (suc v) h = rw (is-no-bag p.guests (suc v) h.no-bag, h.nameless, h.owner-is)

-- ---- every variable is of one sort

pub data Sort (p : Program) (v : ℕ) : Type 0 where
  is_none : v ≡ 0 → Sort p v
  is-a-bag : Bag p v → Sort p v
  is-named : (n : ℕ) → Named p v n → Sort p v
  is-local : (k : ℕ) → Local p v k → Sort p v

-- some guest of the list has this bag, or none has
bag-among : (gs : List Guest) (v : ℕ) → ((g : Guest) × Memᴰ g gs × (g.bag ≡ v)) ⊎ ((g : Guest) → Memᴰ g gs → g.bag ≡ v → ⊥)
bag-among [] v = inr (λ g m. absurd (Memᴰ.not-nil m))
bag-among (h ∷ gs) v = go (ℕ_discrete h.bag v) (bag-among gs v)
  where
    go : Dec (h.bag ≡ v) → ((g : Guest) × Memᴰ g gs × (g.bag ≡ v)) ⊎ ((g : Guest) → Memᴰ g gs → g.bag ≡ v → ⊥)
        → ((g : Guest) × Memᴰ g (h ∷ gs) × (g.bag ≡ v)) ⊎ ((g : Guest) → Memᴰ g (h ∷ gs) → g.bag ≡ v → ⊥)
    go (yes e) r = inl (h, Memᴰ.head refl, e)
    go (no n) (inl r) = inl (r.0, Memᴰ.tail r.1, r.2)
    go (no n) (inr r) = inr (λ g m e. ⊎_elim (λ (q : g ≡ h). n (rw q at e)) (λ (q : Memᴰ g gs). r g q e) (Memᴰ.cases_cons m))

pub sort-of : (p : Program) (v : ℕ) → Sort p v
sort-of p zero = is_none refl
sort-of p (suc v) = go (bag-among p.guests (suc v)) (ℕ_discrete (name_of p.sheet (suc v)) 255)
  where
    go : ((g : Guest) × Memᴰ g p.guests × (g.bag ≡ suc v)) ⊎ NoBag p (suc v) → Dec (name_of p.sheet (suc v) ≡ 255) → Sort p (suc v)
    go (inl h) d = is-a-bag (record { not_none = omega arith; guest = h.0; among = h.1; its-bag = h.2 })
    go (inr h) (yes e) = is-local _ (record { not_none = omega arith; no-bag = h; nameless = e; owner-is = refl })
    go (inr h) (no n) = is-named _ (record { not_none = omega arith; no-bag = h; name-is = refl; is_name = n })

-- ---- reading

-- a member of a list stands somewhere in it
pub place-of : {A : Type 0} {x : A} {xs : List A} (d : A) → Memᴰ x xs → (i : ℕ) × (i < length xs) × (get_or xs i d ≡ x)
place-of d (Memᴰ.head e) = (0, omega arith, sym e)
place-of d (Memᴰ.tail m) = let r = place-of d m in (suc r.0, omega arith, r.2)

-- "The guest holds, and reads, any value ever put in its bag"; and what any other variable holds is read
pub read_held : {p : Program} {s : State} {f v : ℕ} {x : Value} → Holds p s f v x → (i : ℕ) × (read p s f v i ≡ x)
read_held {v = v} (in-bag b m) = let r = place-of primitive m in (r.0, rw (bag-place v b) r.2)
read_held {v = v} (in-global n h e) = (0, rw (named-place v h, e))
read_held {v = v} (in_frame k g h q e) = (0, rw (local-place v h, nearest-found q) e)

-- "else nothing is read": what is read is a primitive
pub read-nothing : {p : Program} {s : State} {f v : ℕ} → Nothing p s f v → (i : ℕ) × (read p s f v i ≡ primitive)
read-nothing variable-none = (0, refl)
read-nothing (bag-empty v b e) = (0, rw (bag-place v b, e))
read-nothing (no-pair v n h e) = (0, rw (named-place v h, e))
read-nothing (no-frame v k h q) = (0, rw (local-place v h, nearest-found q))

pub can-read : {p : Program} {s : State} {f v : ℕ} {x : Value} → Reads p s f v x → (i : ℕ) × (read p s f v i ≡ x)
can-read (reads_held x h) = read_held h
can-read (reads_nothing h) = read-nothing h

-- ---- several fields, each by a choice of its own

abbrev pub before : ℕ → (ℕ → ℕ) → ℕ → ℕ
before i which zero = i
before i which (suc j) = which j

pub read-later : (p : Program) (s : State) (f : ℕ) (vs : List ℕ) (which : ℕ → ℕ) (i : ℕ) → read_all p s f vs which (suc i) ≡ read_all p s f vs (λ j. which (suc j)) i
read-later p s f [] which i = refl
read-later p s f (v ∷ vs) which i = ap (λ (z : List Value). read p s f v (which (suc i)) ∷ z) (read-later p s f vs which (suc i))

-- the fields of a statement may read different values of one bag
pub can-read-all : {p : Program} {s : State} {f : ℕ} {vs : List ℕ} {xs : List Value} → ReadsAll p s f vs xs
    → (which : ℕ → ℕ) × (read_all p s f vs which 0 ≡ xs)
can-read-all reads_none = (λ j. 0, refl)
can-read-all {p} {s} {f} (reads_more v x vs xs h hs) =
    let r = can-read h in
    let rs = can-read-all hs in
    (before r.0 rs.0, rw (r.1, read-later p s f vs (before r.0 rs.0) 0, rs.1))
