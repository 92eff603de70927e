-- What is remembered stays true: as tables grow, counted from earlier words, and where pairs are set or emptied. Assumes nothing.
use mathlib.Core.Path.{◌≡◌, ◌∙◌}
use mathlib.Core.Logic.{◌⊎◌, inl, inr}
use mathlib.Core.Bool.{Bool, true, false}
use mathlib.Core.List.{List}
use Prim.Native.Nat.{ℕ, ◌<◌}
use native.Mathlib.Decide.{ℕ_discrete, dec_lt}
use native.Mathlib.Omega.{arith}
use lib.ListN.{get_or}
use Rattle.words.proofs.Bits.{empty-off}
use Rattle.rows.specs.Edition.{labels}
use Rattle.rows.specs.Row.{number, property, chain, thrown}
use Rattle.rules.specs.Table.{Table, Within}
use Rattle.program.specs.Program.{Program}
use Rattle.lent.specs.Table.{table_at}
use Rattle.uses.specs.Use.{table_of, Since}
use Rattle.kept.specs.Pairs.{pair_count, kept_set, kept_with, Stays, Refreshed, Cleared}
use Rattle.kept.specs.Promise.{Slot, chains, throws, handed, under, input, stored, unused, slot_of, Tells, Takes, Unites, Union, Promise, Remembers}
use Rattle.kept.proofs.Pairs.{kept-none, never}
use Rattle.kept.proofs.Slots.{no-union}

-- a larger table tells at least as much
pub tells-monotone : (wide : Bool) (p : Program) (slot : Slot) (a b : Table) → Within a b → (l m : ℕ) → Tells wide p slot a l m → Tells wide p slot b l m
tells-monotone wide p chains a b w l m h = w (number (labels wide) (chain l)) m h
tells-monotone wide p throws a b w l m h = w (number (labels wide) (thrown l)) m h
tells-monotone wide p handed a b w l m h = (h.0, h.1, w h.0 m h.2)
tells-monotone wide p (under key) a b w l m h = (h.0, h.1, w (number (labels wide) (property l h.0)) m h.2)
tells-monotone wide p (input j) a b w l m h = h
tells-monotone wide p (stored key) a b w l m h = h
tells-monotone wide p unused a b w l m h = h

-- no row is joined to for what is looked up
pub takes-nothing : (wide : Bool) (p : Program) (slot : Slot) (l r : ℕ) → Union slot → Takes wide p slot l r → ⊥
takes-nothing wide p chains l r u h = h
takes-nothing wide p throws l r u h = h
takes-nothing wide p handed l r u h = h
takes-nothing wide p (under key) l r u h = h
takes-nothing wide p (input j) l r u h = u
takes-nothing wide p (stored key) l r u h = u
takes-nothing wide p unused l r u h = u

-- ---- one promise

module _ {wide : Bool} {o : ℕ} {p : Program} {slot : Slot} {old : List ℕ} {s v : ℕ} where
  promise-later : {t u : List ℕ} → Since wide t u → Within (table_at wide o t) (table_at wide o u) → Promise wide o p slot old t s v
      → Promise wide o p slot old u s v
  promise-later {t} {u} w i h =
      record { union = λ looked. later (h.union looked); meet = λ l r m a b z c. i r m (h.meet l r m a b z c) }
    where
      later : Unites wide p slot old t s v → Unites wide p slot old u s v
      later g =
          record {
            source = λ m a. (let f = g.source m a in (f.0, f.1, tells-monotone wide p slot (table_of wide t) (table_of wide u) w f.0 m f.2));
            all = g.all;
          }

  promise-since : {older t : List ℕ} → Since wide older old → Promise wide o p slot old t s v → Promise wide o p slot older t s v
  promise-since {older} {t} w h = record { union = λ looked. since (h.union looked); meet = h.meet }
    where
      since : Unites wide p slot old t s v → Unites wide p slot older t s v
      since g = record { source = g.source; all = λ l m a b. g.all l m a (tells-monotone wide p slot (table_of wide older) (table_of wide old) w l m b) }

  promise-none : {t : List ℕ} → s ≡ 0 → v ≡ 0 → Promise wide o p slot old t s v
  promise-none e f =
      record {
        union = λ looked. record { source = λ m a. absurd (empty-off m (rw f at a)); all = λ l m a b. absurd (empty-off l (rw e at a)) };
        meet = λ l r m a b z c. absurd (empty-off l (rw e at a));
      }

-- ---- every promise

-- a pair was emptied, or it is no union and stayed
abbrev pub Forgets : Bool → List ℕ → List ℕ → ℕ → Type 0
Forgets wide before after q = ((kept_set wide after q ≡ 0) × (kept_with wide after q ≡ 0)) ⊎ (Stays wide before after q × (Union (slot_of q) → ⊥))

module _ {wide : Bool} {o : ℕ} {p : Program} where
  -- the tables grew
  pub remembers-later : {old t u keeps : List ℕ} → Since wide t u → Within (table_at wide o t) (table_at wide o u) → Remembers wide o p old t keeps
      → Remembers wide o p old u keeps
  remembers-later w i h = record { pair = λ q j. promise-later w i (h.pair q j) }

  -- counted from earlier words
  pub remembers-since : {older old t keeps : List ℕ} → Since wide older old → Remembers wide o p old t keeps → Remembers wide o p older t keeps
  remembers-since w h = record { pair = λ q j. promise-since w (h.pair q j) }

  -- an array of zeros
  pub remembers-none : {old t keeps : List ℕ} → ((i : ℕ) → get_or keeps i 0 ≡ 0) → Remembers wide o p old t keeps
  remembers-none {keeps = keeps} z = record { pair = λ q j. (let e = kept-none wide keeps q z in promise-none e.0 e.1) }

  -- a pair whose slot is known
  pub promised : {pair : ℕ} {slot : Slot} {old t keeps : List ℕ} → slot_of pair ≡ slot → pair < pair_count wide → Remembers wide o p old t keeps
      → Promise wide o p slot old t (kept_set wide keeps pair) (kept_with wide keeps pair)
  promised {pair} e i h = rw (← e) (h.pair pair i)

  module _ {old t before after : List ℕ} where
    -- a pair was set
    pub remembers-set : {pair s v : ℕ} {slot : Slot} → slot_of pair ≡ slot → Promise wide o p slot old t s v → Refreshed wide pair s v before after
        → Remembers wide o p old t before → Remembers wide o p old t after
    remembers-set {pair} {s} {v} e new r h = record { pair = λ q j. go q j (ℕ_discrete q pair) }
      where
        go : (q : ℕ) → q < pair_count wide → Dec (q ≡ pair) → Promise wide o p (slot_of q) old t (kept_set wide after q) (kept_with wide after q)
        go q j (yes d) = rw (d, e, r.labels, r.with) new
        go q j (no d) = let stays = r.others q d in rw (stays.0, stays.1) (h.pair q j)

    pub remembers-forgets : ((q : ℕ) → q < pair_count wide → Forgets wide before after q) → Remembers wide o p old t before → Remembers wide o p t t after
    remembers-forgets f h = record { pair = λ q j. go q j (f q j) }
      where
        go : (q : ℕ) → q < pair_count wide → Forgets wide before after q → Promise wide o p (slot_of q) t t (kept_set wide after q) (kept_with wide after q)
        go q j (inl e) = promise-none e.0 e.1
        go q j (inr e) =
            record { union = λ looked. absurd (e.1 looked); meet = rw (e.0.0, e.0.1) (h.pair q j).meet }

-- ---- what `forget` empties

-- where there is room for 32 pairs
pub forgets-first : {before after : List ℕ} (wide : Bool) → wide ≡ true → Cleared wide 0 17 before after → (q : ℕ) → q < pair_count wide
    → Forgets wide before after q
forgets-first {before} {after} true e c q j =
    elim (dec_lt q 17) [
      | yes h ↦ inl (c.empty q (omega arith) h)
      | no h ↦ inr (c.above q (omega (arith, h)), no-union q (omega (arith, h)) (inl j))
    ]
forgets-first false e c q j = never e

-- where there is room for 128, those of single names and of the names outside a class too
pub forgets-names : {before between after : List ℕ} (wide : Bool) → Cleared wide 0 17 before between → Cleared wide 32 72 between after → (q : ℕ)
    → Forgets wide before after q
forgets-names {before} {between} {after} wide c d q = go (dec_lt q 17) (dec_lt q 32) (dec_lt q 72)
  where
    stays : Stays wide before between q → Stays wide between after q → Stays wide before after q
    stays x y = (y.0 ∙ x.0, y.1 ∙ x.1)

    go : Dec (q < 17) → Dec (q < 32) → Dec (q < 72) → Forgets wide before after q
    go (yes h) _ _ =
        let z = c.empty q (omega arith) h in
        let k = d.below q (omega arith) in
        inl (k.0 ∙ z.0, k.1 ∙ z.1)
    go (no h) (yes i) _ = inr (stays (c.above q (omega (arith, h))) (d.below q i), no-union q (omega (arith, h)) (inl i))
    go (no h) (no i) (yes j) = inl (d.empty q (omega (arith, i)) j)
    go (no h) (no i) (no j) = inr (stays (c.above q (omega (arith, h))) (d.above q (omega (arith, j))), no-union q (omega (arith, h)) (inr (omega (arith, j))))
