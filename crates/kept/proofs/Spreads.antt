-- What is spread to the labels of a set by a pair that is a meet: labels are passed over where their rows hold the set already, and the pair may become
-- wider. Assumes nothing.
use mathlib.Core.Path.{◌≡◌}
use mathlib.Core.Logic.{◌⊎◌, inl, inr, ⊎_elim}
use mathlib.Core.Bool.{Bool}
use mathlib.Core.List.{List}
use Prim.Native.Nat.{ℕ, ◌<◌}
use Rattle.words.proofs.Bits.{On, on-union, on-meet, difference-on}
use Rattle.rules.specs.Table.{Has}
use Rattle.program.specs.Program.{Program}
use Rattle.lent.specs.Table.{table_at}
use Rattle.kept.specs.Pairs.{pair_count, kept_set, kept_with, Leaves, some, every, Learns, same, wider, anew, Refreshed}
use Rattle.kept.specs.Promise.{Slot, slot_of, Takes, Meets, Union, Promise, Remembers}
use Rattle.kept.proofs.Remembers.{promised, remembers-set}

module _ {wide : Bool} {pair o : ℕ} {before old t : List ℕ} {p : Program} {slot : Slot} (here : pair < pair_count wide → slot_of pair ≡ slot) where
  -- a label that is passed over has rows that hold the set
  pub left-holds : {s x rest : ℕ} {skip : Bool} → Leaves wide before pair s x rest skip → Remembers wide o p old t before → (l r m : ℕ) → On s l
      → Takes wide p slot l r → 0 < r → On x m → On rest l ⊎ Has (table_at wide o t) r m
  left-holds {s} (some i within e) h l r m a takes z b =
      ⊎_elim (λ j. inl (rw e j)) (λ j. inr ((promised (here i) i h).meet l r m j takes z (within m b))) (difference-on s (kept_set wide before pair) l a)
  left-holds (every e) h l r m a takes z b = inl (rw e a)

  -- what is kept once the rows of the rest hold `least`
  pub learned : {s x rest least : ℕ} {skip : Bool} {after : List ℕ} → (Union slot → ⊥) → Leaves wide before pair s x rest skip
      → Learns wide pair s rest least before after skip → Meets wide o p slot t rest least → Remembers wide o p old t before → Remembers wide o p old t after
  learned {s} {x} {rest} {least} {skip} {after} none leaves learns holds h = go leaves learns
    where
      set : {s v : ℕ} → pair < pair_count wide → Meets wide o p slot t s v → Refreshed wide pair s v before after → Remembers wide o p old t after
      set {s} {v} i meet r =
          let promise : Promise wide o p slot old t s v = record { union = λ u. absurd (none u); meet = meet } in
          remembers-set (here i) promise r h

      go : {skip : Bool} → Leaves wide before pair s x rest skip → Learns wide pair s rest least before after skip → Remembers wide o p old t after
      go leaves (same e) = rw e h
      go leaves (wider i r) =
          set i
          (λ l q m a takes z b. (let both = on-meet (kept_with wide before pair) least m b in
          ⊎_elim (λ j. (promised (here i) i h).meet l q m j takes z both.0) (λ j. holds l q m j takes z both.1) (on-union (kept_set wide before pair) rest l a))) r
      go (every e) (anew i r) = set i (rw e at holds) r
