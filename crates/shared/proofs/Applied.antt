-- Laws of uses by code that remembers: one after the other, what was told joined to a row, a set spread by what is kept. Assumes nothing.
use mathlib.Core.Path.{◌≡◌, refl}
use mathlib.Core.Logic.{◌⊎◌, inl, inr}
use mathlib.Core.Bool.{Bool, false, ◌||◌}
use mathlib.Core.List.{List}
use Prim.Native.Nat.{ℕ, ◌<◌}
use lib.ListN.{get_or}
use Rattle.words.proofs.Bits.{On, on-difference}
use Rattle.rows.specs.Edition.{labels, words}
use Rattle.rows.specs.Row.{row_count}
use Rattle.rules.specs.Table.{Table, Has, Within}
use Rattle.program.specs.Program.{Program}
use Rattle.lent.specs.Table.{table_at}
use Rattle.lent.specs.Stored.{Joined}
use Rattle.uses.specs.Use.{Apart, table_of, Since, Reached, Used}
use Rattle.uses.specs.Gather.{Gathered}
use Rattle.uses.specs.Spread.{taken_by, SpreadTo}
use Rattle.uses.proofs.Use.{reached-keeps, reached-read, reached-for, used-since, used-for, used-then, used-join, used-nothing}
use Rattle.kept.specs.Pairs.{pair_count, kept_set, Leaves, some, every, Learns}
use Rattle.kept.specs.Promise.{Slot, slot_of, Union, Takes, Remembers, Tellings}
use Rattle.kept.proofs.Remembers.{remembers-later}
use Rattle.kept.proofs.Spreads.{left-holds, learned}
use Rattle.shared.specs.Apply.{Applies, gathering, spreading}

-- for another family that tells the same
pub gathered-for : {F G : Table → ℕ → ℕ → Type 0} {old t : Table} {s r : ℕ} → ((l m : ℕ) → On s l → F t l m → G t l m) → ((l m : ℕ) → On s l → G old l m → F old l m)
    → Gathered F old t s r → Gathered G old t s r
gathered-for f g h =
    record { source = λ m o. (let a = h.source m o in (a.0, a.1, f a.0 m a.1 a.2)); all = λ l m o i. h.all l m o (g l m o i) }

module _ {wide : Bool} {o : ℕ} {p : Program} where
  -- the words that were reached remember what those before did
  pub remembers-on : {T : Table → ℕ → ℕ → Type 0} {old t u keeps : List ℕ} → Apart wide o → Reached wide o T t u → Remembers wide o p old t keeps
      → Remembers wide o p old u keeps
  remembers-on w r m = remembers-later (reached-read w r) (reached-keeps r) m

  -- a use that does not go by the pairs
  pub applies-plain : {T : Table → ℕ → ℕ → Type 0} {t u keeps : List ℕ} {grew : Bool} → Apart wide o
      → ((a b : Table) → Within a b → (r l : ℕ) → T a r l → T b r l) → Used wide o T t t u grew → Applies wide o p T t keeps u keeps grew
  applies-plain {t = t} w mono used =
      record {
        uses = λ old since m. used-since (λ r l h. mono (table_of wide old) (table_of wide t) since r l h) used;
        memory = λ old since m. remembers-on w used.only m;
      }

  -- for what tells the same
  pub applies-for : {T S : Table → ℕ → ℕ → Type 0} {t u keeps kept : List ℕ} {grew : Bool} → Apart wide o
      → ((a : Table) → Within (table_of wide t) a → (r l : ℕ) → T a r l → S a r l)
      → ((a : Table) → Within a (table_of wide t) → (r l : ℕ) → S a r l → T a r l) → Applies wide o p T t keeps u kept grew → Applies wide o p S t keeps u kept grew
  applies-for w f g a =
      record { uses = λ old since m. used-for w f (g (table_of wide old) since) (a.uses old since m); memory = a.memory }

  -- one after the other
  pub applies-then : {T S : Table → ℕ → ℕ → Type 0} {t u v keeps kept left : List ℕ} {a b : Bool} → Apart wide o → Applies wide o p T t keeps u kept a
      → Applies wide o p S u kept v left b → Applies wide o p (λ x r l. T x r l ⊎ S x r l) t keeps v left (a || b)
  applies-then {t = t} {u = u} {keeps = keeps} w first second =
      record {
        uses = λ old since m. used-then w (first.uses old since m) (second.uses old (later old since m) (first.memory old since m));
        memory = λ old since m. second.memory old (later old since m) (first.memory old since m);
      }
    where
      later : (old : List ℕ) → Since wide old t → Remembers wide o p old t keeps → Since wide old u
      later old since m = λ r l h. reached-read w (first.uses old since m).only r l (since r l h)

  -- nothing is told
  pub applies-nothing : {T : Table → ℕ → ℕ → Type 0} {t keeps : List ℕ} → ((a : Table) → Within a (table_of wide t) → (r l : ℕ) → T a r l → ⊥)
      → Applies wide o p T t keeps t keeps false
  applies-nothing none = record { uses = λ old since m. used-nothing (none (table_of wide old) since); memory = λ old since m. m }

  -- what was told, joined to a row
  pub applies-told : {y s have v : ℕ} {t u keeps kept : List ℕ} {grew : Bool} (slot : Slot) → Apart wide o → y < row_count (labels wide)
      → have ≡ get_or (table_at wide o t) y 0 → Tellings wide p slot t s have v keeps kept → Joined (words wide) o y v t u grew
      → Applies wide o p (gathering wide p y slot s) t keeps u kept grew
  applies-told {y} {s} {have} {v} {t} {u} {keeps} {kept} {grew} slot w i e tell j =
      record { uses = used; memory = λ old since m. remembers-on w (used old since m).only (tell o old since m).1 }
    where
      held : (l : ℕ) → On v l ⊎ On have l → On v l ⊎ Has (table_at wide o t) y l
      held l (inl h) = inl h
      held l (inr h) = inr (rw (← e) h)

      used : (old : List ℕ) → Since wide old t → Remembers wide o p old t keeps → Used wide o (gathering wide p y slot s) old t u grew
      used old since m =
          let a = (tell o old since m).0 in
          used-join y v i (λ l h z. (z, refl, a.source l h)) (λ q l h. (h.0, h.1, held l (a.all h.2.0 l h.2.1 h.2.2))) j

-- ---- a set, spread to the rows that a slot's labels take

pub left-part : {wide : Bool} {keeps : List ℕ} {pair s x rest : ℕ} {skip : Bool} → Leaves wide keeps pair s x rest skip → (l : ℕ) → On rest l → On s l
left-part {wide} {keeps} {pair} {s} (some i j e) l h = on-difference s (kept_set wide keeps pair) l (rw e at h)
left-part (every e) l h = rw e at h

-- the rows that labels take, named otherwise
pub spread-for : {wide : Bool} {o x least : ℕ} {G H : ℕ → ℕ → Type 0} {t u : List ℕ} {grew : Bool} (rest : ℕ) → Apart wide o → ((l r : ℕ) → On rest l → G l r → H l r)
    → ((l r : ℕ) → On rest l → H l r → G l r) → SpreadTo wide o (taken_by G rest) x t u grew least → SpreadTo wide o (taken_by H rest) x t u grew least
spread-for rest w to from done =
    record {
      used =
          used-for w (λ a i r l h. ((h.0.0, h.0.1, to h.0.0 r h.0.1 h.0.2), h.1, h.2))
          (λ r l h. ((h.0.0, h.0.1, from h.0.0 r h.0.1 h.0.2), h.1, h.2)) done.used;
      holds = λ r m h. done.holds r m (h.0, h.1, from h.0 r h.1 h.2);
    }

-- it was given to the labels of `rest`, and the rows of the others hold it
used-spread : {wide : Bool} {o : ℕ} (p : Program) (s rest : ℕ) {x least : ℕ} {old t u : List ℕ} {grew : Bool} (slot : Slot) → Apart wide o
    → SpreadTo wide o (taken_by (Takes wide p slot) rest) x t u grew least → ((l : ℕ) → On rest l → On s l)
    → ((l r m : ℕ) → On s l → Takes wide p slot l r → 0 < r → On x m → On rest l ⊎ Has (table_at wide o t) r m)
    → Used wide o (spreading wide p slot s x) old t u grew
used-spread {wide} {o} p s rest {x} {old = old} {t = t} {u = u} slot w done part passed =
    record {
      all = λ r l h. all r l h (passed h.0 r l h.1 h.2.0 h.2.1 h.2.2);
      only = reached-for w (λ a i r l h. (h.0.0, part h.0.0 h.0.1, (h.0.2, h.1, h.2))) done.used.only;
      says = done.used.says;
    }
  where
    all : (r l : ℕ) (h : spreading wide p slot s x (table_of wide old) r l) → On rest h.0 ⊎ Has (table_at wide o t) r l → Has (table_at wide o u) r l
    all r l h (inl a) = done.used.all r l ((h.0, a, h.2.0), h.2.1, h.2.2)
    all r l h (inr a) = reached-keeps done.used.only r l a

module _ {wide : Bool} {o : ℕ} {p : Program} {x least : ℕ} {t u keeps : List ℕ} {grew : Bool} (slot : Slot) (w : Apart wide o) where
  -- by the pair of the slot, which may learn
  pub applies-spread : {pair s rest : ℕ} {kept : List ℕ} {skip : Bool} → (Union slot → ⊥) → (pair < pair_count wide → slot_of pair ≡ slot)
      → Leaves wide keeps pair s x rest skip → SpreadTo wide o (taken_by (Takes wide p slot) rest) x t u grew least → Learns wide pair s rest least keeps kept skip
      → Applies wide o p (spreading wide p slot s x) t keeps u kept grew
  applies-spread {s = s} {rest = rest} meets here leaves done learns =
      record {
        uses = λ old since m. used-spread p s rest slot w done (left-part leaves) (left-holds here leaves m);
        memory =
            λ old since m. learned here meets leaves learns (λ l r q h takes z a. done.holds r q (l, h, takes) z a)
            (remembers-on w done.used.only m);
      }

  -- by the pair of a slot that takes more rows
  pub applies-passed : {pair s rest : ℕ} {skip : Bool} (wider : Slot) → (pair < pair_count wide → slot_of pair ≡ wider)
      → ((l r : ℕ) → Takes wide p slot l r → Takes wide p wider l r) → Leaves wide keeps pair s x rest skip
      → SpreadTo wide o (taken_by (Takes wide p slot) rest) x t u grew least → Applies wide o p (spreading wide p slot s x) t keeps u keeps grew
  applies-passed {s = s} {rest = rest} wider here more leaves done =
      record {
        uses = λ old since m. used-spread p s rest slot w done (left-part leaves) (λ l r q h takes. left-holds here leaves m l r q h (more l r takes));
        memory = λ old since m. remembers-on w done.used.only m;
      }

  -- by no pair
  pub applies-whole : (s : ℕ) → SpreadTo wide o (taken_by (Takes wide p slot) s) x t u grew least → Applies wide o p (spreading wide p slot s x) t keeps u keeps grew
  applies-whole s done =
      record {
        uses = λ old since m. used-spread p s s slot w done (λ l h. h) (λ l r q h takes z a. inl h);
        memory = λ old since m. remembers-on w done.used.only m;
      }
