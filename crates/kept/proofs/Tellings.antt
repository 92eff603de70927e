-- What is told for a set of labels by a pair that is a union: the kept set is part of the set, or its union is held already, or the pair is of no use.
-- Assumes nothing.
use mathlib.Core.Path.{◌≡◌, refl, sym}
use mathlib.Core.Logic.{inl, inr, ⊎_elim}
use mathlib.Core.Bool.{Bool}
use mathlib.Core.List.{List}
use Prim.Native.Nat.{ℕ, ◌<◌}
use lib.Bits.{or_zero_l, or_zero_r}
use Rattle.words.specs.Words.{union, difference}
use Rattle.words.proofs.Bits.{Subset, empty-off, on-union, on-left, on-right, on-difference, difference-on}
use Rattle.rules.specs.Table.{Table}
use Rattle.program.specs.Program.{Program}
use Rattle.uses.specs.Use.{table_of}
use Rattle.uses.specs.Gather.{Gathered}
use Rattle.kept.specs.Pairs.{pair_count, kept_set, kept_with, Asks, part, held, all, Spares, fewer, whole, Answers}
use Rattle.kept.specs.Promise.{Slot, slot_of, Tells, Unites, Union, Promise, Remembers, Answer, Tellings}
use Rattle.kept.proofs.Pairs.{never}
use Rattle.kept.proofs.Remembers.{tells-monotone, takes-nothing, promised, remembers-set}

-- ---- unions put together

module _ {F : Table → ℕ → ℕ → Type 0} {old t : Table} {s more : ℕ} (w : (l m : ℕ) → F old l m → F t l m) where
  -- the kept set a is part of s, and the rest of s was read
  gathered-part : {a v : ℕ} → Subset a s → Gathered F old t a v → Gathered F t t (difference s a) more → Gathered F old t s (union v more)
  gathered-part {a} {v} within kept rest =
      record {
        source =
            λ m h. ⊎_elim (λ i. (let f = kept.source m i in (f.0, within f.0 f.1, f.2)))
            (λ i. (let f = rest.source m i in (f.0, on-difference s a f.0 f.1, f.2))) (on-union v more m h);
        all = λ l m h i. ⊎_elim (λ j. on-right v more m (rest.all l m j (w l m i))) (λ j. on-left v more m (kept.all l m j i)) (difference-on s a l h);
      }

  -- the kept union v is held already
  answer-held : {a v have : ℕ} → Subset v have → Gathered F old t a v → Gathered F t t (difference s a) more → Answer F old t s have more
  answer-held {a} within kept rest =
      record {
        source = λ m h. (let f = rest.source m h in (f.0, on-difference s a f.0 f.1, f.2));
        all = λ l m h i. ⊎_elim (λ j. inl (rest.all l m j (w l m i))) (λ j. inr (within m (kept.all l m j i))) (difference-on s a l h);
      }

  -- all was read
  gathered-all : Gathered F t t s more → Gathered F old t s more
  gathered-all g = record { source = g.source; all = λ l m h i. g.all l m h (w l m i) }

-- ---- where there is no pair

-- all was read
pub tellings-whole : {wide : Bool} {have r : ℕ} {keeps : List ℕ} (slot : Slot) (p : Program) (t : List ℕ) (s : ℕ)
    → Gathered (Tells wide p slot) (table_of wide t) (table_of wide t) s r → Tellings wide p slot t s have r keeps keeps
tellings-whole {wide} slot p t s read o old since remembers = (
  record { source = read.source; all = λ l m h j. inl (read.all l m h (tells-monotone wide p slot (table_of wide old) (table_of wide t) since l m j)) },
  remembers,
)

-- labels were left out by the pair of a slot that tells more
pub tellings-spared : {wide : Bool} {pair s have rest r : ℕ} {keeps : List ℕ} {wider : Slot} (slot : Slot) (p : Program) (t : List ℕ) → Union wider
    → pair < pair_count wide → slot_of pair ≡ wider → ((a : Table) (l m : ℕ) → Tells wide p slot a l m → Tells wide p wider a l m)
    → Spares wide keeps pair s have rest → Gathered (Tells wide p slot) (table_of wide t) (table_of wide t) rest r → Tellings wide p slot t s have r keeps keeps
tellings-spared {wide} {s = s} slot p t looked i here within (whole e) read o old since remembers = tellings-whole slot p t s (rw e at read) o old since remembers
tellings-spared {wide} {pair} {s} {have} {rest} {r} {keeps} {wider} slot p t looked i here within (fewer holds e) read o old since remembers = (
  record {
    source = λ m h. (let f = read.source m h in (f.0, on-difference s a f.0 (rw e at f.1), f.2));
    all = λ l m h j.
        ⊎_elim (λ q. inl (read.all l m (rw e q) (tells-monotone wide p slot (table_of wide old) (table_of wide t) since l m j)))
        (λ q. inr (holds m (kept.all l m q (within (table_of wide old) l m j)))) (difference-on s a l h);
  },
  remembers,
)
  where
    a : ℕ
    a = kept_set wide keeps pair

    kept : Unites wide p wider old t a (kept_with wide keeps pair)
    kept = (promised here i remembers).union looked

-- ---- the answer

union-none-left : (x : ℕ) → union 0 x ≡ x
unfolding union
union-none-left x = or_zero_l x

union-none-right : (x : ℕ) → union x 0 ≡ x
unfolding union
union-none-right x = or_zero_r x

pub tellings : {wide fresh : Bool} {pair s have base rest more r : ℕ} {before after : List ℕ} {slot : Slot} (p : Program) (t : List ℕ) → Union slot
    → (pair < pair_count wide → slot_of pair ≡ slot) → Asks wide before pair s have base rest fresh
    → Gathered (Tells wide p slot) (table_of wide t) (table_of wide t) rest more → Answers wide pair s base more r fresh before after
    → Tellings wide p slot t s have r before after
tellings {wide} {fresh} {pair} {s} {have} {base} {rest} {more} {r} {before} {after} {slot} p t looked here asks read answers o old since remembers =
    go asks read answers
  where
    then : (l m : ℕ) → Tells wide p slot (table_of wide old) l m → Tells wide p slot (table_of wide t) l m
    then = tells-monotone wide p slot (table_of wide old) (table_of wide t) since

    -- what the pair has
    kept : pair < pair_count wide → Unites wide p slot old t (kept_set wide before pair) (kept_with wide before pair)
    kept i = (promised (here i) i remembers).union looked

    -- the whole union, which may have been kept
    whole : {fresh : Bool} → Unites wide p slot old t s r → Answers wide pair s base more r fresh before after
        → Answer (Tells wide p slot) (table_of wide old) (table_of wide t) s have r × Remembers wide o p old t after
    whole g a =
        let promise : Promise wide o p slot old t s r = record { union = λ _. g; meet = λ l q m i takes. absurd (takes-nothing wide p slot l q looked takes) } in (
          record { source = g.source; all = λ l m i j. inl (g.all l m i j) },
          ⊎_elim (λ e. rw e remembers) (λ e. remembers-set (here e.1) promise e.2 remembers) a.left,
        )

    go : {fresh : Bool} → Asks wide before pair s have base rest fresh → Gathered (Tells wide p slot) (table_of wide t) (table_of wide t) rest more
        → Answers wide pair s base more r fresh before after
        → Answer (Tells wide p slot) (table_of wide old) (table_of wide t) s have r × Remembers wide o p old t after
    go (part i within e f) g a = whole (rw (a.joined, e) (gathered-part then within (kept i) (rw f at g))) a
    go (held i within e f) g a = (
      rw (a.joined, e, union-none-left more) (answer-held then within (kept i) (rw f at g)),
      ⊎_elim (λ e. rw e remembers) (λ e. never e.0) a.left,
    )
    go (all i e f) g a = whole (rw (a.joined, e, union-none-left more) (gathered-all then (rw f at g))) a

-- no label is left to be read
pub tellings-known : {wide fresh : Bool} {pair s have base : ℕ} {keeps : List ℕ} {slot : Slot} (p : Program) (t : List ℕ) → Union slot
    → (pair < pair_count wide → slot_of pair ≡ slot) → Asks wide keeps pair s have base 0 fresh → Tellings wide p slot t s have base keeps keeps
tellings-known {base = base} p t looked here asks =
    tellings p t looked here asks (record { source = λ m h. absurd (empty-off m h); all = λ l m h i. absurd (empty-off l h) })
    (record { joined = sym (union-none-right base); left = inl refl })
