-- One use by code that remembers what it worked out before. Assumes nothing.
use Rattle.std.specs.Prelude.{◌≡◌, List, Bool, ℕ, ◌<◌}
use Rattle.words.specs.Words.{bit}
use Rattle.rules.specs.Table.{Table}
use Rattle.program.specs.Program.{Program}
use Rattle.sets.specs.declared.Set.{Set}
use Rattle.sets.specs.Value.{value}
use Rattle.uses.specs.Use.{table_of, Since, Used}
use Rattle.uses.specs.Gather.{Gathered}
use Rattle.uses.specs.Spread.{given, taken_by, SpreadTo}
use Rattle.uses.specs.declared.spread.Spread.{Spread}
use Rattle.kept.specs.Promise.{Slot, Tells, Takes, Remembers}

-- Whatever the words `old` were when the code last forgot: if the pairs kept their promise, they keep it afterwards, and the table holds all that T tells of
-- the table at that time.
pub record Applies (wide : Bool) (o : ℕ) (p : Program) (T : Table → ℕ → ℕ → Type 0) (t keeps u kept : List ℕ) (grew : Bool) : Type 0 where
  pub uses : (old : List ℕ) → Since wide old t → Remembers wide o p old t keeps → Used wide o T old t u grew
  pub memory : (old : List ℕ) → Since wide old t → Remembers wide o p old t keeps → Remembers wide o p old u kept

-- what the labels of s tell in a slot, to row y
abbrev pub gathering : Bool → Program → ℕ → Slot → ℕ → Table → ℕ → ℕ → Type 0
gathering wide p y slot s t r l = (0 < y) × (r ≡ y) × ((m : ℕ) × (bit s m ≡ 1) × Tells wide p slot t m l)

-- the labels of x, to the rows that the labels of s take in a slot
abbrev pub spreading : Bool → Program → Slot → ℕ → ℕ → Table → ℕ → ℕ → Type 0
spreading wide p slot s x = given (Takes wide p slot) s x

-- what a function that is handed labels of s has read of them, by what it hands back: what table t tells of them in a slot
abbrev pub Reads : Bool → Program → Slot → List ℕ → ℕ → (Set → Set → Type 0) → Type 0
Reads wide p slot t s Read =
    (rest r : Set) → ((l : ℕ) → bit (value wide rest) l ≡ 1 → bit s l ≡ 1) → Read rest r
    → Gathered (Tells wide p slot) (table_of wide t) (table_of wide t) (value wide rest) (value wide r)

-- what a function that is handed labels of s, and the words t, does by what it hands back and leaves: the labels of x, to the rows that its labels take
abbrev pub Gives : Bool → ℕ → Program → Slot → List ℕ → ℕ → ℕ → (Set → Spread → List ℕ → Type 0) → Type 0
Gives wide o p slot t s x Give =
    (rest : Set) (r : Spread) (u : List ℕ) → ((l : ℕ) → bit (value wide rest) l ≡ 1 → bit s l ≡ 1) → Give rest r u
    → SpreadTo wide o (taken_by (Takes wide p slot) (value wide rest)) x t u r.grew (value wide r.least)
