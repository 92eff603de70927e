-- What each pair promises. A union: nothing that the table does not tell now, and all that it told when the code last forgot; if nothing was added since, the
-- two tables are one, and the union is exactly what the table tells. A meet: every row that the labels of the set are to be joined to holds it; rows
-- only grow, so that this stays so. Assumes nothing.
use Rattle.std.specs.Prelude.{◌≡◌, ◌⊎◌, Bool, cond, ℕ, ◌+◌, ◌-◌, ◌*◌, ◌<◌, get_or, ltb}
use mathlib.Core.List.{List, Memᴰ}
use Rattle.words.specs.Words.{bit}
use Rattle.rows.specs.Edition.{labels}
use Rattle.rows.specs.Row.{number, property, chain, thrown}
use Rattle.layout.specs.Key.{inside, outside}
use Rattle.rules.specs.Table.{Table, Has}
use Rattle.program.specs.Program.{Program, names_of, returns_of}
use Rattle.lent.specs.Table.{table_at}
use Rattle.uses.specs.Use.{table_of, Since}
use Rattle.uses.specs.Gather.{Gathered}
use Rattle.kept.specs.Pairs.{pair_count, kept_set, kept_with}

-- what is looked up, and where values are spread
pub data Slot : Type 0 where
  chains : Slot  -- the chains of labels
  throws : Slot  -- what functions throw
  handed : Slot  -- what functions hand back
  under : ℕ → Slot  -- the properties of labels under a key
  input : ℕ → Slot  -- spread: the j-th input of functions, this and six formals
  stored : ℕ → Slot  -- spread: the properties of labels under a key
  unused : Slot

-- the slot of a pair: where there is room for 32 pairs only, those of single names other than 1, 2 and 3 and of the names outside a class are
-- left out
unfoldable pub slot_of : ℕ → Slot
slot_of q =
    cond (ltb q 4) chains
    (cond (ltb q 5) throws
    (cond (ltb q 6) handed
    (cond (ltb q 14) (under (inside + (q - 6)))
    (cond (ltb q 17) (under (q - 13))
    (cond (ltb q 24) (input (q - 17))
    (cond (ltb q 32) (stored (inside + (q - 24)))
    (cond (ltb q 64) (under (q - 32))
    (cond (ltb q 72) (under (outside + (q - 64)))
    (cond (ltb q 80) (stored (outside + (q - 72)))
    (cond (ltb q 112) (stored (q - 80))
    unused))))))))))

-- what label l tells in table t
abbrev pub Tells : Bool → Program → Slot → Table → ℕ → ℕ → Type 0
Tells wide p chains t l m = Has t (number (labels wide) (chain l)) m
Tells wide p throws t l m = Has t (number (labels wide) (thrown l)) m
Tells wide p handed t l m = (x : ℕ) × Memᴰ x (returns_of p l) × Has t x m
Tells wide p (under key) t l m = (n : ℕ) × Memᴰ n (names_of p.sheet key) × Has t (number (labels wide) (property l n)) m
Tells wide p (input j) t l m = ⊥
Tells wide p (stored key) t l m = ⊥
Tells wide p unused t l m = ⊥

-- the rows that values are joined to for label l
abbrev pub Takes : Bool → Program → Slot → ℕ → ℕ → Type 0
Takes wide p chains l r = ⊥
Takes wide p throws l r = ⊥
Takes wide p handed l r = ⊥
Takes wide p (under key) l r = ⊥
Takes wide p (input j) l r = r ≡ get_or p.sheet.formals (7 * l + j) 0
Takes wide p (stored key) l r = (n : ℕ) × Memᴰ n (names_of p.sheet key) × (r ≡ number (labels wide) (property l n))
Takes wide p unused l r = ⊥

-- every row that is joined to for a label of s holds v
abbrev pub Meets : Bool → ℕ → Program → Slot → List ℕ → ℕ → ℕ → Type 0
Meets wide o p slot t s v = (l r m : ℕ) → bit s l ≡ 1 → Takes wide p slot l r → 0 < r → bit v m ≡ 1 → Has (table_at wide o t) r m

-- v is the union over s: `old` are the words when the code last forgot, t those now
abbrev pub Unites : Bool → Program → Slot → List ℕ → List ℕ → ℕ → ℕ → Type 0
Unites wide p slot old t s v = Gathered (Tells wide p slot) (table_of wide old) (table_of wide t) s v

-- what is looked up is a union
abbrev pub Union : Slot → Type 0
Union chains = Unit {0}
Union throws = Unit {0}
Union handed = Unit {0}
Union (under key) = Unit {0}
Union (input j) = ⊥
Union (stored key) = ⊥
Union unused = ⊥

-- the promise of a pair of s and v; no row is joined to for what is looked up, so that `meet` says something of what is spread alone
pub record Promise (wide : Bool) (o : ℕ) (p : Program) (slot : Slot) (old t : List ℕ) (s v : ℕ) : Type 0 where
  pub union : Union slot → Unites wide p slot old t s v
  pub meet : Meets wide o p slot t s v

-- every pair keeps its promise
pub record Remembers (wide : Bool) (o : ℕ) (p : Program) (old t keeps : List ℕ) : Type 0 where
  pub pair : (q : ℕ) → q < pair_count wide → Promise wide o p (slot_of q) old t (kept_set wide keeps q) (kept_with wide keeps q)

-- what is told for the labels s: nothing that the table does not tell, and all that it told, but for what `have` holds already
pub record Answer (F : Table → ℕ → ℕ → Type 0) (old t : Table) (s have r : ℕ) : Type 0 where
  pub source : (m : ℕ) → bit r m ≡ 1 → (l : ℕ) × (bit s l ≡ 1) × F t l m
  pub all : (l m : ℕ) → bit s l ≡ 1 → F old l m → (bit r m ≡ 1) ⊎ (bit have m ≡ 1)

-- the contract of a function that tells by a pair, and leaves the pairs as good as they were
abbrev pub Tellings : Bool → Program → Slot → List ℕ → ℕ → ℕ → ℕ → List ℕ → List ℕ → Type 0
Tellings wide p slot t s have r before after =
    (o : ℕ) (old : List ℕ) → Since wide old t → Remembers wide o p old t before
    → Answer (Tells wide p slot) (table_of wide old) (table_of wide t) s have r × Remembers wide o p old t after
