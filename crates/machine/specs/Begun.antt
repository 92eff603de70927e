-- How the laws of the machine speak of its start (document 01, "At the start there is one object for labels 0, 1, 2, 4 and for each label of kinds 7
-- and 8 .."). Assumes nothing.
use Rattle.std.specs.Prelude.{◌≡◌, ◌⊎◌, ℕ, suc, ◌<◌, length}
use mathlib.Core.List.{List, [], ◌∷◌, Memᴰ}
use Rattle.format.specs.Sheet.{type_of}
use Rattle.program.specs.Statement.{Statement, property, held}
use Rattle.program.specs.Program.{Program}
use Rattle.machine.specs.State.{primitive, object, State, object_at}
use Rattle.machine.specs.Start.{top_frame}
use Rattle.machine.specs.Seen.{Bag, Named, Apart}
use Rattle.machine.specs.Effect.{TypePrototype}

-- "labels 0, 1, 2, 4 and .. each label of kinds 7 and 8"
pub data Begins (p : Program) : ℕ → Type 0 where
  beforehand : (l : ℕ) → Memᴰ l (0 ∷ 1 ∷ 2 ∷ 4 ∷ []) → Begins p l
  owns : (at l n m : ℕ) → Memᴰ (at, property l n m) p.host → Begins p l
  is-owned : (at l n m : ℕ) → Memᴰ (at, property l n m) p.host → Begins p m
  is_held : (at v l : ℕ) → Memᴰ (at, held v l) p.host → Begins p l

-- object i is the one that label l has at the start: "functions kept by the top frame, prototypes by type (label 1 has none)"
pub record StandsFor (p : Program) (s : State) (l i : ℕ) : Type 0 where
  pub is-there : i < length s.objects
  pub label_is : (object_at s i).label ≡ l
  pub kept-by-top : (object_at s i).kept ≡ top_frame
  pub prototype-is : (q : ℕ) → (l ≡ 1 → ⊥) → TypePrototype (type_of p.sheet l) q → (object_at s i).prototype ≡ object q
  pub has-none : l ≡ 1 → (object_at s i).prototype ≡ primitive

-- "the j-th kind 7 record for the same l and n": so many there are among these
pub data Numbered (l n : ℕ) : List (ℕ × Statement) → ℕ → Type 0 where
  no_record : Numbered l n [] 0
  one_more : (at m j : ℕ) (rest : List (ℕ × Statement)) → Numbered l n rest j → Numbered l n ((at, property l n m) ∷ rest) (suc j)
  another : (at j : ℕ) (a : Statement) (rest : List (ℕ × Statement)) → ((m : ℕ) → a ≡ property l n m → ⊥) → Numbered l n rest j → Numbered l n ((at, a) ∷ rest) j

-- "where records of kinds 7 and 8 fill the same variable or pair, the last stands": variable v is not filled again
pub record LastOf (p : Program) (v : ℕ) (after : List (ℕ × Statement)) : Type 0 where
  pub no-held : (at u m : ℕ) → Memᴰ (at, held u m) after → Bag p v ⊎ Apart p u v
  pub no-property : (at n m : ℕ) → Memᴰ (at, property 0 n m) after → Named p v n → ⊥
