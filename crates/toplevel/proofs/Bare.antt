-- The statements of a program, positions aside. With a return at top level put in they are those of the program without and that return among them.
-- Assumes nothing.
use mathlib.Core.Path.{◌≡◌, refl, sym, ap, ap₂, ◌∙◌}
use mathlib.Core.List.{List, [], ◌∷◌, ◌++◌, map, append_assoc, map-append}
use Prim.Native.Nat.{ℕ}
use Rattle.format.specs.Records.{Record}
use Rattle.format.specs.Reading.{Reading}
use Rattle.format.proofs.Placed.{later}
use Rattle.program.specs.Statement as say
use Rattle.program.specs.Statement.{statements_of}
use Rattle.program.specs.Program.{Program, placed, guests_statements, host_statements, guests_of, program_of, statements}
use Rattle.machine.proofs.Laws.Alike.{Alike, alike}
use Rattle.toplevel.specs.Silent.{top_return}
use Rattle.toplevel.proofs.Read.{Read}

abbrev pub bare : List (ℕ × say.Statement) → List say.Statement
bare ss = map (λ s. s.1) ss

bare-append : (a b : List (ℕ × say.Statement)) → bare (a ++ b) ≡ bare a ++ bare b
bare-append = map-append (λ (s : ℕ × say.Statement). s.1)

bare-placed : (at : ℕ) (ss : List say.Statement) → bare (placed at ss) ≡ ss
bare-placed at [] = refl
bare-placed at (s ∷ ss) = ap (λ (rest : List say.Statement). s ∷ rest) (bare-placed at ss)

-- the statements of records, without their positions
unfoldable pub said : List (ℕ × Record) → List say.Statement
unfolding statements_of
said [] = []
said (r ∷ rs) = statements_of r.1 ++ said rs

pub bare-host : (rs : List (ℕ × Record)) → bare (host_statements rs) ≡ said rs
unfolding host_statements said
bare-host [] = refl
bare-host (r ∷ rs) =
    bare-append (placed r.0 (statements_of r.1)) (host_statements rs) ∙ ap₂ (λ (a b : List say.Statement). a ++ b) (bare-placed r.0 (statements_of r.1)) (bare-host rs)

said-append : (a b : List (ℕ × Record)) → said (a ++ b) ≡ said a ++ said b
unfolding said
said-append [] b = refl
said-append (r ∷ a) b =
    ap (λ (ss : List say.Statement). statements_of r.1 ++ ss) (said-append a b) ∙ sym (append_assoc (statements_of r.1) (said a) (said b))

said-later : (n : ℕ) (rs : List (ℕ × Record)) → said (map (later n) rs) ≡ said rs
unfolding said
said-later n [] = refl
said-later n (r ∷ rs) = ap (λ (ss : List say.Statement). statements_of r.1 ++ ss) (said-later n rs)

-- ---- the two programs

-- a program with other statements of the host
abbrev pub with_host : Program → List (ℕ × say.Statement) → Program
with_host q h = record { sheet = q.sheet; host = h; guests = q.guests }

-- the machine sees the same of both
pub host-alike : (q : Program) (h : List (ℕ × say.Statement)) → Alike (with_host q h) q
host-alike q h = alike q.sheet q.sheet.profile h q.host q.guests q.guests (λ v. refl) (λ l. refl) refl

-- the host's statements h are those of q, with a return at top level among them
pub record Among (q : Program) (h : List (ℕ × say.Statement)) : Type 0 where
  pub front : List say.Statement
  pub value : ℕ
  pub back : List say.Statement
  pub without : bare q.host ≡ front ++ back
  pub with_it : bare h ≡ front ++ (say.return 0 value ∷ back)

-- of all statements, the guests' too
module _ (q : Program) (h : List (ℕ × say.Statement)) (a : Among q h) where
  pub earlier : List say.Statement
  earlier = bare (guests_statements q.guests) ++ a.front

  pub bare-with : bare (statements (with_host q h)) ≡ earlier ++ (say.return 0 a.value ∷ a.back)
  unfolding statements earlier
  bare-with =
      bare-append (guests_statements q.guests) h
      ∙ ap (λ (ss : List say.Statement). bare (guests_statements q.guests) ++ ss) a.with_it
      ∙ sym (append_assoc (bare (guests_statements q.guests)) a.front (say.return 0 a.value ∷ a.back))

  pub bare-without : bare (statements q) ≡ earlier ++ a.back
  unfolding statements earlier
  bare-without =
      bare-append (guests_statements q.guests) q.host
      ∙ ap (λ (ss : List say.Statement). bare (guests_statements q.guests) ++ ss) a.without
      ∙ sym (append_assoc (bare (guests_statements q.guests)) a.front a.back)

module _ (d e : Reading) (r : Read d e) where
  pub program-is : program_of e ≡ with_host (program_of d) (host_statements e.records)
  unfolding program_of
  program-is = λ i. record { sheet = r.same-sheet i; host = host_statements e.records; guests = guests_of (r.same-sheet i) }

  pub return-among : Among (program_of d) (host_statements e.records)
  unfolding program_of said statements_of
  return-among =
      record {
        front = said r.front;
        value = r.value;
        back = said r.back;
        without = bare-host d.records ∙ ap said r.records ∙ said-append r.front r.back;
        with_it = bare-host e.records ∙ ap said r.records-with
            ∙ said-append r.front ((r.place, top_return r.value) ∷ map (later 3) r.back)
            ∙ ap (λ (ss : List say.Statement). said r.front ++ (say.return 0 r.value ∷ ss)) (said-later 3 r.back);
      }
