-- Every statement of the program can be carried out in every frame of its scope, whatever is chosen. Assumes nothing.
use mathlib.Core.Path.{◌≡◌, refl, ap, ◌∙◌}
use mathlib.Core.List.{List, [], ◌∷◌, Memᴰ}
use mathlib.Core.Bool.{Bool, true, false, ◌||◌}
use mathlib.Core.Option.{some}
use Prim.Native.Nat.{ℕ}
use borrow.Author.Tests.{eq-eqb, lt-ltb}
use lib.ListN.{length}
use lib.Dec.{eqb}
use Rattle.program.specs.Statement as say
use Rattle.program.specs.Program.{Program, no_record_position, statements}
use Rattle.machine.specs.State.{Value, State}
use Rattle.machine.specs.Variable.{read, read_all}
use Rattle.machine.specs.Step.{Choice, act, scope_of, member, perform, statement_at}
use Rattle.machine.specs.Seen.{Reads, ReadsAll}
use Rattle.machine.specs.Effect.{Says, In, Can}
use Rattle.machine.proofs.Laws.Reading.{place-of, before, read-later, can-read, can-read-all}

-- ---- choices

-- all that a choice leaves open, for statement i in frame f
abbrev pub choice : ℕ → ℕ → (ℕ → ℕ) → ℕ → ℕ → ℕ → ℕ → ℕ → Bool → Choice
choice i f which n j q q' thrown to_guest =
    record { statement = i; frame = f; which = which; name = n; number = j; prototype = q; prototype' = q'; thrown = thrown; to_guest = to_guest }

-- what each field reads; a pair (n, j); the prototypes of what a guest makes; one of the values thrown; which way to grant
abbrev pub fields : (ℕ → ℕ) → Choice
fields which = choice 0 0 which 0 0 0 0 0 true

abbrev pub pair : (ℕ → ℕ) → ℕ → ℕ → ℕ → Choice
pair which n j q = choice 0 0 which n j q 0 0 true

abbrev pub prototypes : ℕ → ℕ → Choice
prototypes q q' = choice 0 0 (λ i. 0) 0 0 q q' 0 true

abbrev pub throwing : ℕ → Choice
throwing t = choice 0 0 (λ i. 0) 0 0 0 0 t true

abbrev pub granting : ℕ → Bool → Choice
granting i to = choice 0 0 (λ j. i) 0 0 0 0 0 to

-- ---- the step

-- "A step carries out one statement in any frame of its scope": whatever c chooses
pub acts : {p : Program} {s : State} {f k : ℕ} {a : say.Statement} {E : State → Type 0} → Says p a → In s f k → scope_of a ≡ some k → (c : Choice)
    → ((i : ℕ) → E (perform p (choice i f c.which c.name c.number c.prototype c.prototype' c.thrown c.to_guest) s f a)) → Can p s E
acts {p} {s} {f} {k} {a} says here scope c brings =
    let r = place-of (no_record_position, say.named 0 0) says.1 in
    let e : (statement_at p r.0).1 ≡ a = ap (λ (z : ℕ × say.Statement). z.1) r.2 in
    record {
      move = act (choice r.0 f c.which c.name c.number c.prototype c.prototype' c.thrown c.to_guest);
      brings =
          rw (lt-ltb r.0 (length (statements p)) r.1, lt-ltb f (length s.frames) here.frame-there, e, scope, here.scope-is, eq-eqb k k refl)
          (brings r.0);
    }

-- "choosing any pair the key allows"
pub is_member : (x : ℕ) (xs : List ℕ) → Memᴰ x xs → member x xs ≡ true
is_member x [] m = elim m [ ]
is_member x (y ∷ xs) (Memᴰ.head e) = rw (eq-eqb x y e)
is_member x (y ∷ xs) (Memᴰ.tail m) = go (eqb x y) (is_member x xs m)
  where
    go : (b : Bool) → member x xs ≡ true → (b || member x xs) ≡ true
    go true e = refl
    go false e = e

-- ---- the fields of a call

-- callee, this and each argument may be different values of one bag
pub can-read-call : {p : Program} {s : State} {f g t : ℕ} {args : List ℕ} {x y : Value} {xs : List Value} → Reads p s f g x → Reads p s f t y
    → ReadsAll p s f args xs
    → (which : ℕ → ℕ) × (read p s f g (which 0) ≡ x) × (read p s f t (which 1) ≡ y) × (read_all p s f args which 2 ≡ xs)
can-read-call {p} {s} {f} {args = args} h h' hs =
    let r = can-read h in
    let r' = can-read h' in
    let rs = can-read-all hs in
    let w = before r'.0 rs.0 in
    (before r.0 w, r.1, r'.1, read-later p s f args (before r.0 w) 1 ∙ read-later p s f args w 0 ∙ rs.1)
