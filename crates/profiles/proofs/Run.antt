-- Where the guest's class has every name, the machine starts the same and each of its steps is the same, so that it reaches the same states.
-- Assumes nothing.
use mathlib.Core.Path.{◌≡◌, refl, sym, ap, ◌∙◌}
use mathlib.Core.List.{List, [], ◌∷◌, ◌++◌, map}
use mathlib.Core.Bool.{Bool, true, cond, ◌&&◌}
use mathlib.Core.Option.{Option, none}
use Prim.Native.Nat.{ℕ, ◌+◌}
use lib.ListN.{length, get_or, drop, length-map, get_or-map}
use lib.Dec.{ltb}
use Rattle.layout.specs.Key.{inside}
use Rattle.format.specs.Sheet.{Sheet}
use Rattle.program.specs.Statement as say
use Rattle.program.specs.Statement.{bag}
use Rattle.program.specs.Program.{Program, guest_statements, in_class, names_of, statements}
use Rattle.machine.specs.State.{State, frame_at}
use Rattle.machine.specs.Variable.{read}
use Rattle.machine.specs.Property.{load_from, store_to}
use Rattle.machine.specs.Step.{Choice, Move, act, hand, scope_of, in_scope, member, perform, step, run}
use Rattle.machine.specs.Start.{filling_of, start}
use Rattle.machine.proofs.Laws.Alike.{Alike, alike, start-same}
use Rattle.toplevel.proofs.Bare.{bare}
use Rattle.toplevel.proofs.Start.{fillings-bare}
use Rattle.toplevel.proofs.Run.{beyond, step_by, step-bare, step-alike}
use Rattle.profiles.specs.Profiles.{free_guest, held_guest}
use Rattle.profiles.proofs.Guest.{guest_by, free_program, held_program, free-statements, held-statements}

-- ---- statements with the same scopes that do the same

-- the step by the scope and the outcome of each statement
abbrev step_in : List (Option ℕ) → List State → ℕ → Choice → State → State
step_in scopes outcomes i c s =
    cond (ltb i (length scopes) && (ltb c.frame (length s.frames) && in_scope (get_or scopes i none) (frame_at s c.frame).scope)) (get_or outcomes i s) s

step-by-outcome : (p : Program) (ss : List say.Statement) (i : ℕ) (c : Choice) (s : State)
    → step_by p ss i c s ≡ step_in (map scope_of ss) (map (perform p c s c.frame) ss) i c s
step-by-outcome p ss i c s =
    rw (length-map ss scope_of, get_or-map scope_of ss i beyond, get_or-map (perform p c s c.frame) ss i beyond)

-- a load and a store go by the names of their keys
module _ (p : Program) (key other : ℕ) (names : names_of p.sheet key ≡ names_of p.sheet other) (c : Choice) (s : State) (f k : ℕ) where
  load-by-names : (y x w : ℕ) → perform p c s f (say.load k y x key w) ≡ perform p c s f (say.load k y x other w)
  load-by-names y x w =
      ap (λ (ns : List ℕ). cond (member c.name ns) (load_from p s f y (read p s f x (c.which 0)) w c.prototype c.name c.number) s) names

  store-by-names : (x a : ℕ) → perform p c s f (say.store k x key a) ≡ perform p c s f (say.store k x other a)
  store-by-names x a =
      ap (λ (ns : List ℕ). cond (member c.name ns) (store_to p s (read p s f x (c.which 0)) (read p s f a (c.which 1)) c.name c.number) s) names

-- ---- the two programs

module _ (s : Sheet) (c : ℕ) (h k : List (ℕ × say.Statement)) (same : bare k ≡ bare h) where
  abbrev free : Program
  free = free_program s h

  abbrev held : Program
  held = held_program s c k

  seen : Alike held free
  seen = alike s c k h (held_guest s c ∷ []) (free_guest s ∷ []) (λ v. refl) (λ l. refl) refl

  start-held : start held ≡ start free
  start-held = start-same held free seen (fillings-bare k ∙ ap (map filling_of) same ∙ sym (fillings-bare h))

  module _ (names : names_of s (inside + c) ≡ names_of s inside) (three : in_class s c 3 ≡ true) where
    -- the guest's statements do what document 01's do
    outcomes-same : (m : Choice) (u : State) (f : ℕ)
        → map (perform held m u f) (guest_statements (guest_by s c true) ++ bare h) ≡ map (perform held m u f) (guest_statements (free_guest s) ++ bare h)
    unfolding guest_statements names_of
    outcomes-same m u f = λ i.
        perform held m u f (say.make_function 3 bag 3 3)
        ∷ load-by-names held (inside + c) inside names m u f 3 bag bag 3 i
        ∷ store-by-names held (inside + c) inside names m u f 3 bag bag i
        ∷ map (perform held m u f) (drop 3 (guest_statements (free_guest s) ++ bare h))

    scopes-same : map scope_of (guest_statements (guest_by s c true) ++ bare h) ≡ map scope_of (guest_statements (free_guest s) ++ bare h)
    unfolding guest_statements
    scopes-same = refl

    statements-held : bare (statements held) ≡ guest_statements (guest_by s c true) ++ bare h
    statements-held = held-statements s c h k same ∙ ap (λ (b : Bool). guest_statements (guest_by s c b) ++ bare h) three

    step-held : (m : Move) (u : State) → step held m u ≡ step free m u
    step-held (hand f i) u = refl
    step-held (act m) u =
        let i = m.statement in
        let ss = guest_statements (guest_by s c true) ++ bare h in
        let ts = guest_statements (free_guest s) ++ bare h in
        step-bare held m u
        ∙ ap (λ (zs : List say.Statement). step_by held zs i m u) statements-held
        ∙ step-by-outcome held ss i m u
        ∙ (λ j. step_in (scopes-same j) (outcomes-same m u m.frame j) i m u)
        ∙ sym (step-by-outcome held ts i m u)
        ∙ step-alike held free seen ts i m u
        ∙ sym (step-bare free m u ∙ ap (λ (zs : List say.Statement). step_by free zs i m u) (free-statements s h))

    run-held : (moves : List Move) (u : State) → run held moves u ≡ run free moves u
    run-held [] u = refl
    run-held (m ∷ moves) u = run-held moves (step held m u) ∙ ap (run free moves) (step-held m u)

    pub reached-held : (moves : List Move) → run held moves (start held) ≡ run free moves (start free)
    reached-held moves = run-held moves (start held) ∙ ap (run free moves) start-held
