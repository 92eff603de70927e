-- With a return at top level the machine reaches the states that it reaches without: each step is the same, the statements behind the return counted one
-- further on, and the return itself does nothing. Assumes nothing.
use mathlib.Core.Path.{◌≡◌, refl, sym, ap, ◌∙◌}
use mathlib.Core.List.{List, [], ◌∷◌, ◌++◌}
use mathlib.Core.Bool.{cond, ◌&&◌}
use Prim.Native.Nat.{ℕ, suc, ◌+◌, ◌-◌, ◌<◌}
use native.Mathlib.Omega.{arith}
use native.Mathlib.Decide.{ℕ_discrete, dec_lt}
use lib.ListN.{length, get_or, length-map, length-append, get_or-append, get_or-map}
use lib.Seq.{get_or-append-add, get_or-append_seam}
use lib.Dec.{ltb}
use borrow.Author.Tests.{lt-ltb, le-ltb}
use Rattle.format.specs.Sheet.{type_of}
use Rattle.program.specs.Statement as say
use Rattle.program.specs.Program.{Program, no_record_position, statements}
use Rattle.machine.specs.State.{State, frame_at}
use Rattle.machine.specs.Step.{Choice, Move, act, hand, scope_of, in_scope, perform, statement_at, step, run}
use Rattle.machine.proofs.Laws.Alike.{Alike, perform-same}
use Rattle.machine.proofs.Laws.Grounded.{Grounded, after-step, top-return-idle}
use Rattle.toplevel.proofs.Bare.{bare, with_host, host-alike, Among, earlier, bare-with, bare-without}

-- ---- steps

-- no statement: what stands beyond the last place
abbrev pub beyond : say.Statement
beyond = say.named 0 0

-- the choice, of another statement
abbrev choosing : ℕ → Choice → Choice
choosing j c =
    record {
      statement = j;
      frame = c.frame;
      which = c.which;
      name = c.name;
      number = c.number;
      prototype = c.prototype;
      prototype' = c.prototype';
      thrown = c.thrown;
      to_guest = c.to_guest;
    }

-- statement i of the list, in the frame of the choice
abbrev pub step_by : Program → List say.Statement → ℕ → Choice → State → State
step_by q ss i c s =
    cond (ltb i (length ss) && (ltb c.frame (length s.frames) && in_scope (scope_of (get_or ss i beyond)) (frame_at s c.frame).scope))
    (perform q c s c.frame (get_or ss i beyond)) s

perform-choosing : (q : Program) (j : ℕ) (c : Choice) (s : State) (f : ℕ) (a : say.Statement) → perform q (choosing j c) s f a ≡ perform q c s f a
perform-choosing q j c s f (say.named v n) = refl
perform-choosing q j c s f (say.grant v b) = refl
perform-choosing q j c s f (say.property l n m) = refl
perform-choosing q j c s f (say.held v l) = refl
perform-choosing q j c s f (say.copy k y x) = refl
perform-choosing q j c s f (say.load k y x key u) = refl
perform-choosing q j c s f (say.store k x key a) = refl
perform-choosing q j c s f (say.make k y l) = refl
perform-choosing q j c s f (say.make_function k y l m) = refl
perform-choosing q j c s f (say.call k y g u vs) = refl
perform-choosing q j c s f (say.new k y g u l vs) = refl
perform-choosing q j c s f (say.return k x) = refl
perform-choosing q j c s f (say.throw k x) = refl
perform-choosing q j c s f (say.catch k y) = refl
perform-choosing q j c s f (say.prim k x) = refl

-- places of two lists at which the same stands
record Counterpart (ss ts : List say.Statement) (i j : ℕ) : Type 0 where
  stands : get_or ss i beyond ≡ get_or ts j beyond
  there : ltb i (length ss) ≡ ltb j (length ts)

step-counterpart : (q : Program) (ss ts : List say.Statement) (i j : ℕ) → Counterpart ss ts i j → (c : Choice) (s : State)
    → step_by q ss i c s ≡ step_by q ts j (choosing j c) s
step-counterpart q ss ts i j m c s = rw (m.there, m.stands, perform-choosing q j c s c.frame (get_or ts j beyond))

ltb-same : (a b x y : ℕ) → (a < b → x < y) → (x < y → a < b) → ltb a b ≡ ltb x y
ltb-same a b x y f g = go (dec_lt a b)
  where
    go : Dec (a < b) → ltb a b ≡ ltb x y
    go (yes e) = lt-ltb a b e ∙ sym (lt-ltb x y (f e))
    go (no e) = elim (dec_lt x y) [ yes z ↦ absurd (e (g z)) | no z ↦ le-ltb a b (omega arith) ∙ sym (le-ltb x y (omega arith)) ]

-- ---- a statement r put in behind the statements xs

module _ (xs ys : List say.Statement) (r : say.Statement) where
  abbrev n : ℕ
  n = length xs

  before : (i : ℕ) → i < n → Counterpart (xs ++ ys) (xs ++ (r ∷ ys)) i i
  before i e =
      record {
        stands = get_or-append xs ys beyond i e ∙ sym (get_or-append xs (r ∷ ys) beyond i e);
        there = ltb-same i (length (xs ++ ys)) i (length (xs ++ (r ∷ ys))) (λ _. omega (arith, length-append xs (r ∷ ys))) (λ _. omega (arith, length-append xs ys));
      }

  behind : (k : ℕ) → Counterpart (xs ++ ys) (xs ++ (r ∷ ys)) (n + k) (n + suc k)
  behind k =
      record {
        stands = get_or-append-add xs ys k beyond ∙ sym (get_or-append-add xs (r ∷ ys) (suc k) beyond);
        there =
            ltb-same (n + k) (length (xs ++ ys)) (n + suc k) (length (xs ++ (r ∷ ys)))
            (λ e. omega (arith, e, length-append xs ys, length-append xs (r ∷ ys))) (λ e. omega (arith, e, length-append xs ys, length-append xs (r ∷ ys)));
      }

  -- every statement of the shorter list stands in the longer
  longer : (i : ℕ) → (j : ℕ) × Counterpart (xs ++ ys) (xs ++ (r ∷ ys)) i j
  longer i = go (dec_lt i n)
    where
      go : Dec (i < length xs) → (j : ℕ) × Counterpart (xs ++ ys) (xs ++ (r ∷ ys)) i j
      go (yes e) = (i, before i e)
      go (no e) =
          let z : n + (i - n) ≡ i = omega arith in
          (n + suc (i - n), rw z at (behind (i - n)))

  -- and all of the longer but r in the shorter
  shorter : (j : ℕ) → (j ≡ n → ⊥) → (i : ℕ) × Counterpart (xs ++ ys) (xs ++ (r ∷ ys)) i j
  shorter j d = go (dec_lt j n)
    where
      go : Dec (j < length xs) → (i : ℕ) × Counterpart (xs ++ ys) (xs ++ (r ∷ ys)) i j
      go (yes e) = (j, before j e)
      go (no e) =
          let z : n + suc (j - n - 1) ≡ j = omega arith in
          (n + (j - n - 1), rw z at (behind (j - n - 1)))

-- ---- runs

-- a step goes by the statements without their positions
statement-bare : (q : Program) (i : ℕ) → (statement_at q i).1 ≡ get_or (bare (statements q)) i beyond
statement-bare q i = sym (get_or-map (λ (x : ℕ × say.Statement). x.1) (statements q) i (no_record_position, beyond))

pub step-bare : (q : Program) (c : Choice) (s : State) → step q (act c) s ≡ step_by q (bare (statements q)) c.statement c s
step-bare q c s = rw (statement-bare q c.statement, ← length-map (statements q) (λ (x : ℕ × say.Statement). x.1))

-- the same statements do the same in programs that the machine sees alike
pub step-alike : (p q : Program) → Alike p q → (ss : List say.Statement) (i : ℕ) (c : Choice) (s : State) → step_by p ss i c s ≡ step_by q ss i c s
step-alike p q a ss i c s = rw (perform-same p q a c s c.frame (get_or ss i beyond))

-- a move of q that does from this state what m does of p
abbrev Answered : Program → Program → Move → State → Type 0
Answered p q m s = (m' : Move) × (step p m s ≡ step q m' s)

module _ (q : Program) (h : List (ℕ × say.Statement)) (a : Among q h) where
  abbrev with_it : Program
  with_it = with_host q h

  abbrev top : say.Statement
  top = say.return 0 a.value

  step-with : (c : Choice) (s : State) → step with_it (act c) s ≡ step_by q (earlier q h a ++ (top ∷ a.back)) c.statement c s
  step-with c s =
      step-bare with_it c s
      ∙ step-alike with_it q (host-alike q h) (bare (statements with_it)) c.statement c s
      ∙ ap (λ (ss : List say.Statement). step_by q ss c.statement c s) (bare-with q h a)

  step-without : (c : Choice) (s : State) → step q (act c) s ≡ step_by q (earlier q h a ++ a.back) c.statement c s
  step-without c s = step-bare q c s ∙ ap (λ (ss : List say.Statement). step_by q ss c.statement c s) (bare-without q h a)

  answer-with : (m : Move) (s : State) → Answered q with_it m s
  answer-with (hand f i) s = (hand f i, refl)
  answer-with (act c) s =
      let j = longer (earlier q h a) a.back top c.statement in (
        act (choosing j.0 c),
        step-without c s
            ∙ step-counterpart q (earlier q h a ++ a.back) (earlier q h a ++ (top ∷ a.back)) c.statement j.0 j.1 c s
            ∙ sym (step-with (choosing j.0 c) s),
      )

  pub run-with : (moves : List Move) (s : State) → (others : List Move) × (run q moves s ≡ run with_it others s)
  run-with [] s = ([], refl)
  run-with (m ∷ moves) s =
      let o = answer-with m s in
      let rest = run-with moves (step q m s) in
      (o.0 ∷ rest.0, rest.1 ∙ ap (run with_it rest.0) o.1)

  -- ---- the other way, where a return at top level does nothing

  module _ (plain : type_of q.sheet 0 ≡ 2 → ⊥) where
    -- the return itself
    returning : (c : Choice) → c.statement ≡ length (earlier q h a) → (statement_at with_it c.statement).1 ≡ top
    returning c e =
        statement-bare with_it c.statement
        ∙ ap (λ (ss : List say.Statement). get_or ss c.statement beyond) (bare-with q h a)
        ∙ ap (λ (i : ℕ). get_or (earlier q h a ++ (top ∷ a.back)) i beyond) e
        ∙ get_or-append_seam (earlier q h a) top a.back beyond

    -- any other statement
    answer-without : (c : Choice) → (c.statement ≡ length (earlier q h a) → ⊥) → (s : State) → Answered with_it q (act c) s
    answer-without c d s =
        let i = shorter (earlier q h a) a.back top c.statement d in (
          act (choosing i.0 c),
          step-with c s
              ∙ sym (step-counterpart q (earlier q h a ++ a.back) (earlier q h a ++ (top ∷ a.back)) i.0 c.statement i.1 (choosing i.0 c) s)
              ∙ sym (step-without (choosing i.0 c) s),
        )

    pub run-without : (moves : List Move) (s : State) → Grounded s → (others : List Move) × (run with_it moves s ≡ run q others s)
    run-without [] s d = ([], refl)
    run-without (m ∷ moves) s d = go m (run-without moves s d) (run-without moves (step with_it m s) (after-step with_it plain m s d))
      where
        Rest : State → Type 0
        Rest u = (others : List Move) × (run with_it moves u ≡ run q others u)

        go : (m : Move) → Rest s → Rest (step with_it m s) → (others : List Move) × (run with_it (m ∷ moves) s ≡ run q others s)
        go (hand f i) same rest = (hand f i ∷ rest.0, rest.1)
        go (act c) same rest =
            elim (ℕ_discrete c.statement (length (earlier q h a))) [
              | yes e ↦ (same.0, ap (run with_it moves) (top-return-idle with_it s d c a.value (returning c e)) ∙ same.1)
              | no e ↦ (let o = answer-without c e s in (o.0 ∷ rest.0, rest.1 ∙ ap (run q rest.0) o.1))
            ]
