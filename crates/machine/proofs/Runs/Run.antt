-- How a run is written down that antt is to compute: a file's records, a list of turns, and the labels of the objects that the guest holds
-- afterwards. A turn names its statement by the record that says it. Assumes nothing.
use mathlib.Core.Path.{◌≡◌}
use mathlib.Core.List.{List, [], ◌∷◌, map}
use mathlib.Core.Bool.{Bool, true, false, cond, ◌&&◌}
use Prim.Native.Nat.{ℕ, ◌+◌, ◌^◌}
use lib.ListN.{length, get_or}
use lib.Dec.{eqb}
use Rattle.rules.specs.Rule.{chosen}
use Rattle.program.specs.Statement.{bag, statements_of}
use Rattle.program.specs.Program.{guest_statements, guests_statements, host_statements, program_of, statements, names_of}
use Rattle.program.proofs.File.{grant, reading}
use Rattle.machine.specs.State.{labels_held}
use Rattle.machine.specs.Step.{Move, act, hand, run}
use Rattle.machine.specs.Start.{start}

-- ---- which statement

abbrev same : List ℕ → List ℕ → Bool
same [] [] = true
same [] (y ∷ ys) = false
same (x ∷ xs) [] = false
same (x ∷ xs) (y ∷ ys) = eqb x y && same xs ys

-- the number of statements that a record says
abbrev said : List ℕ → ℕ
unfolding statements_of
said [] = 0
said (k ∷ body) = length (statements_of (record { kind = k; body = body }))

-- how many statements of the file stand before the record r
abbrev before : List (List ℕ) → List ℕ → ℕ
before [] r = 0
before (r' ∷ rs) r = cond (same r' r) 0 (said r' + before rs r)

-- a place in the list of statements, where the file says of each record how many statements stand before it
abbrev pub Place : Type 0
Place = (List ℕ → ℕ) → ℕ

-- the guest's statements stand first, in this order
abbrev pub guest_make_function : Place
guest_make_function _ = 0

abbrev pub guest_load : Place
guest_load _ = 1

abbrev pub guest_store : Place
guest_store _ = 2

abbrev pub guest_call : Place
guest_call _ = 3

abbrev pub guest_new : Place
guest_new _ = 4

abbrev pub guest_return : Place
guest_return _ = 5

abbrev pub guest_throw : Place
guest_throw _ = 6

abbrev pub guest_catch : Place
guest_catch _ = 7

-- the host's statement that record r says
abbrev pub host : List ℕ → Place
host r before = 8 + before r

-- ---- turns

abbrev pub Turn : Type 0
Turn = (List ℕ → ℕ) → Move

-- statement i in frame f: field j reads the (ws j)-th value of the bag, the pair is (n, m), the prototypes are c and c', and it is the t-th
-- thrown value
abbrev chooses : Place → ℕ → List ℕ → ℕ → ℕ → ℕ → ℕ → ℕ → Bool → Turn
chooses i f ws n m c c' t to_guest before =
    act (record {
      statement = i before;
      frame = f;
      which = λ j. get_or ws j 0;
      name = n;
      number = m;
      prototype = c;
      prototype' = c';
      thrown = t;
      to_guest = to_guest;
    })

-- a value of the bag that is not there: a primitive
abbrev pub nothing : ℕ
nothing = 255

abbrev pub at_pair : Place → ℕ → List ℕ → ℕ → ℕ → Turn
at_pair i f ws n m = chooses i f ws n m 0 0 0 true

abbrev pub picks : Place → ℕ → List ℕ → Turn
picks i f ws = at_pair i f ws 0 0

-- every field reads the first value ever put in the bag
abbrev pub does : Place → ℕ → Turn
does i f = picks i f []

-- the t-th of the thrown values
abbrev pub catches : Place → ℕ → ℕ → Turn
catches i f t = chooses i f [] 0 0 0 0 t true

abbrev pub hands : ℕ → ℕ → Turn
hands f t _ = hand f t

-- grant v, to the bag; and the w-th value of the bag to v
abbrev pub grants : ℕ → Turn
grants v = does (host (grant v)) 0

abbrev pub lends : ℕ → ℕ → Turn
lends v w = chooses (host (grant v)) 0 (w ∷ []) 0 0 0 0 0 false

-- with prototype c, were it the guest's to choose
abbrev pub with_prototype : Place → ℕ → ℕ → Turn
with_prototype i f c = chooses i f [] 0 0 c 0 0 true

-- the guest's first frame makes a function, with prototypes for it and for its q
abbrev pub makes : ℕ → ℕ → Turn
makes c c' = chooses guest_make_function 1 [] 0 0 c c' 0 true

-- the guest's first frame loads the pair (n, m) from the w-th value of its bag; and from a primitive, starting with prototype c
abbrev pub loads : ℕ → ℕ → ℕ → Turn
loads w n m = at_pair guest_load 1 (w ∷ []) n m

abbrev pub loads_from_primitive : ℕ → ℕ → ℕ → Turn
loads_from_primitive c n m = chooses guest_load 1 (nothing ∷ []) n m c 0 0 true

-- ---- what comes of it

pub record Outcome : Type 0 where
  pub refusal : ℕ  -- 0: the file is readable
  pub forbidden : ℕ  -- the forbidden labels
  pub held : List ℕ  -- the labels of the objects that the guest holds after the moves

unfoldable pub outcome : List (List ℕ) → List Turn → Outcome
unfolding reading program_of statements names_of host_statements statements_of guests_statements guest_statements chosen
outcome file turns =
    let d = reading file in
    let p = program_of d in
    let moves = map (λ turn. turn (before file)) turns in
    record { refusal = d.refusal; forbidden = d.sheet.forbidden; held = labels_held (run p moves (start p)) bag }

-- the file is readable and forbids the journal and nothing else; after the turns the guest holds objects of these labels
abbrev pub EndsWith : List (List ℕ) → List Turn → List ℕ → Type 0
EndsWith file turns labels = outcome file turns ≡ record { refusal = 0; forbidden = 2 ^ 5; held = labels }
