-- A program: the declarations, the host's statements and the guests. Rules and machine are both defined over it. Assumes nothing.
use Rattle.std.specs.Prelude.{List, [], ◌∷◌, ◌++◌, map, Bool, cond, not, ℕ, ◌+◌, ◌-◌, ◌*◌, ◌/◌, ◌%◌, ◌^◌, get_or, take, drop, replicate, eqb, ltb}
use Rattle.rules.specs.Rule.{chosen}
use Rattle.layout.specs.Key.{inside, outside, class_count}
use Rattle.format.specs.Sheet.{Sheet, type_of}
use Rattle.format.specs.Records.{Record}
use Rattle.format.specs.Reading.{Reading, read_file}
use Rattle.program.specs.Statement.{Statement, load, store, make, make_function, call, new, return, throw, catch, bag, statements_of}

-- a guest: the label of whatever it makes, the variable that is its bag, the key it may use, whether functions that it makes have a prototype property,
-- and the labels forbidden to it
pub record Guest : Type 0 where
  pub label : ℕ
  pub bag : ℕ
  pub key : ℕ
  pub prototyped : Bool
  pub forbidden : ℕ

pub record Program : Type 0 where
  pub sheet : Sheet
  pub host : List (ℕ × Statement)  -- with the positions of their records
  pub guests : List Guest

-- the position of what belongs to no record
abbrev pub no_record_position : ℕ
no_record_position = 65535

-- how a guest makes a function. Without a prototype property that is `make` (kind 19) of its label: an object of label 3 is a function however it was made
abbrev pub function_made : Guest → Statement
function_made g = cond g.prototyped (make_function g.label g.bag g.label g.label) (make g.label g.bag g.label)

-- "The guest is scope 3 with variable 1 in every variable field, w, l, q = 3 and key 128: make function, load, store, call, new, return,
-- throw, catch"
unfoldable pub guest_statements : Guest → List Statement
guest_statements g =
    let b = g.bag in
    let l = g.label in
    function_made g
    ∷ load l b b g.key l
    ∷ store l b g.key b
    ∷ call l b b b (replicate 6 b)
    ∷ new l b b b l (replicate 6 b)
    ∷ return l b
    ∷ throw l b
    ∷ catch l b
    ∷ []

abbrev pub placed : ℕ → List Statement → List (ℕ × Statement)
placed at ss = map (λ s. (at, s)) ss

unfoldable pub guests_statements : List Guest → List (ℕ × Statement)
unfolding guest_statements
guests_statements [] = []
guests_statements (g ∷ gs) = placed no_record_position (guest_statements g) ++ guests_statements gs

-- the statements of the records, in the order of the file
unfoldable pub host_statements : List (ℕ × Record) → List (ℕ × Statement)
unfolding statements_of
host_statements [] = []
host_statements (r ∷ rs) = placed r.0 (statements_of r.1) ++ host_statements rs

-- ---- what the declarations say

-- "Without a record the mask is 1"
abbrev pub mask_of : Sheet → ℕ → ℕ
mask_of s n = cond (eqb (get_or s.masks n 0) 0) 1 (get_or s.masks n 0)

-- name n is of class c
abbrev pub in_class : Sheet → ℕ → ℕ → Bool
in_class s c n = eqb (mask_of s n / 2 ^ c % 2) 1

-- "all names outside class c" (request 01)
abbrev pub outside_class : Sheet → ℕ → ℕ → Bool
outside_class s c n = not (in_class s c n)

-- "A key byte is a name, or 128 + c for all names of class c"; "Key bytes 136 + c, for c from 0 to 7, take this meaning" (request 01)
unfoldable pub names_of : Sheet → ℕ → List ℕ
unfolding chosen
names_of s key =
    cond (ltb key inside) (key ∷ [])
    (cond (ltb key outside) (chosen (in_class s (key - inside)) 32)
    (chosen (outside_class s (key - outside)) 32))

-- ---- what the file says as a whole

-- "New kind 9, body c (0 to 7)" (request 04): the class of names that guests are held to. Without the record it is class 0, that of "key 128": "Class 0
-- holds every name"
abbrev pub guest_class : Sheet → ℕ
guest_class s = cond (ltb s.profile class_count) s.profile 0

-- "3 whatever the guest makes", "variable 1 is the guest's bag"; "the guest's load and store use key 128 + c" (request 04)
abbrev pub guest_three : Sheet → Guest
guest_three s = record {
  label = 3;
  bag = bag;
  key = inside + guest_class s;
  prototyped = in_class s (guest_class s) 3;  -- "the prototype property of guest functions is written only if name 3 is in class c" (request 04)
  forbidden = s.forbidden;
}

abbrev pub guests_of : Sheet → List Guest
guests_of s = guest_three s ∷ []

-- the program of what was read
unfoldable pub program_of : Reading → Program
unfolding host_statements
program_of d = record { sheet = d.sheet; host = host_statements d.records; guests = guests_of d.sheet }

-- what a file says to rules and machine
abbrev pub program_in : ℕ → List ℕ → Program
program_in L xs = program_of (read_file L xs)

-- every statement, the guests' first
unfoldable pub statements : Program → List (ℕ × Statement)
unfolding guests_statements
statements p = guests_statements p.guests ++ p.host

-- ---- functions

abbrev pub is_function : Sheet → ℕ → Bool
is_function s l = eqb (type_of s l) 2

-- the this variable and the six formals of function f
abbrev pub this_of : Sheet → ℕ → ℕ
this_of s f = get_or s.formals (7 * f) 0

abbrev pub formals_of : Sheet → ℕ → List ℕ
formals_of s f = take 6 (drop (7 * f + 1) s.formals)

-- the variables that returns in scope f hand back
abbrev pub returned_by : ℕ → Statement → List ℕ
returned_by f (Statement.named v n) = []
returned_by f (Statement.grant v b) = []
returned_by f (Statement.property l n m) = []
returned_by f (Statement.held v l) = []
returned_by f (Statement.copy k y x) = []
returned_by f (Statement.load k y x key w) = []
returned_by f (Statement.store k x key a) = []
returned_by f (Statement.make k y l) = []
returned_by f (Statement.make_function k y l q) = []
returned_by f (Statement.call k y c t args) = []
returned_by f (Statement.new k y c t l args) = []
returned_by f (Statement.return k x) = cond (eqb k f) (x ∷ []) []
returned_by f (Statement.throw k x) = []
returned_by f (Statement.catch k y) = []
returned_by f (Statement.prim k x) = []

unfoldable pub returns_in : ℕ → List (ℕ × Statement) → List ℕ
returns_in f [] = []
returns_in f (s ∷ ss) = returned_by f s.1 ++ returns_in f ss

-- "each return in scope f"
unfoldable pub returns_of : Program → ℕ → List ℕ
unfolding returns_in statements
returns_of p f = returns_in f (statements p)
