-- The two guests: without the record it is document 01's, with it it has the key and the prototype property of its class. Both return the same.
-- Assumes nothing.
use mathlib.Core.Path.{◌≡◌, refl, sym, ap, ◌∙◌}
use mathlib.Core.List.{List, [], ◌∷◌, ◌++◌, Memᴰ}
use mathlib.Core.Bool.{Bool, true}
use Prim.Native.Nat.{ℕ, ◌+◌, ◌<◌}
use native.Mathlib.Omega.{arith}
use borrow.Author.Tests.{lt-ltb}
use Rattle.layout.specs.Key.{inside}
use Rattle.rules.proofs.Labels.{chosen-passes, chosen-alike}
use Rattle.format.specs.Sheet.{Sheet, with_profile}
use Rattle.format.specs.Reading.{Reading}
use Rattle.program.specs.Statement as say
use Rattle.program.specs.Statement.{bag}
use Rattle.program.specs.Program.{Guest, Program, guest_statements, guests_statements, host_statements, in_class, names_of, guest_class, guests_of, program_of, statements, returned_by}
use Rattle.program.proofs.Held.{class-names, made-either}
use Rattle.toplevel.proofs.Bare.{bare}
use Rattle.toplevel.proofs.Told.{returns_among}
use Rattle.profiles.specs.Profiles.{free_guest, held_guest}
use Rattle.profiles.proofs.Read.{Beside}

-- the guest of class c, by whether its functions have a prototype property; document 01's is that of class 0, with it
abbrev pub guest_by : Sheet → ℕ → Bool → Guest
guest_by s c b = record { label = 3; bag = bag; key = inside + c; prototyped = b; forbidden = s.forbidden }

-- every name is of class 0
abbrev pub NamesInside : Sheet → Type 0
NamesInside s = (n : ℕ) → n < 32 → Memᴰ n (names_of s inside)

pub inside-zero : (s : Sheet) → NamesInside s → (n : ℕ) → n < 32 → in_class s 0 n ≡ true
unfolding names_of
inside-zero s names n h = (chosen-passes (in_class s 0) 32 n (names n h)).1

-- ---- the guest of a sheet

guest-of : (s : Sheet) (c : ℕ) → guest_class s ≡ c → guests_of s ≡ held_guest s c ∷ []
guest-of s c e = λ i. held_guest s (e i) ∷ []

pub free-guest : (s : Sheet) → s.profile ≡ 255 → NamesInside s → guests_of s ≡ free_guest s ∷ []
free-guest s none names =
    let zero : guest_class s ≡ 0 = rw none in
    guest-of s 0 zero ∙ ap (λ (b : Bool). guest_by s 0 b ∷ []) (inside-zero s names 3 (omega arith))

pub held-guest : (s : Sheet) (c : ℕ) → c < 8 → guests_of (with_profile s c) ≡ held_guest s c ∷ []
held-guest s c h =
    let own : guest_class (with_profile s c) ≡ c = rw (lt-ltb c 8 (omega arith)) in
    guest-of (with_profile s c) c own

-- ---- the two programs

abbrev pub free_program : Sheet → List (ℕ × say.Statement) → Program
free_program s h = record { sheet = s; host = h; guests = free_guest s ∷ [] }

abbrev pub held_program : Sheet → ℕ → List (ℕ × say.Statement) → Program
held_program s c h = record { sheet = with_profile s c; host = h; guests = held_guest s c ∷ [] }

module _ (d e : Reading) (c : ℕ) (b : Beside d e c) (names : NamesInside d.sheet) where
  pub program-without : program_of d ≡ free_program d.sheet (host_statements d.records)
  unfolding program_of
  program-without = λ i.
      record { sheet = d.sheet; host = host_statements d.records; guests = free-guest d.sheet b.unheld names i }

  pub program-with : program_of e ≡ held_program d.sheet c (host_statements e.records)
  unfolding program_of
  program-with =
      (λ i. record { sheet = b.sheet i; host = host_statements e.records; guests = guests_of (b.sheet i) })
      ∙ (λ i. record { sheet = with_profile d.sheet c; host = host_statements e.records; guests = held-guest d.sheet c b.class i })

-- ---- its statements

-- with one guest, the program's statements are that guest's and the host's
guest-first : (s : Sheet) (h : List (ℕ × say.Statement)) (g : Guest)
    → bare (statements (record { sheet = s; host = h; guests = g ∷ [] })) ≡ guest_statements g ++ bare h
unfolding statements guests_statements guest_statements
guest-first s h g = refl

pub free-statements : (s : Sheet) (h : List (ℕ × say.Statement)) → bare (statements (free_program s h)) ≡ guest_statements (free_guest s) ++ bare h
free-statements s h = guest-first s h (free_guest s)

-- where the other's host says the same
pub held-statements : (s : Sheet) (c : ℕ) (h k : List (ℕ × say.Statement)) → bare k ≡ bare h
    → bare (statements (held_program s c k)) ≡ guest_statements (held_guest s c) ++ bare h
held-statements s c h k same =
    guest-first (with_profile s c) k (held_guest s c) ∙ ap (λ (ss : List say.Statement). guest_statements (held_guest s c) ++ ss) same

-- of the guest's statements its return alone returns something
pub guest-returns : (f : ℕ) (g : Guest) (ss : List say.Statement)
    → returns_among f (guest_statements g ++ ss) ≡ returned_by f (say.return g.label g.bag) ++ returns_among f ss
unfolding returns_among guest_statements
guest-returns f g ss = rw (made-either (λ (a : say.Statement). returned_by f a ≡ []) g refl refl)

-- ---- its names

pub class-within : (s : Sheet) (c : ℕ) → c < 8 → NamesInside s → (n : ℕ) → Memᴰ n (names_of s (inside + c)) → Memᴰ n (names_of s inside)
class-within s c h names n m = names n (chosen-passes (in_class s c) 32 n (rw (class-names s c (omega arith)) at m)).0

-- where its class has every name they are all names
pub every-named : (s : Sheet) (c : ℕ) → c < 8 → NamesInside s → ((n : ℕ) → n < 32 → in_class s c n ≡ true)
    → names_of s (inside + c) ≡ names_of s inside
every-named s c h names all =
    class-names s c (omega arith) ∙ chosen-alike (in_class s c) (in_class s 0) 32 (λ n i. all n i ∙ sym (inside-zero s names n i))
    ∙ sym (class-names s 0 (omega arith))
