-- The statements of a readable file are sensible, and every variable that has a name has its statement. Assumes nothing.
use mathlib.Core.Path.{◌≡◌, refl, ap, sym, subst}
use mathlib.Core.Logic.{◌⊎◌, inl, inr}
use mathlib.Core.List.Memᴰ
use mathlib.Core.List.{List, [], ◌∷◌, ◌++◌, Memᴰ}
use mathlib.Core.Bool.{Bool, true, false, cond, not}
use Prim.Native.Nat.{ℕ, zero, suc, ◌<◌}
use native.Mathlib.Omega.{arith}
use lib.ListN.{length, get_or}
use lib.Dec.{eqb, leb}
use borrow.Author.Tests.{eqb-true, eqb-false, ne_eqb}
use Rattle.layout.specs.Layout.{host_label, function_label, plain_label, data_label, declared_variable, fields_of, name}
use Rattle.format.specs.Sheet.{Sheet, type_of, declared, owner_of, name_of}
use Rattle.format.specs.Fields.{good, Fits}
use Rattle.format.specs.Records.{Record, field}
use Rattle.format.proofs.Tests.{and_second, or-true}
use Rattle.format.proofs.Fields.{fits-good}
use Rattle.format.proofs.Effect.{not_equal}
use Rattle.format.proofs.Ready.{Ready}
use Rattle.program.specs.Statement as say
use Rattle.program.specs.Program.{Program, Guest, guest_three, guests_of, guest_statements, guests_statements, host_statements, statements, placed, no_record_position}
use Rattle.program.proofs.Held.{made-either}
use Rattle.machine.specs.Variable.{bag, named, local, is_bag, place_of}
use Rattle.soundness.proofs.States.{Declared}
use Rattle.soundness.proofs.Setting.{Sensible}

-- the program of a sheet and its records, as `program_of` makes it of a reading
abbrev pub program_with : Sheet → List (ℕ × Record) → Program
program_with s ps = record { sheet = s; host = host_statements ps; guests = guests_of s }

-- ---- the records of the host's statements

pub record-statement : (ps : List (ℕ × Record)) (at : ℕ) (r : Record) (a : say.Statement) → Memᴰ (at, r) ps → Memᴰ a (say.statements_of r)
    → Memᴰ (at, a) (host_statements ps)
unfolding host_statements
record-statement [] at r a m h = absurd (Memᴰ.not-nil m)
record-statement (q ∷ ps) at r a m h = go (Memᴰ.cases_cons m) (record-statement ps at r a)
  where
    go : (◌≡◌ {A = ℕ × Record} (at, r) q) ⊎ Memᴰ {A = ℕ × Record} (at, r) ps
        → (Memᴰ {A = ℕ × Record} (at, r) ps → Memᴰ a (say.statements_of r) → Memᴰ {A = ℕ × say.Statement} (at, a) (host_statements ps))
        → Memᴰ {A = ℕ × say.Statement} (at, a) (placed q.0 (say.statements_of q.1) ++ host_statements ps)
    go (inl e) rest =
        Memᴰ.append_left (host_statements ps)
        (subst (λ (z : ℕ × Record). Memᴰ {A = ℕ × say.Statement} (at, a) (placed z.0 (say.statements_of z.1))) e (Memᴰ.map (λ s. (at, s)) h))
    go (inr i) rest = Memᴰ.append_right (placed q.0 (say.statements_of q.1)) (rest i h)

-- what holds of every statement of every record holds of the host's statements
pub host-all : (C : say.Statement → Type 0) (ps : List (ℕ × Record))
    → ((at : ℕ) (r : Record) → Memᴰ (at, r) ps → (a : say.Statement) → Memᴰ a (say.statements_of r) → C a)
    → (at : ℕ) (a : say.Statement) → Memᴰ (at, a) (host_statements ps) → C a
unfolding host_statements
host-all C [] h at a m = absurd (Memᴰ.not-nil m)
host-all C (q ∷ ps) h at a m =
    go (Memᴰ.append_cases (placed q.0 (say.statements_of q.1)) m) (host-all C ps (λ at' r i b j. h at' r (Memᴰ.tail i) b j) at a)
  where
    go : Memᴰ {A = ℕ × say.Statement} (at, a) (placed q.0 (say.statements_of q.1)) ⊎ Memᴰ {A = ℕ × say.Statement} (at, a) (host_statements ps)
        → (Memᴰ {A = ℕ × say.Statement} (at, a) (host_statements ps) → C a) → C a
    go (inl i) rest =
        let b = Memᴰ.of_map (λ s. (q.0, s)) (say.statements_of q.1) i in
        subst C (ap (λ (z : ℕ × say.Statement). z.1) b.2) (h q.0 q.1 (Memᴰ.head refl) b.0 b.1)
    go (inr i) rest = rest i

-- and the same of the guests' statements
guests-all : (C : say.Statement → Type 0) (gs : List Guest)
    → ((g : Guest) → Memᴰ g gs → (a : say.Statement) → Memᴰ a (guest_statements g) → C a)
    → (at : ℕ) (a : say.Statement) → Memᴰ (at, a) (guests_statements gs) → C a
unfolding guests_statements
guests-all C [] h at a m = absurd (Memᴰ.not-nil m)
guests-all C (g ∷ gs) h at a m =
    go (Memᴰ.append_cases (placed no_record_position (guest_statements g)) m) (guests-all C gs (λ g' i b j. h g' (Memᴰ.tail i) b j) at a)
  where
    go : Memᴰ {A = ℕ × say.Statement} (at, a) (placed no_record_position (guest_statements g)) ⊎ Memᴰ {A = ℕ × say.Statement} (at, a) (guests_statements gs)
        → (Memᴰ {A = ℕ × say.Statement} (at, a) (guests_statements gs) → C a) → C a
    go (inl i) rest =
        let b = Memᴰ.of_map (λ s. (no_record_position, s)) (guest_statements g) i in
        subst C (ap (λ (z : ℕ × say.Statement). z.1) b.2) (h g (Memᴰ.head refl) b.0 b.1)
    go (inr i) rest = rest i

-- the record of a variable with a name says so
name-statement : (v k m n : ℕ) → m ≡ n → (m ≡ 255 → ⊥) → Memᴰ (say.named v n) (say.statements_of (record { kind = 5; body = v ∷ k ∷ m ∷ [] }))
unfolding say.statements_of
name-statement v k m n e d = rw (ne_eqb m 255 d) (Memᴰ.head (ap (λ (z : ℕ). say.named v z) (sym e)))

-- ---- good bytes

module _ (L : ℕ) (s : Sheet) (ps : List (ℕ × Record)) (ready : Ready L s ps) where
  abbrev p : Program
  p = program_with s ps

  of-type : (l k : ℕ) → type_of s l ≡ suc k → declared s l ≡ true
  of-type l k e = rw (ne_eqb (type_of s l) 0 (λ z. omega arith))

  host-declared : (l : ℕ) → good L s host_label l ≡ true → declared s l ≡ true
  unfolding good
  host-declared l e = and_second (not (eqb l 3)) _ e

  plain_type : (l : ℕ) → good L s plain_label l ≡ true → type_of s l ≡ 1
  unfolding good
  plain_type l e = eqb-true _ _ (and_second (leb 5 l) _ e)

  function-type : (l : ℕ) → good L s function_label l ≡ true → type_of s l ≡ 2
  unfolding good
  function-type l e = eqb-true _ _ (and_second (leb 5 l) _ e)

  data-declared : (l : ℕ) → good L s data_label l ≡ true → declared s l ≡ true
  unfolding good
  data-declared l e =
      elim (or-true (eqb (type_of s l) 1) _ (and_second (leb 5 l) _ e)) [
        | inl q ↦ of-type l 0 (eqb-true _ _ q)
        | inr q ↦ of-type l 2 (eqb-true _ _ q)
      ]

  variable-positive : (v : ℕ) → good L s declared_variable v ≡ true → 0 < v
  unfolding good
  variable-positive v e = omega (arith, (ready.made.variables.variable-range v (not_equal _ _ e)).0)

  -- ---- each kind of record

  -- a statement in a list of one
  only : (a b : say.Statement) → Sensible p b → Memᴰ a (b ∷ []) → Sensible p a
  only a b h m = subst (Sensible p) (sym (Memᴰ.eq_of_singleton m)) h

  -- by the tests of `statements_of`, one after the other
  by-test : (a : say.Statement) (t : Bool) (xs ys : List say.Statement) → (t ≡ true → Memᴰ a xs → Sensible p a)
      → (Memᴰ a ys → Sensible p a) → Memᴰ a (cond t xs ys) → Sensible p a
  by-test a true xs ys f g m = f refl m
  by-test a false xs ys f g m = g m

  record-sensible : (at : ℕ) (r : Record) → Memᴰ (at, r) ps → (a : say.Statement) → Memᴰ a (say.statements_of r) → Sensible p a
  unfolding say.statements_of
  record-sensible at r i a =
      let b = r.body in
      let k = r.kind in
      let fits = (ready.made.all_fit at r i).1 in
      let is : (n j : ℕ) → eqb k n ≡ true → j < length (fields_of n) → good L s (get_or (fields_of n) j name) (field b j) ≡ true =
      λ n j e h. fits-good L s (fields_of n) b (subst (λ (z : ℕ). Fits L s (fields_of z) b) (eqb-true k n e) fits) j h in
      by-test a (eqb k 5) _ _
      (λ e. by-test a (eqb (field b 2) 255) _ _ (λ q m. absurd (Memᴰ.not-nil m)) (only a _ tt))
      (by-test a (eqb k 6) _ _ (λ e. only a _ tt)
      (by-test a (eqb k 7) _ _ (λ e. only a _ (host-declared _ (is 7 0 e (omega arith)), host-declared _ (is 7 2 e (omega arith))))
      (by-test a (eqb k 8) _ _ (λ e. only a _ (host-declared _ (is 8 1 e (omega arith))))
      (by-test a (eqb k 16) _ _ (λ e. only a _ tt)
      (by-test a (eqb k 17) _ _ (λ e. only a _ (of-type _ 0 (plain_type _ (is 17 4 e (omega arith)))))
      (by-test a (eqb k 18) _ _ (λ e. only a _ tt)
      (by-test a (eqb k 19) _ _ (λ e. only a _ (data-declared _ (is 19 2 e (omega arith))))
      (by-test a (eqb k 20) _ _
      (λ e. only a _ (of-type _ 1 (function-type _ (is 20 2 e (omega arith))), of-type _ 0 (plain_type _ (is 20 3 e (omega arith)))))
      (by-test a (eqb k 21) _ _ (λ e. only a _ tt)
      (by-test a (eqb k 22) _ _
      (λ e.
      let one = plain_type _ (is 22 4 e (omega arith)) in
      only a _ (variable-positive _ (is 22 3 e (omega arith)), of-type _ 0 one, inl one))
      (by-test a (eqb k 23) _ _ (λ e. only a _ tt)
      (by-test a (eqb k 24) _ _ (λ e. only a _ tt)
      (by-test a (eqb k 25) _ _ (λ e. only a _ tt)
      (by-test a (eqb k 26) _ _ (λ e. only a _ tt) (λ m. absurd (Memᴰ.not-nil m))))))))))))))))

  -- ---- the guest's statements

  pub start-declared : (l : ℕ) → l < 5 → declared s l ≡ true
  start-declared zero h = of-type 0 0 (ready.made.labels.start-type 0 h)
  start-declared (suc zero) h = of-type 1 0 (ready.made.labels.start-type 1 h)
  start-declared (suc (suc zero)) h = of-type 2 0 (ready.made.labels.start-type 2 h)
  start-declared (suc (suc (suc zero))) h = of-type 3 1 (ready.made.labels.start-type 3 h)
  start-declared (suc (suc (suc (suc zero)))) h = of-type 4 0 (ready.made.labels.start-type 4 h)
  start-declared (suc (suc (suc (suc (suc l))))) h = absurd (omega arith)

  -- the first of a list, and the others
  either : (a b : say.Statement) (xs : List say.Statement) → Sensible p b → (Memᴰ a xs → Sensible p a) → Memᴰ a (b ∷ xs) → Sensible p a
  either a b xs h rest m = elim (Memᴰ.cases_cons m) [ inl e ↦ subst (Sensible p) (sym e) h | inr q ↦ rest q ]

  guest-sensible : (g : Guest) → Memᴰ g (guests_of s) → (a : say.Statement) → Memᴰ a (guest_statements g) → Sensible p a
  unfolding guest_statements
  guest-sensible g i a =
      let three : Declared p 3 = start-declared 3 (omega arith) in
      subst (λ (z : Guest). Memᴰ a (guest_statements z) → Sensible p a) (sym (Memᴰ.eq_of_singleton i))
      (either a _ _ (made-either (Sensible p) (guest_three s) (three, three) three)
      (either a _ _ three
      (either a _ _ tt
      (either a _ _ tt
      (either a _ _ (omega arith, three, inr refl)
      (either a _ _ tt
      (either a _ _ tt
      (either a _ _ tt (λ m. absurd (Memᴰ.not-nil m))))))))))

  pub all-sensible : (at : ℕ) (a : say.Statement) → Memᴰ (at, a) (statements p) → Sensible p a
  unfolding statements
  all-sensible at a m =
      elim (Memᴰ.append_cases (guests_statements p.guests) m) [
        | inl i ↦ guests-all (Sensible p) p.guests guest-sensible at a i
        | inr i ↦ host-all (Sensible p) ps record-sensible at a i
      ]

  -- ---- names

  -- a variable that is found by its name has its statement
  pub name-listed : (v n : ℕ) → place_of p v ≡ named n → (at : ℕ) × Memᴰ (at, say.named v n) (host_statements ps)
  name-listed zero n e = let z : ◌≡◌ {A = ℕ} 0 1 = cc in absurd (omega arith)
  name-listed (suc v) n e = go (is_bag p.guests (suc v)) (eqb (name_of s (suc v)) 255) refl e
    where
      given : name_of s (suc v) ≡ n → (name_of s (suc v) ≡ 255 → ⊥) → (at : ℕ) × Memᴰ (at, say.named (suc v) n) (host_statements ps)
      given q d =
          let vars = ready.made.variables in
          let among = vars.variable-record (suc v) (λ z. omega (arith, (vars.named (suc v) d).1)) in (
            among.position,
            record-statement ps among.position _ (say.named (suc v) n) among.member (name-statement (suc v) (owner_of s (suc v)) (name_of s (suc v)) n q d),
          )

      go : (b c : Bool) → eqb (name_of s (suc v)) 255 ≡ c → cond b bag (cond c (local (owner_of s (suc v))) (named (name_of s (suc v)))) ≡ named n
          → (at : ℕ) × Memᴰ (at, say.named (suc v) n) (host_statements ps)
      go true c q d = let z : ◌≡◌ {A = ℕ} 0 1 = cc in absurd (omega arith)
      go false true q d = let z : ◌≡◌ {A = ℕ} 0 1 = cc in absurd (omega arith)
      go false false q d = given (cc) (eqb-false _ _ q)
