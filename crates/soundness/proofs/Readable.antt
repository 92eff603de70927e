-- A readable file, with a table that the rules leave as it is, is a setting of the theorem. Assumes nothing.
use mathlib.Core.Path.{◌≡◌, refl, sym, subst}
use mathlib.Core.Logic.{◌⊎◌, inl, inr}
use mathlib.Core.List.Memᴰ
use mathlib.Core.List.{List, [], ◌∷◌, ◌++◌, Memᴰ}
use mathlib.Core.Bool.{Bool, true, false, cond, true≢false}
use Prim.Native.Nat.{ℕ, ◌≤◌, ◌<◌}
use native.Mathlib.Omega.{arith}
use lib.Dec.{eqb}
use borrow.Author.Tests.{eqb-true}
use Rattle.rules.specs.Table.{Table}
use Rattle.rules.specs.Told.{Closed}
use Rattle.rules.proofs.Told.{every-closed}
use Rattle.rules.proofs.Labels.{passes-chosen}
use Rattle.format.specs.Sheet.{Sheet, declared}
use Rattle.format.specs.Records.{Record}
use Rattle.format.specs.Reading.{read_file, Readable}
use Rattle.format.proofs.Tests.{or-true}
use Rattle.format.proofs.Effect.{not_equal}
use Rattle.format.proofs.Later.{declared-below}
use Rattle.format.proofs.Ready.{Ready}
use Rattle.format.proofs.Readable.{readable-ready}
use Rattle.program.specs.Statement as say
use Rattle.program.specs.Program.{Program, Guest, statements, program_of, program_in}
use Rattle.analysis.specs.Rules.{rule_of, guest_chains, rules}
use Rattle.machine.specs.Property.{is_guest}
use Rattle.machine.specs.Step.{member}
use Rattle.machine.specs.Start.{Filling, property, held, nothing, filling_of, fillings, with_label, labels_with, labels_from, first_labels, start_labels}
use Rattle.soundness.proofs.States.{Declared}
use Rattle.soundness.proofs.Setting.{Sensible, guest_chain, Setting}
use Rattle.soundness.proofs.Statements.{program_with, start-declared, all-sensible, name-listed}
use Rattle.machine.proofs.Laws.Labels.{Fills, property-fills, held-fills, nothing-fills, fills}
use Rattle.soundness.proofs.Start.{host-statement}

-- ---- the labels of the start

-- the labels of a filling are declared
abbrev FillingDeclared : Program → Filling → Type 0
FillingDeclared p (property l n m) = Declared p l × Declared p m
FillingDeclared p (held v l) = Declared p l
FillingDeclared p nothing = Unit {0}

filling-declared : (p : Program) (a : say.Statement) → Fills a → Sensible p a → FillingDeclared p (filling_of a)
filling-declared p _ (property-fills l n m) h = h
filling-declared p _ (held-fills v l) h = h
filling-declared p _ (nothing-fills a e) h = subst (FillingDeclared p) (sym e) tt

-- every label of the list is declared
abbrev AllDeclared : Program → List ℕ → Type 0
AllDeclared p ls = (l : ℕ) → Memᴰ l ls → Declared p l

with-declared : (p : Program) (l : ℕ) (ls : List ℕ) → Declared p l → AllDeclared p ls → AllDeclared p (with_label l ls)
with-declared p l ls d h m = go (member l ls)
  where
    last : Memᴰ m ls ⊎ Memᴰ m (l ∷ []) → Declared p m
    last (inl q) = h m q
    last (inr q) = subst (Declared p) (sym (Memᴰ.eq_of_singleton q)) d

    go : (b : Bool) → Memᴰ m (cond b ls (ls ++ (l ∷ []))) → Declared p m
    go true q = h m q
    go false q = last (Memᴰ.append_cases ls q)

labels-declared : (p : Program) (xs : List Filling) (ls : List ℕ) → AllDeclared p ls → ((x : Filling) → Memᴰ x xs → FillingDeclared p x)
    → AllDeclared p (labels_from ls xs)
labels-declared p [] ls h k = h
labels-declared p (x ∷ xs) ls h k =
    labels-declared p xs (labels_with ls x) (one x (k x (Memᴰ.head refl))) (λ y m. k y (Memᴰ.tail m))
  where
    one : (y : Filling) → FillingDeclared p y → AllDeclared p (labels_with ls y)
    one (property l n m) d = with-declared p m (with_label l ls) d.1 (with-declared p l ls d.0 h)
    one (held v l) d = with-declared p l ls d h
    one nothing d = h

-- every number of a list is below n
abbrev AllBelow : ℕ → List ℕ → Type 0
AllBelow n [] = Unit {0}
AllBelow n (x ∷ xs) = (x < n) × AllBelow n xs

below : (n : ℕ) (xs : List ℕ) → AllBelow n xs → (x : ℕ) → Memᴰ x xs → x < n
below n [] h x m = absurd (Memᴰ.not-nil m)
below n (y ∷ ys) h x m = elim (Memᴰ.cases_cons m) [ inl e ↦ omega (arith, h.0) | inr q ↦ below n ys h.1 x q ]

-- ---- the guests' chains

guest-closed : (L : ℕ) (t : Table) (gs : List Guest) → Closed L t (guest_chains gs) → (l : ℕ) → is_guest gs l ≡ true → Closed L t (guest_chain l)
guest-closed L t [] c l e = absurd (true≢false (sym e))
guest-closed L t (g ∷ gs) c l e =
    elim (or-true (eqb g.label l) (is_guest gs l) e) [
      | inl q ↦ subst (λ (z : ℕ). Closed L t (guest_chain z)) (eqb-true g.label l q) c.0
      | inr q ↦ guest-closed L t gs c.1 l q
    ]

-- ---- the setting

module _ (L : ℕ) (s : Sheet) (ps : List (ℕ × Record)) (ready : Ready L s ps) where
  abbrev p : Program
  p = program_with s ps

  start-labels-declared : AllDeclared p (start_labels p)
  start-labels-declared =
      labels-declared p (fillings p) first_labels first
      (λ x m.
      let a = Memᴰ.of_map (λ z. filling_of z.1) p.host m in
      subst (FillingDeclared p) a.2 (filling-declared p a.0.1 (fills a.0.1) (host-sensible a.0.0 a.0.1 a.1)))
    where
      first : AllDeclared p first_labels
      first l m = start-declared L s ps ready l (below 5 first_labels (omega arith, (omega arith, (omega arith, (omega arith, tt)))) l m)

      host-sensible : (at : ℕ) (a : say.Statement) → Memᴰ (at, a) p.host → Sensible p a
      host-sensible at a m = all-sensible L s ps ready at a (host-statement p at a m)

  pub setting : (t : Table) → Closed L t (rules L p) → Setting L t p
  unfolding rules
  setting t closed =
      record {
        rule = rule;
        sensible = all-sensible L s ps ready;
        name-rule = λ v n e. let a = name-listed L s ps ready v n e in rule a.0 (say.named v n) (host-statement p a.0 (say.named v n) a.1);
        chain-rule = λ l d. closed.0 l (passes-chosen (declared s) L l (declared-below L s l ready.made.sized (not_equal _ _ d)) d);
        guest-rule = guest-closed L t p.guests closed.1.0;
        start-declared = start-labels-declared;
      }
    where
      rule : (at : ℕ) (a : say.Statement) → Memᴰ (at, a) (statements p) → Closed L t (rule_of p a)
      rule at a m =
          every-closed L t _ closed.1.1 (rule_of p a)
          (Memᴰ.map (λ r. r.1) {a = (at, rule_of p a)} (Memᴰ.map (λ z. (z.0, rule_of p z.1)) {a = (at, a)} m))

pub readable-setting : (L : ℕ) (xs : List ℕ) → 5 ≤ L → Readable L xs → (t : Table) → Closed L t (rules L (program_in L xs))
    → Setting L t (program_in L xs)
unfolding program_of
readable-setting L xs h e t c = setting L (read_file L xs).sheet (read_file L xs).records (readable-ready L xs h e) t c
