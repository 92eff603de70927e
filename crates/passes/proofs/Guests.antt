-- The guest's rules, one statement after the other. Assumes nothing.
use mathlib.Core.Path.{◌≡◌, refl, sym, ap, subst}
use mathlib.Core.Logic.{◌↔◌}
use mathlib.Core.Bool.{Bool, true, false, ◌||◌, true≢false}
use mathlib.Core.List.{List, [], ◌∷◌, ◌++◌, map, Memᴰ}
use Prim.Native.Nat.{ℕ, zero, suc, ◌+◌, ◌<◌}
use native.Mathlib.Omega.{arith}
use lib.ListN.{take}
use lib.Dec.{eqb}
use borrow.Author.Tests.{eq-eqb, ne_eqb}
use Rattle.words.specs.Words.{bit}
use Rattle.rows.specs.Edition.{labels}
use Rattle.layout.proofs.Keys.{class-key}
use Rattle.rules.specs.Rule.{Rule, none, both, every}
use Rattle.rules.proofs.Labels.{chosen-passes, passes-chosen}
use Rattle.records.specs.declared.Statement.{Statement}
use Rattle.records.specs.Say.{rule_by, InBounds}
use Rattle.program.specs.Program.{Program, guest_statements, guests_statements, in_class, names_of, guest_class, guest_three}
use Rattle.program.proofs.Held.{class-below, class-names}
use Rattle.analysis.specs.Rules.{rule_of}
use Rattle.uses.specs.Use.{Apart, tells}
use Rattle.host.specs.declared.Host.{Host}
use Rattle.host.specs.Lays.{names_in, guest_key_in, Lays}
use Rattle.shared.specs.Apply.{Applies}
use Rattle.passes.proofs.Every.{applies-append, applies-same}
use Rattle.passes.specs.Order.{guest_with, guest_statement, guest_rules}

-- the rules of the guest's statements
abbrev pub guest_list : Program → ℕ → Bool → List Rule
guest_list p key prototyped = map (λ s. rule_of p s.1) (guests_statements (guest_with key prototyped ∷ []))

pub guest-next : (p : Program) (key : ℕ) (prototyped : Bool) (i : ℕ) → i < 8
    → take (i + 1) (guest_list p key prototyped) ≡ take i (guest_list p key prototyped) ++ (rule_of p (guest_statement key prototyped i) ∷ [])
unfolding guests_statements guest_statements
guest-next p key prototyped zero h = refl
guest-next p key prototyped (suc zero) h = refl
guest-next p key prototyped (suc (suc zero)) h = refl
guest-next p key prototyped (suc (suc (suc zero))) h = refl
guest-next p key prototyped (suc (suc (suc (suc zero)))) h = refl
guest-next p key prototyped (suc (suc (suc (suc (suc zero))))) h = refl
guest-next p key prototyped (suc (suc (suc (suc (suc (suc zero)))))) h = refl
guest-next p key prototyped (suc (suc (suc (suc (suc (suc (suc zero))))))) h = refl
guest-next p key prototyped (suc (suc (suc (suc (suc (suc (suc (suc i)))))))) h = absurd (omega arith)

-- with the key of the program's guest they are the guest's rules
pub guest-all : (p : Program) (key : ℕ) (prototyped : Bool) → key ≡ (guest_three p.sheet).key → prototyped ≡ (guest_three p.sheet).prototyped
    → every (take 8 (guest_list p key prototyped)) ≡ guest_rules p
unfolding guests_statements guest_statements
guest-all p key prototyped e f = rw (e, f)

-- the host's key, and its bit for name 3, are the guest's
pub guest-keyed : {wide : Bool} {host : Host} (p : Program) → Lays wide p host → guest_key_in host ≡ (guest_three p.sheet).key
guest-keyed p lays = lays.guest-key

pub guest-prototyped : {wide : Bool} {host : Host} (p : Program) → Lays wide p host
    → eqb (bit (names_in host (guest_key_in host)) 3) 1 ≡ (guest_three p.sheet).prototyped
guest-prototyped {host = host} p lays =
    let c = guest_class p.sheet in
    let h = class-below p.sheet in
    same (bit (names_in host (guest_key_in host)) 3) (in_class p.sheet c 3)
    (λ o. (chosen-passes (in_class p.sheet c) 32 3 (subst (λ (ns : List ℕ). Memᴰ 3 ns) (class-names p.sheet c h) (rw lays.guest-key at (named.0 o)))).1)
    (λ e. named.1 (rw (lays.guest-key, class-names p.sheet c h) (passes-chosen (in_class p.sheet c) 32 3 (omega arith) e)))
  where
    named : (bit (names_in host (guest_key_in host)) 3 ≡ 1) ↔ Memᴰ 3 (names_of p.sheet (guest_key_in host))
    named = lays.names (guest_key_in host) 3 (class-key host.guest_class host.in_range)

    same : (n : ℕ) (b : Bool) → (n ≡ 1 → b ≡ true) → (b ≡ true → n ≡ 1) → eqb n 1 ≡ b
    same n true f g = eq-eqb n 1 (g refl)
    same n false f g = ne_eqb n 1 (λ e. true≢false (sym (f e)))

pub three_labels : (wide : Bool) → 3 < labels wide
three_labels true = omega arith
three_labels false = omega arith

-- the guest's i-th statement, as the code holds it
pub record Said (key : ℕ) (prototyped : Bool) (i : ℕ) (s : Statement) : Type 0 where
  pub rule : (p : Program) → rule_by p s ≡ both (rule_of p (guest_statement key prototyped i)) none
  pub bounded : (wide : Bool) → InBounds (labels wide) s

pub said_at : {key : ℕ} {prototyped : Bool} {i : ℕ} (j : ℕ) (s : Statement) → i ≡ j → Said key prototyped j s
    → record {
      result_value : (p : Program) → rule_by p s ≡ both (rule_of p (guest_statement key prototyped i)) none;
      in_bounds : (wide : Bool) → InBounds (labels wide) s;
    }
said_at j s e h = rw e (record { result_value = h.rule; in_bounds = h.bounded })

-- one statement more
pub guest-turn : {wide : Bool} {o : ℕ} {t u v keeps kept left : List ℕ} {a b : Bool} (p : Program) (key : ℕ) (prototyped : Bool) (i : ℕ) (s : Statement)
    → i < 8 → Apart wide o → Applies wide o p (tells wide (every (take i (guest_list p key prototyped)))) t keeps u kept a
    → rule_by p s ≡ both (rule_of p (guest_statement key prototyped i)) none → Applies wide o p (tells wide (rule_by p s)) u kept v left b
    → Applies wide o p (tells wide (every (take (i + 1) (guest_list p key prototyped)))) t keeps v left (a || b)
guest-turn p key prototyped i s h apart first e second =
    let rest = rule_of p (guest_statement key prototyped i) ∷ [] in
    applies-same (every (take i (guest_list p key prototyped) ++ rest)) (every (take (i + 1) (guest_list p key prototyped))) (ap every (guest-next p key prototyped i h))
    (applies-append (take i (guest_list p key prototyped)) rest apart first
    (applies-same (rule_by p s) (both (rule_of p (guest_statement key prototyped i)) none) (sym e) second))

-- what is below 8 and none of the numbers before is 7
pub last_one : (i : ℕ) → i < 8 → (i ≡ 0 → ⊥) → (i ≡ 1 → ⊥) → (i ≡ 2 → ⊥) → (i ≡ 3 → ⊥) → (i ≡ 4 → ⊥) → (i ≡ 5 → ⊥) → (i ≡ 6 → ⊥) → i ≡ 7
last_one zero h a b c d e f g = absurd (a refl)
last_one (suc zero) h a b c d e f g = absurd (b refl)
last_one (suc (suc zero)) h a b c d e f g = absurd (c refl)
last_one (suc (suc (suc zero))) h a b c d e f g = absurd (d refl)
last_one (suc (suc (suc (suc zero)))) h a b c d e f g = absurd (e refl)
last_one (suc (suc (suc (suc (suc zero))))) h a b c d e f g = absurd (f refl)
last_one (suc (suc (suc (suc (suc (suc zero)))))) h a b c d e f g = absurd (g refl)
last_one (suc (suc (suc (suc (suc (suc (suc i))))))) h a b c d e f g = omega arith
