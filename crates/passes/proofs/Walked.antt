-- The rules of the records that were walked over. Assumes nothing.
use mathlib.Core.Path.{◌≡◌, refl, sym, ap, ◌∙◌}
use mathlib.Core.Bool.{Bool, false, ◌||◌}
use mathlib.Core.List.{List, [], ◌∷◌, ◌++◌}
use Prim.Native.Nat.{ℕ, ◌+◌, ◌≤◌, ◌<◌}
use lib.ListN.{length, get_or}
use Rattle.layout.specs.Layout.{body_length}
use Rattle.rows.specs.Edition.{labels}
use Rattle.rules.specs.Rule.{Rule, every}
use Rattle.format.specs.Records.{Record}
use Rattle.format.specs.Reading.{Readable}
use Rattle.program.specs.Program.{Program}
use Rattle.uses.specs.Use.{Apart, tells}
use Rattle.records.specs.Say.{saying, record_rule}
use Rattle.records.specs.Walk.{Walk, body_at}
use Rattle.records.proofs.Walks.{five-labels, walk_first, first_done, here, walk-next, next-done, rest_end}
use Rattle.records.proofs.Rules.{rules_of, rules-append, walk-rules, here-rule}
use Rattle.shared.specs.Apply.{Applies}
use Rattle.passes.specs.Order.{record_rules}
use Rattle.passes.proofs.Every.{applies-none, applies-append, applies-same}

append-nil : (xs : List Rule) → xs ++ [] ≡ xs
append-nil [] = refl
append-nil (x ∷ xs) = ap (λ (ys : List Rule). x ∷ ys) (append-nil xs)

-- the records before position `at` were used, for every program of which P holds
pub record Walked (wide : Bool) (o : ℕ) (P : Program → Type 0) (file before keeps t kept : List ℕ) (grew : Bool) (at : ℕ) : Type 0 where
  pub walk : Walk (labels wide) file at
  pub used : (p : Program) → P p → Applies wide o p (tells wide (every (rules_of p walk.done))) before keeps t kept grew

module _ {wide : Bool} {o : ℕ} {P : Program → Type 0} {file : List ℕ} where
  pub walked_start : {t keeps : List ℕ} → Readable (labels wide) file → Walked wide o P file t keeps t keeps false 0
  walked_start ok =
      let w = walk_first (labels wide) file (five-labels wide) ok in
      record { walk = w; used = λ p q. applies-none (rules_of p w.done) (ap (rules_of p) (first_done (labels wide) file (five-labels wide) ok)) }

  pub walked_next : {before keeps t kept u left : List ℕ} {a b : Bool} {at next : ℕ} → Apart wide o → at < length file
      → next ≡ at + 1 + body_length (get_or file at 0) → Walked wide o P file before keeps t kept a at
      → ((p : Program) → P p → Applies wide o p (tells wide (record_rule p (get_or file at 0) (body_at file at))) t kept u left b)
      → Walked wide o P file before keeps u left (a || b) next
  walked_next {before} {keeps} {t} {kept} {u} {left} {a} {b} {at} apart h e v turn = rw e (record { walk = w; used = used })
    where
      w : Walk (labels wide) file (at + 1 + body_length (get_or file at 0))
      w = walk-next v.walk h (body_length (get_or file at 0)) refl

      front : Record
      front = (here v.walk h).front

      list : (p : Program) → rules_of p w.done ≡ rules_of p v.walk.done ++ saying p front
      list p =
          ap (rules_of p) (next-done v.walk h (body_length (get_or file at 0)) refl) ∙ rules-append p v.walk.done (front ∷ [])
          ∙ ap (λ (rs : List Rule). rules_of p v.walk.done ++ rs) (append-nil (saying p front))

      used : (p : Program) → P p → Applies wide o p (tells wide (every (rules_of p w.done))) before keeps u left (a || b)
      used p q =
          applies-same (every (rules_of p v.walk.done ++ saying p front)) (every (rules_of p w.done)) (ap every (list p))
          (applies-append (rules_of p v.walk.done) (saying p front) apart (v.used p q)
          (applies-same (record_rule p (get_or file at 0) (body_at file at)) (every (saying p front)) (sym (here-rule p v.walk h)) (turn p q)))

  pub walked_end : {before keeps t kept : List ℕ} {grew : Bool} {at : ℕ} → length file ≤ at → Walked wide o P file before keeps t kept grew at
      → (p : Program) → P p → Applies wide o p (tells wide (record_rules (labels wide) p file)) before keeps t kept grew
  walked_end h v p q =
      applies-same (every (rules_of p v.walk.done)) (record_rules (labels wide) p file)
      (ap every (walk-rules p v.walk ∙ ap (λ (rs : List Record). rules_of p v.walk.done ++ rules_of p rs) (rest_end v.walk h)
      ∙ append-nil (rules_of p v.walk.done))) (v.used p q)
