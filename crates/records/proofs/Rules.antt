-- The rules of a file's records, as those of a list of records: of the records passed and of those left; and the rules of statements in two parts.
-- Assumes nothing.
use mathlib.Core.Path.{◌≡◌, refl, sym, ap, ◌∙◌}
use mathlib.Core.List.{List, [], ◌∷◌, ◌++◌, map, append_assoc}
use Prim.Native.Nat.{ℕ, ◌+◌, ◌<◌}
use lib.ListN.{length, get_or}
use Rattle.rules.specs.Rule.{Rule, every}
use Rattle.format.specs.Records.{Record}
use Rattle.format.specs.Reading.{read_file, positioned}
use Rattle.program.specs.Statement.{Statement, statements_of}
use Rattle.program.specs.Program.{Program, placed, host_statements}
use Rattle.analysis.specs.Rules.{rule_of}
use Rattle.records.specs.Say.{saying, record_rule}
use Rattle.records.specs.Walk.{Walk, body_at}
use Rattle.records.proofs.Walks.{here, body-at}

-- the rules of a list of records
abbrev pub rules_of : Program → List Record → List Rule
rules_of p [] = []
rules_of p (r ∷ rs) = saying p r ++ rules_of p rs

placed-rules : (p : Program) (at : ℕ) (ss : List Statement) (rest : List (ℕ × Statement))
    → map (λ s. rule_of p s.1) (placed at ss ++ rest) ≡ map (rule_of p) ss ++ map (λ s. rule_of p s.1) rest
placed-rules p at [] rest = refl
placed-rules p at (s ∷ ss) rest = ap (λ (rs : List Rule). rule_of p s ∷ rs) (placed-rules p at ss rest)

host-rules : (p : Program) (at : ℕ) (rs : List Record) → map (λ s. rule_of p s.1) (host_statements (positioned at rs)) ≡ rules_of p rs
unfolding host_statements positioned
host-rules p at [] = refl
host-rules p at (r ∷ rs) =
    placed-rules p at (statements_of r) (host_statements (positioned (at + 1 + length r.body) rs))
    ∙ ap (λ (qs : List Rule). saying p r ++ qs) (host-rules p (at + 1 + length r.body) rs)

pub rules-append : (p : Program) (rs qs : List Record) → rules_of p (rs ++ qs) ≡ rules_of p rs ++ rules_of p qs
rules-append p [] qs = refl
rules-append p (r ∷ rs) qs =
    ap (λ (ps : List Rule). saying p r ++ ps) (rules-append p rs qs) ∙ sym (append_assoc (saying p r) (rules_of p rs) (rules_of p qs))

-- those of the file, at any turn
pub walk-rules : {L : ℕ} {file : List ℕ} {at : ℕ} (p : Program) (w : Walk L file at)
    → map (λ s. rule_of p s.1) (host_statements (read_file L file).records) ≡ rules_of p w.done ++ rules_of p w.rest
walk-rules p w =
    ap (λ (rs : List (ℕ × Record)). map (λ s. rule_of p s.1) (host_statements rs)) w.whole ∙ host-rules p 0 (w.done ++ w.rest)
    ∙ rules-append p w.done w.rest

-- those of the record here, as one rule
pub here-rule : {L : ℕ} {file : List ℕ} {at : ℕ} (p : Program) (w : Walk L file at) (h : at < length file)
    → record_rule p (get_or file at 0) (body_at file at) ≡ every (saying p (here w h).front)
here-rule p w h = rw (body-at w h, (here w h).kind)

-- ---- the rules of statements, without the positions

module _ (p : Program) where
  rule-again : (ss : List (ℕ × Statement)) → map (λ (r : ℕ × Rule). r.1) (map (λ (a : ℕ × Statement). (a.0, rule_of p a.1)) ss) ≡ map (λ a. rule_of p a.1) ss
  rule-again [] = refl
  rule-again (a ∷ ss) = ap (λ (rs : List Rule). rule_of p a.1 ∷ rs) (rule-again ss)

  pub rules-split : (gs hs : List (ℕ × Statement))
      → map (λ (r : ℕ × Rule). r.1) (map (λ (a : ℕ × Statement). (a.0, rule_of p a.1)) (gs ++ hs))
      ≡ map (λ a. rule_of p a.1) gs ++ map (λ a. rule_of p a.1) hs
  rules-split [] hs = rule-again hs
  rules-split (a ∷ gs) hs = ap (λ (rs : List Rule). rule_of p a.1 ∷ rs) (rules-split gs hs)
