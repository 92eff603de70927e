-- What a turn of the search adds is told by the rules of the file. Assumes nothing.
use mathlib.Core.Path.{◌≡◌, refl, sym, subst}
use mathlib.Core.Logic.{inl, inr}
use mathlib.Core.Bool.{Bool}
use mathlib.Core.List.{List}
use Prim.Native.Nat.{ℕ, ◌<◌}
use lib.ListN.{length, get_or}
use Rattle.rows.specs.Edition.{labels}
use Rattle.rules.specs.Table.{Table}
use Rattle.rules.specs.Rule.{Rule, every}
use Rattle.rules.specs.Told.{Told}
use Rattle.format.specs.Records.{Record}
use Rattle.program.specs.Program.{Program, program_in}
use Rattle.analysis.specs.Rules.{rules}
use Rattle.uses.specs.Use.{Since, tells, Reached, start}
use Rattle.uses.proofs.Use.{reached-for, reached-on, reached-read}
use Rattle.kept.specs.Promise.{Remembers}
use Rattle.records.specs.Say.{saying, record_rule, rule_by}
use Rattle.records.specs.Walk.{Walk, body_at}
use Rattle.records.specs.declared.Statement.{Statement}
use Rattle.records.proofs.Walks.{here}
use Rattle.records.proofs.Rules.{rules_of, walk-rules, here-rule}
use Rattle.shared.specs.Apply.{Applies}
use Rattle.shared.proofs.Applied.{remembers-on}
use Rattle.passes.specs.Order.{line_rules, record_rules}
use Rattle.passes.proofs.Every.{told-append}
use Rattle.passes.proofs.Whole.{pass-told}
use Rattle.turns.specs.Steps.{StepsFor}

-- the rule of a record is one of the records' rules
pub record-told : {L : ℕ} {file : List ℕ} {at : ℕ} (p : Program) (t : Table) (r l : ℕ) (w : Walk L file at) (h : at < length file)
    → Told L t (record_rule p (get_or file at 0) (body_at file at)) r l → Told L t (record_rules L p file) r l
record-told {L} {file} {at} p t r l w h told =
    subst (λ (rs : List Rule). Told L t (every rs) r l) (sym (walk-rules p w))
    (told-append L t r l (rules_of p w.done) (rules_of p w.rest)
    (inr (subst (λ (rs : List Record). Told L t (every (rules_of p rs)) r l) (sym (here w h).parts)
    (told-append L t r l (saying p (here w h).front) (rules_of p (here w h).others)
    (inl (subst (λ (q : Rule). Told L t q r l) (here-rule p w h) told))))))

-- it is one of the file's
statement-told : (wide : Bool) (file : List ℕ) {at : ℕ} (s : Statement) → Walk (labels wide) file at → at < length file
    → record_rule (program_in (labels wide) file) (get_or file at 0) (body_at file at) ≡ rule_by (program_in (labels wide) file) s → (b : Table) (r l : ℕ)
    → Told (labels wide) b (rule_by (program_in (labels wide) file) s) r l → Told (labels wide) b (rules (labels wide) (program_in (labels wide) file)) r l
statement-told wide file s w h e b r l g =
    pass-told (labels wide) file b r l (inr (record-told (program_in (labels wide) file) b r l w h (subst (λ (q : Rule). Told (labels wide) b q r l) (sym e) g)))

module _ {wide : Bool} {file t u keeps kept : List ℕ} {grew : Bool} where
  -- a use of what the rules of the file tell
  steps_of : {T : Table → ℕ → ℕ → Type 0} → ((a : Table) (r l : ℕ) → T a r l → Told (labels wide) a (rules (labels wide) (program_in (labels wide) file)) r l)
      → Applies wide 0 (program_in (labels wide) file) T t keeps u kept grew → StepsFor wide file t keeps u kept
  steps_of f a old since m = record { reached = reached-for (inl refl) (λ b i r l h. f b r l h) (a.uses old since m).only; memory = a.memory old since m }

  pub steps-lines : Applies wide 0 (program_in (labels wide) file) (tells wide (line_rules (labels wide) (program_in (labels wide) file))) t keeps u kept grew
      → StepsFor wide file t keeps u kept
  steps-lines a = steps_of (λ b r l h. pass-told (labels wide) file b r l (inl h)) a

  pub steps-record : {at : ℕ} (s : Statement) → Walk (labels wide) file at → at < length file
      → record_rule (program_in (labels wide) file) (get_or file at 0) (body_at file at) ≡ rule_by (program_in (labels wide) file) s
      → Applies wide 0 (program_in (labels wide) file) (tells wide (rule_by (program_in (labels wide) file) s)) t keeps u kept grew → StepsFor wide file t keeps u kept
  steps-record s w h e a = steps_of (statement-told wide file s w h e) a

-- a part of a use, which leaves the pairs alone
pub steps-part : {wide : Bool} {file t u keeps : List ℕ} {at : ℕ} (s : Statement) → Walk (labels wide) file at → at < length file
    → record_rule (program_in (labels wide) file) (get_or file at 0) (body_at file at) ≡ rule_by (program_in (labels wide) file) s
    → Reached wide 0 (tells wide (rule_by (program_in (labels wide) file) s)) t u → StepsFor wide file t keeps u keeps
steps-part {wide} {file} s w h e reach old since m =
    record {
      reached = reached-for (inl refl) (λ b i r l g. statement-told wide file s w h e b r l g) reach;
      memory = remembers-on (inl refl) reach m;
    }

-- nothing was done
pub steps-none : {wide : Bool} {file t keeps : List ℕ} → StepsFor wide file t keeps t keeps
steps-none old since m = record { reached = start; memory = m }

-- one after the other
pub steps_on : {wide : Bool} {file t u v keeps kept left : List ℕ} → StepsFor wide file t keeps u kept → StepsFor wide file u kept v left
    → StepsFor wide file t keeps v left
steps_on a b old since m =
    let x = a old since m in
    let y = b old (λ r l h. reached-read (inl refl) x.reached r l (since r l h)) x.memory in
    record { reached = reached-on x.reached y.reached; memory = y.memory }

-- pairs forgotten
pub steps-forget : {wide : Bool} {file t keeps kept : List ℕ}
    → ((o : ℕ) (p : Program) (old t : List ℕ) → Since wide old t → Remembers wide o p old t keeps → Remembers wide o p old t kept)
    → StepsFor wide file t keeps t kept
steps-forget {wide} {file} {t} f old since m = record { reached = start; memory = f 0 (program_in (labels wide) file) old t since m }
