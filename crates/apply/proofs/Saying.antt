-- A statement's rules: by its variant. Assumes nothing.
use mathlib.Core.Path.{◌≡◌}
use mathlib.Core.Logic.{inl, inr}
use mathlib.Core.Bool.{Bool, false}
use mathlib.Core.List.{List}
use Prim.Native.Nat.{ℕ}
use Rattle.rows.specs.Edition.{labels}
use Rattle.rules.specs.Table.{Table}
use Rattle.rules.specs.Rule.{Rule, none, both}
use Rattle.rules.specs.Told.{Told}
use Rattle.rules.proofs.Told.{told-monotone}
use Rattle.program.specs.Program.{Program}
use Rattle.uses.specs.Use.{Apart, tells, Reached, Used}
use Rattle.uses.proofs.Use.{reached-for}
use Rattle.records.specs.Say.{rule_by, InBounds}
use Rattle.records.specs.declared.Statement.{Statement}
use Rattle.records.specs.declared.Statement.TheVariants.{Nothing, Return}
use Rattle.shared.specs.Apply.{Applies}
use Rattle.shared.proofs.Applied.{applies-plain, applies-for, applies-nothing}

-- a rule that the pairs have no part in
pub applies-rule : {wide : Bool} {o : ℕ} {p : Program} {t u keeps : List ℕ} {grew : Bool} (q : Rule) → Apart wide o → Used wide o (tells wide q) t t u grew
    → Applies wide o p (tells wide q) t keeps u keeps grew
applies-rule {wide} q apart used = applies-plain apart (λ a b i r l h. told-monotone (labels wide) a b i q r l h) used

-- and nothing else
told_lone : (L : ℕ) (t : Table) (q : Rule) (r l : ℕ) → Told L t (both q none) r l → Told L t q r l
told_lone L t q r l (inl h) = h
told_lone L t q r l (inr h) = absurd h

module _ {wide : Bool} {o : ℕ} {p : Program} {t u keeps kept : List ℕ} {grew : Bool} {s x : Statement} where
  -- the statement s is x, whose rule is q
  pub said : {q : Rule} → Apart wide o → s ≡ x → rule_by p x ≡ both q none → Applies wide o p (tells wide q) t keeps u kept grew
      → Applies wide o p (tells wide (rule_by p s)) t keeps u kept grew
  said {q} apart e f a = rw (e, f) (applies-for apart (λ b i r l h. inl h) (λ b i r l h. told_lone (labels wide) b q r l h) a)

pub said_plain : {wide : Bool} {o : ℕ} {p : Program} {t u keeps : List ℕ} {grew : Bool} {s x : Statement} {q : Rule} → Apart wide o → s ≡ x
    → rule_by p x ≡ both q none → Used wide o (tells wide q) t t u grew → Applies wide o p (tells wide (rule_by p s)) t keeps u keeps grew
said_plain {q = q} apart e f used = said apart e f (applies-rule q apart used)

pub said-nothing : {wide : Bool} {o : ℕ} {p : Program} {t keeps : List ℕ} {s : Statement} → s ≡ Nothing → Applies wide o p (tells wide (rule_by p s)) t keeps t keeps false
said-nothing e = rw e (applies-nothing (λ a i r l h. h))

pub said-return : {wide : Bool} {o : ℕ} {p : Program} {t keeps : List ℕ} {s : Statement} → s ≡ Return → Applies wide o p (tells wide (rule_by p s)) t keeps t keeps false
said-return {wide} e = rw e (applies-nothing (λ a i r l h. told_lone (labels wide) a none r l h))

-- a part of a use
pub said-part : {wide : Bool} {o : ℕ} {t u : List ℕ} {s x : Statement} {q : Rule} (p : Program) → Apart wide o → s ≡ x → rule_by p x ≡ both q none
    → Reached wide o (tells wide q) t u → Reached wide o (tells wide (rule_by p s)) t u
said-part p apart e f w = rw (e, f) (reached-for apart (λ b i r l h. inl h) w)

-- the bounds of the statement, by its variant
pub bounds : {s x : Statement} (L : ℕ) → s ≡ x → InBounds L s → InBounds L x
bounds L e h = rw e at h
