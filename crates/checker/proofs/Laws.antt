-- The check's one use of all rules: the room that it needs, and what it shows. Assumes nothing.
use mathlib.Core.Path.{◌≡◌, subst}
use Rattle.std.specs.Prelude.{Option, None, Some, IfSome}
use Rattle.std.specs.Option.{unwrap_or}
use mathlib.Core.Logic.{inr}
use mathlib.Core.Bool.{Bool}
use mathlib.Core.List.{List}
use Prim.Native.Nat.{ℕ, ◌*◌, ◌≤◌, ◌<◌}
use native.Mathlib.Omega.{arith}
use Rattle.rows.specs.Edition.{labels, word_count}
use Rattle.rows.specs.Row.{row_count}
use Rattle.rules.specs.Gap.{gap}
use Rattle.format.specs.Reading.{read_file, Readable}
use Rattle.program.specs.Program.{program_in}
use Rattle.analysis.specs.Rules.{rules}
use Rattle.analysis.proofs.Fit.{rules-fit}
use Rattle.records.proofs.Walks.{five-labels}
use Rattle.verdicts.specs.Check.{cleaned}
use Rattle.lent.specs.Table.{table_at}
use Rattle.uses.specs.Use.{Lent, tells, Used}
use Rattle.sheet.specs.declared.Sheet.{Sheet}
use Rattle.laying.specs.Arrays.{Arrays}
use Rattle.cleaning.specs.Copies.{Declares, Cleans, Grown}
use Rattle.cleaning.proofs.Gap.{cleaned-gap}

-- ---- room for two tables

pub lent_two : (wide : Bool) (o n m : ℕ) → o ≡ word_count wide → 2 * word_count wide ≤ n → m ≡ n → Lent wide o m
lent_two wide o n m e h s = record { room = omega (arith, e, h, s); apart = inr (omega (arith, e)) }

pub room-two : (k n m : ℕ) → 2 * k ≤ n → m ≡ n → 2 * k ≤ m
room-two k n m h s = omega (arith, h, s)

-- ---- what the use shows

pub gap-shown : (given : List ℕ) {wide : Bool} {file : List ℕ} {sheet : Sheet} → Readable (labels wide) file → Arrays wide file sheet → {t u : List ℕ}
    {w o : ℕ} {grew : Bool} → Declares wide sheet.types w → Cleans wide w given t → o ≡ word_count wide
    → Used wide o (tells wide (rules (labels wide) (program_in (labels wide) file))) t t u grew → (r : Option ℕ) → Grown wide u r
    → unwrap_or r (row_count (labels wide))
    ≡ gap (labels wide) (cleaned (labels wide) (read_file (labels wide) file).sheet (table_at wide 0 given)) (rules (labels wide) (program_in (labels wide) file))
gap-shown given {wide} {file} ok are {t} {u} {grew = grew} declares cleans e used r grown =
    let s = (read_file (labels wide) file).sheet in
    let p = rules (labels wide) (program_in (labels wide) file) in
    cleaned-gap p (rules-fit (labels wide) file (five-labels wide) ok) s (table_at wide 0 given) r (cleans s (declares s are.types_are))
    (subst (λ (x : ℕ). Used wide x (tells wide p) t t u grew) e used) grown

pub gap-within : (wide : Bool) (u : List ℕ) (r : Option ℕ) → Grown wide u r → IfSome r (λ row. row < row_count (labels wide))
gap-within wide u None g = tt
gap-within wide u (Some r) g = g.bound
