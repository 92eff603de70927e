-- The rules of the file's program, in the order of a pass. Assumes nothing.
use mathlib.Core.Path.{sym, subst}
use mathlib.Core.Logic.{◌⊎◌, inl, inr}
use mathlib.Core.Bool.{Bool, ◌||◌}
use mathlib.Core.List.{List, [], ◌∷◌, map}
use Prim.Native.Nat.{ℕ}
use Rattle.rows.specs.Edition.{labels}
use Rattle.rows.specs.Row.{chain}
use Rattle.rules.specs.Table.{Table}
use Rattle.rules.specs.Rule.{Rule, give, over, every}
use Rattle.rules.specs.Told.{Told}
use Rattle.rules.proofs.Told.{told-monotone}
use Rattle.format.specs.Reading.{read_file}
use Rattle.program.specs.Program.{Program, guest_statements, guests_statements, host_statements, guests_of, statements, program_of, program_in}
use Rattle.analysis.specs.Rules.{rule_of, chain_rule, declared_labels, rules}
use Rattle.uses.specs.Use.{Apart, tells, Used}
use Rattle.records.proofs.Rules.{rules-split}
use Rattle.shared.specs.Apply.{Applies}
use Rattle.shared.proofs.Applied.{applies-plain, applies-for, applies-then}
use Rattle.passes.specs.Order.{guest_rules, record_rules, line_rules, PassOf}
use Rattle.passes.proofs.Every.{told-append, append-told}

-- the lines: three uses, one after the other
pub applies-lines : {wide : Bool} {o : ℕ} {p : Program} {t u v w keeps kept left : List ℕ} {a b d : Bool} → Apart wide o
    → Applies wide o p (tells wide (over (declared_labels (labels wide) p.sheet) (chain_rule p.sheet))) t keeps u kept a
    → Used wide o (tells wide (over (1 ∷ 2 ∷ 4 ∷ []) (λ m. give (chain 3) m))) u u v b → Applies wide o p (tells wide (guest_rules p)) v kept w left d
    → Applies wide o p (tells wide (line_rules (labels wide) p)) t keeps w left (a || (b || d))
applies-lines {wide} apart chains prototypes said =
    applies-then apart chains
    (applies-then apart (applies-plain apart (λ a b i r l h. told-monotone (labels wide) a b i (over (1 ∷ 2 ∷ 4 ∷ []) (λ m. give (chain 3) m)) r l h) prototypes) said)

module _ (L : ℕ) (file : List ℕ) (t : Table) (r l : ℕ) where
  -- what the program's rules tell is what the lines and the records do
  pub told-pass : Told L t (rules L (program_in L file)) r l
      → Told L t (line_rules L (program_in L file)) r l ⊎ Told L t (record_rules L (program_in L file) file) r l
  unfolding rules program_of statements guests_statements guest_statements
  told-pass (inl h) = inl (inl h)
  told-pass (inr (inl (inl h))) = inl (inr (inl h))
  told-pass (inr (inl (inr h))) = absurd h
  told-pass (inr (inr h)) =
      let p = program_in L file in
      let gs = guests_statements (guests_of (read_file L file).sheet) in
      let hs = host_statements (read_file L file).records in
      go (append-told L t r l (map (λ a. rule_of p a.1) gs) (map (λ a. rule_of p a.1) hs) (subst (λ (rs : List Rule). Told L t (every rs) r l) (rules-split p gs hs) h))
    where
      go : Told L t (guest_rules (program_in L file)) r l ⊎ Told L t (record_rules L (program_in L file) file) r l
          → Told L t (line_rules L (program_in L file)) r l ⊎ Told L t (record_rules L (program_in L file) file) r l
      go (inl g) = inl (inr (inr g))
      go (inr g) = inr g

  pub pass-told : Told L t (line_rules L (program_in L file)) r l ⊎ Told L t (record_rules L (program_in L file) file) r l
      → Told L t (rules L (program_in L file)) r l
  unfolding rules program_of statements guests_statements guest_statements
  pass-told (inl (inl h)) = inl h
  pass-told (inl (inr (inl h))) = inr (inl (inl h))
  pass-told (inl (inr (inr h))) =
      let p = program_in L file in
      let gs = guests_statements (guests_of (read_file L file).sheet) in
      let hs = host_statements (read_file L file).records in
      inr (inr (subst (λ (rs : List Rule). Told L t (every rs) r l) (sym (rules-split p gs hs)) (told-append L t r l (map (λ a. rule_of p a.1) gs) (map (λ a. rule_of p a.1) hs) (inl h))))
  pass-told (inr h) =
      let p = program_in L file in
      let gs = guests_statements (guests_of (read_file L file).sheet) in
      let hs = host_statements (read_file L file).records in
      inr (inr (subst (λ (rs : List Rule). Told L t (every rs) r l) (sym (rules-split p gs hs)) (told-append L t r l (map (λ a. rule_of p a.1) gs) (map (λ a. rule_of p a.1) hs) (inr h))))

pub applies-pass : {wide : Bool} {o : ℕ} {t u v keeps kept left : List ℕ} {a b : Bool} (file : List ℕ) → Apart wide o
    → Applies wide o (program_in (labels wide) file) (tells wide (line_rules (labels wide) (program_in (labels wide) file))) t keeps u kept a
    → Applies wide o (program_in (labels wide) file) (tells wide (record_rules (labels wide) (program_in (labels wide) file) file)) u kept v left b
    → PassOf wide o file t keeps v left (a || b)
applies-pass {wide} file apart lines records =
    applies-for apart (λ a i r l h. pass-told (labels wide) file a r l h) (λ a i r l h. told-pass (labels wide) file a r l h) (applies-then apart lines records)
