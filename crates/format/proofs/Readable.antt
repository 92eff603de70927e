-- A readable file is ready for the rules and the machine. Assumes nothing.
use mathlib.Core.Path.{◌≡◌, sym, ◌∙◌, subst}
use mathlib.Core.Logic.{inl, inr}
use mathlib.Core.List.{List, [], ◌∷◌}
use mathlib.Core.Bool.{false, ◌&&◌, true≢false}
use Prim.Native.Nat.{ℕ, zero, suc, ◌<◌, ◌≤◌}
use native.Mathlib.Nat.{suc_inj}
use native.Mathlib.Omega.{arith}
use lib.ListN.{length, get_or}
use lib.Dec.{eqb}
use borrow.Author.Tests.{eq-eqb}
use Rattle.format.specs.Sheet.{Sheet, start}
use Rattle.format.specs.Records.{Record}
use Rattle.format.specs.Reading.{Reading, lacking, read_file, Readable}
use Rattle.format.proofs.Tests.{or-false}
use Rattle.format.proofs.Effect.{Function}
use Rattle.format.proofs.File.{Read, readable-read, read_is}
use Rattle.format.proofs.Ready.{Among, seven_of, Made, Ready}
use Rattle.format.proofs.Made.{made-start, made_all}

-- where no label lacks its function, every label of type 2 has one
pub none-lacking : (types defined : List ℕ) → length types ≡ length defined → lacking types defined ≡ false → (l : ℕ) → get_or types l 0 ≡ 2
    → get_or defined l 0 ≡ 0 → ⊥
unfolding lacking
none-lacking [] defined n e l t d = omega arith
none-lacking (a ∷ types) [] n e l t d = omega arith
none-lacking (a ∷ types) (b ∷ defined) n e zero t d =
    true≢false (sym (rw (eq-eqb a 2 t, eq-eqb b 0 d)) ∙ (or-false (eqb a 2 && eqb b 0) (lacking types defined) e).0)
none-lacking (a ∷ types) (b ∷ defined) n e (suc l) t d =
    none-lacking types defined (suc_inj n) (or-false (eqb a 2 && eqb b 0) (lacking types defined) e).1 l t d

pub readable-ready : (L : ℕ) (xs : List ℕ) → 5 ≤ L → Readable L xs → Ready L (read_file L xs).sheet (read_file L xs).records
readable-ready L xs h e = let r = readable-read L xs e in go r (made r)
  where
    made : (r : Read L xs) → Made L (read_file L xs).sheet (read_file L xs).records
    made r =
        subst (λ (d : Reading). Made L d.sheet d.records) (sym (read_is L xs r))
        (made_all L (start L) [] 0 r.whole.records (made-start L h) r.whole.well-formed)

    go : Read L xs → Made L (read_file L xs).sheet (read_file L xs).records → Ready L (read_file L xs).sheet (read_file L xs).records
    go r m = record { made = m; all-defined = none-lacking _ _ (m.sized.types-length ∙ sym m.sized.defined-length) r.complete }

-- ---- what the parts say together

module _ (L : ℕ) (s : Sheet) (ps : List (ℕ × Record)) (m : Made L s ps) where
  pub formal-below : (i : ℕ) → get_or s.formals i 0 < 256
  formal-below i =
      elim (m.functions.formal-known i) [
        | inl h ↦ omega arith
        | inr h ↦ (m.variables.variable-range (get_or s.formals i 0) h).1
      ]

-- a function label from 5 up has its record, with the seven variables that the sheet holds for it
pub function-has-record : (L : ℕ) (s : Sheet) (ps : List (ℕ × Record)) → Ready L s ps → (l : ℕ) → Function s.types l
    → Among 4 (l ∷ seven_of s.formals l) ps
function-has-record L s ps r l f = r.made.functions.function-record l f.from-five (r.all-defined l f.is-function)
