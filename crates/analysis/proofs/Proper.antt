-- A proper program: what the rules and the outcomes ask of one, and that a readable file gives such a one. Assumes nothing.
use mathlib.Core.Path.{◌≡◌}
use mathlib.Core.List.{List, [], ◌∷◌}
use Prim.Native.Nat.{ℕ, ◌^◌, ◌<◌, ◌≤◌}
use native.Mathlib.Omega.{arith}
use lib.ListN.{get_or}
use Rattle.words.specs.Words.{bit}
use Rattle.format.specs.Sheet.{Sheet}
use Rattle.format.specs.Fields.{good}
use Rattle.format.specs.Records.{Record}
use Rattle.format.specs.Reading.{Reading, read_file, Readable}
use Rattle.format.proofs.Fields.{fits-good}
use Rattle.format.proofs.Effect.{not_equal}
use Rattle.format.proofs.Ready.{Made}
use Rattle.format.proofs.Later.{declared-below}
use Rattle.format.proofs.Readable.{readable-ready, formal-below}
use Rattle.analysis.proofs.Stated.{Declared, AllStated, stated-append, start-declared, top-declared, guest-declared, host-stated, guest-stated}
use Rattle.program.specs.Program.{Program, Guest, guests_statements, host_statements, guests_of, program_of, statements, program_in}

-- what the rules and the outcomes ask of a guest
pub record ProperGuest (L : ℕ) (s : Sheet) (g : Guest) : Type 0 where
  pub label-declared : Declared s g.label
  pub bag-positive : 0 < g.bag
  pub bag-below : g.bag < 256
  pub forbidden-below : g.forbidden < 2 ^ L
  pub forbidden-declared : (l : ℕ) → bit g.forbidden l ≡ 1 → Declared s l

abbrev pub AllProper : ℕ → Sheet → List Guest → Type 0
AllProper L s [] = Unit {0}
AllProper L s (g ∷ gs) = ProperGuest L s g × AllProper L s gs

-- what the rules ask of a program
pub record Proper (L : ℕ) (p : Program) : Type 0 where
  pub below : (l : ℕ) → Declared p.sheet l → l < L
  pub formal-below : (i : ℕ) → get_or p.sheet.formals i 0 < 256
  pub all-stated : AllStated p.sheet (statements p)
  pub guests-proper : AllProper L p.sheet p.guests
  pub global-declared : Declared p.sheet 0
  pub object-declared : Declared p.sheet 1
  pub function-declared : Declared p.sheet 2
  pub array-declared : Declared p.sheet 4

pub made-proper : (L : ℕ) (d : Reading) → Made L d.sheet d.records → Proper L (program_of d)
unfolding program_of statements good
made-proper L d m =
    record {
      below = λ l e. declared-below L s l m.sized (not_equal _ _ e);
      formal-below = formal-below L s ps m;
      all-stated = stated-append s (guests_statements (guests_of s)) (host_statements ps) (guest-stated L s ps m) (host-stated L s ps m ps (λ at r i. (m.all_fit at r i).1));
      guests-proper = (
        record {
          label-declared = guest-declared L s ps m;
          bag-positive = omega arith;
          bag-below = omega arith;
          forbidden-below = m.forbidden.forbidden-below;
          forbidden-declared = λ l b. let a = (m.forbidden.forbidden-record l).0 b in fits-good L s _ _ (m.all_fit a.position _ a.member).1 0 (omega arith);
        },
        tt,
      );
      global-declared = top-declared L s ps m;
      object-declared = start-declared L s ps m 1 1 (omega arith) (omega arith) (m.labels.start-type 1 (omega arith));
      function-declared = start-declared L s ps m 2 1 (omega arith) (omega arith) (m.labels.start-type 2 (omega arith));
      array-declared = start-declared L s ps m 4 1 (omega arith) (omega arith) (m.labels.start-type 4 (omega arith));
    }
  where
    s : Sheet
    s = d.sheet

    ps : List (ℕ × Record)
    ps = d.records

-- the program of a readable file is such a one
pub readable-proper : (L : ℕ) (xs : List ℕ) → 5 ≤ L → Readable L xs → Proper L (program_in L xs)
readable-proper L xs five ok = made-proper L (read_file L xs) (readable-ready L xs five ok).made
