-- Two editions say the same of a file that the smaller one reads: what they read differs in the length of the sheet's arrays alone, so the rules are the
-- same, and with them the facts, their number and the verdict. Assumes nothing.
use mathlib.Core.Path.{◌≡◌, refl, sym, ap, subst, ◌∙◌}
use mathlib.Core.List.{List, [], ◌∷◌}
use Prim.Native.Nat.{ℕ, ◌+◌, ◌-◌, ◌^◌, ◌<◌, ◌≤◌}
use native.Mathlib.Decide.{ℕ_discrete}
use native.Mathlib.Omega.{arith}
use lib.Bits.{bit_and}
use lib.Count.{count_trailing_zeros}
use lib.ListN.{get_or}
use lib.Pow.{pow_pos}
use Rattle.rows.specs.Row.{Row, variable, number, InTable}
use Rattle.rows.proofs.Number.{number_bound}
use Rattle.answer.specs.Outcome.{confined, leaks}
use Rattle.rules.specs.Table.{facts}
use Rattle.rules.specs.Rule.{Rule}
use Rattle.format.specs.Reading.{Readable}
use Rattle.format.proofs.Readable.{readable-ready}
use Rattle.program.specs.Program.{Program, Guest, guests_of, host_statements, program_of, program_in}
use Rattle.analysis.specs.Rules.{rules}
use Rattle.analysis.specs.Verdict.{least_table, held_forbidden}
use Rattle.analysis.proofs.Proper.{AllProper, Proper, readable-proper}
use Rattle.analysis.proofs.Fit.{proper-fits}
use Rattle.analysis.proofs.Least.{table-shaped, table-closed, table-derives}
use Rattle.analysis.proofs.Held.{held_below}
use Rattle.verdicts.specs.Verdict.{forbidden_held, holder, judged}
use Rattle.verdicts.proofs.Judged.{clear-confined, held-leaks}
use Rattle.verdicts.proofs.Demand.{verdict-judged}
use Rattle.verdicts.proofs.Left.{row-left}
use Rattle.editions.specs.Same.{Same}
use Rattle.editions.proofs.Read.{Read, readable-widened}
use Rattle.editions.proofs.Ruled.{widened_program, rules-same}
use Rattle.editions.proofs.Carried.{row_kept, Least, row_same, row-empty}
use Rattle.editions.proofs.Counted.{facts-same, lowest-wide}

-- the least table of a program is one in Carried.antt's sense
least : (A : ℕ) (p : Program) → Proper A p → Least A (rules A p) (least_table A p)
least A p o =
    record { small = (table-shaped A p o).small; closed = table-closed A p o; derived = λ r l. (table-derives A p o r l).0 }

-- the larger edition has n labels more
module _ (L n : ℕ) (five : 5 ≤ L) (xs : List ℕ) (ok : Readable L xs) where
  abbrev M : ℕ
  M = L + n

  abbrev p : Program
  p = program_in L xs

  abbrev q : Program
  q = program_in M xs

  read : Read L n five xs
  read = readable-widened L n five xs ok

  proper : Proper L p
  proper = readable-proper L xs five ok

  proper-wider : Proper M q
  proper-wider = readable-proper M xs (omega arith) read.readable

  -- the program is the small edition's, with the sheet widened; so the rules are the same
  programs : q ≡ widened_program n p
  unfolding program_of
  programs = λ i. record { sheet = read.sheet i; host = host_statements (read.records i); guests = guests_of (read.sheet i) }

  rules-are : rules M q ≡ rules L p
  unfolding program_of
  rules-are = ap (rules M) programs ∙ rules-same L n p (readable-ready L xs five ok).made.sized

  -- and so are the facts
  wider : Least M (rules L p) (least_table M q)
  wider = subst (λ (a : Rule). Least M a (least_table M q)) rules-are (least M q proper-wider)

  row : (y : Row) → InTable L y → get_or (least_table M q) (number M y) 0 ≡ get_or (least_table L p) (number L y) 0
  row = row_same L M (omega arith) (rules L p) (proper-fits L p proper) (least_table L p) (least_table M q) (least L p proper) wider

  other : (y : Row) → InTable M y → (InTable L y → ⊥) → get_or (least_table M q) (number M y) 0 ≡ 0
  other = row-empty L M (omega arith) (rules L p) (proper-fits L p proper) (least_table L p) (least_table M q) (least L p proper) wider

  counts : facts M (least_table M q) ≡ facts L (least_table L p)
  counts =
      facts-same L M (omega arith) (least_table L p) (least_table M q) (table-shaped L p proper).small row other
      (table-shaped L p proper).long (table-shaped M q proper-wider).long

  -- ---- the verdict

  guests : q.guests ≡ p.guests
  guests = ap (λ (a : Program). a.guests) programs

  -- each guest's bag is the same row in both tables
  held_same : (gs : List Guest) → AllProper L p.sheet gs → forbidden_held (least_table M q) gs ≡ forbidden_held (least_table L p) gs
  unfolding forbidden_held held_forbidden
  held_same [] h = refl
  held_same (g ∷ gs) h = ap (λ (w : ℕ). bit_and w g.forbidden) (row (variable g.bag) h.0.bag-below)

  held_small : (gs : List Guest) → AllProper L p.sheet gs → forbidden_held (least_table L p) gs < 2 ^ L
  unfolding forbidden_held
  held_small [] h = pow_pos L
  held_small (g ∷ gs) h = held_below L (least_table L p) g h.0.forbidden-below

  judged-same : judged M q ≡ judged L p
  judged-same = go (ℕ_discrete (forbidden_held (least_table L p) p.guests) 0)
    where
      held : forbidden_held (least_table M q) q.guests ≡ forbidden_held (least_table L p) p.guests
      held = ap (forbidden_held (least_table M q)) guests ∙ held_same p.guests proper.guests-proper

      go : Dec (forbidden_held (least_table L p) p.guests ≡ 0) → judged M q ≡ judged L p
      go (yes e) = clear-confined M q (held ∙ e) ∙ ap confined counts ∙ sym (clear-confined L p e)
      go (no d) =
          let lowest : count_trailing_zeros M (forbidden_held (least_table M q) q.guests) ≡ count_trailing_zeros L (forbidden_held (least_table L p) p.guests) =
          ap (count_trailing_zeros M) held ∙ lowest-wide L M _ (omega arith) (held_small p.guests proper.guests-proper) (omega arith) in
          held-leaks M q (λ e. d (sym held ∙ e)) ∙ (λ i. leaks (lowest i) (holder (guests i)) (counts i)) ∙ sym (held-leaks L p d)

  same-wider : Same L M xs
  same-wider =
      let more : 5 ≤ M = omega arith in
      record {
        readable = read.readable;
        records = read.records;
        outcome = λ words large full room.
            verdict-judged M xs more read.readable large room ∙ judged-same ∙ sym (verdict-judged L xs five ok words full);
        rows = λ t u full room y i.
            row-left M xs more read.readable u room (number M y) (number_bound M y (row_kept L M (omega arith) y i))
            ∙ row y i ∙ sym (row-left L xs five ok t full (number L y) (number_bound L y i));
        others = λ u room y i out. row-left M xs more read.readable u room (number M y) (number_bound M y i) ∙ other y i out;
      }

-- document 02, Req 13: "A file readable in the small edition has the same verdict and count in the large one."
pub same : (L M : ℕ) → 5 ≤ L → L ≤ M → (xs : List ℕ) → Readable L xs → Same L M xs
same L M five more xs ok =
    let e : L + (M - L) ≡ M = omega arith in
    subst (λ (m : ℕ). Same L m xs) e (same-wider L (M - L) five xs ok)

pub small-in-large : (xs : List ℕ) → Readable 64 xs → Same 64 256 xs
small-in-large = same 64 256 (omega arith) (omega arith)
