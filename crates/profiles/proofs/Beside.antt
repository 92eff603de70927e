-- A file with the record beside the file without it: it adds no fact, what is confined stays confined and what is accepted accepted, and where the class has
-- every name nothing changes. Assumes nothing.
use mathlib.Core.Path.{◌≡◌, refl, sym, ap, subst, ◌∙◌}
use mathlib.Core.List.{List, [], ◌∷◌, ◌++◌}
use mathlib.Core.Bool.{true, cond}
use Prim.Native.Nat.{ℕ, zero, suc, ◌+◌, ◌*◌, ◌^◌, ◌≤◌, ◌<◌}
use native.Mathlib.Omega.{arith}
use lib.ListN.{length, take, drop}
use Rattle.words.specs.Words.{union}
use Rattle.layout.specs.Key.{inside}
use Rattle.rows.specs.Row.{row_count}
use Rattle.rows.specs.Run.{room_for, rows_of, laid}
use Rattle.answer.specs.Outcome.{refused}
use Rattle.rules.specs.Table.{Table, Within, facts, empty_table}
use Rattle.rules.proofs.Table.{facts-within}
use Rattle.rules.specs.Rule.{Rule}
use Rattle.rules.specs.Told.{Closed}
use Rattle.rules.specs.Round.{least_above}
use Rattle.format.specs.Sheet.{Sheet, declared, with_profile}
use Rattle.format.specs.Reading.{read_file, Readable}
use Rattle.program.specs.Program.{Program, host_statements, program_of, in_class, names_of, program_in}
use Rattle.program.proofs.Names.{every-name-inside}
use Rattle.analysis.specs.Rules.{rules}
use Rattle.analysis.specs.Verdict.{least_table}
use Rattle.analysis.proofs.Proper.{readable-proper}
use Rattle.analysis.proofs.Least.{table-within, table-length, table-closed}
use Rattle.verdicts.specs.Verdict.{forbidden_held, judged, verdict_outcome, verdict_table, verdict_words, Confined}
use Rattle.verdicts.specs.Check.{declared_word, masked, cleaned, checked, check_outcome, Accepts}
use Rattle.verdicts.proofs.Lists.{not-refused, accepted-closed, closed-accepted}
use Rattle.verdicts.proofs.Demand.{accepted-confined, confined-iff}
use Rattle.machine.specs.Step.{Move, run}
use Rattle.machine.specs.Start as machine
use Rattle.toplevel.proofs.Silent.{admitted-same}
use Rattle.profiles.specs.Profiles.{held_guest, HasEveryName, Unchanged, Held}
use Rattle.profiles.proofs.Read.{unheld-free, Beside}
use Rattle.profiles.proofs.Guest.{NamesInside, free_program, held_program, program-without, program-with, class-within, every-named}
use Rattle.profiles.proofs.Told.{closed-fewer, rules-same}
use Rattle.profiles.proofs.Run.{reached-held}

-- what counts of a table does not depend on the class
word_same : (n : ℕ) (s : Sheet) (c : ℕ) → declared_word n (with_profile s c) ≡ declared_word n s
unfolding declared_word
word_same zero s c = refl
word_same (suc l) s c = ap (λ (w : ℕ). cond (declared s l) (union w (2 ^ l)) w) (word_same l s c)

cleaned-same : (L : ℕ) (s : Sheet) (c : ℕ) (t : Table) → cleaned L (with_profile s c) t ≡ cleaned L s t
unfolding cleaned
cleaned-same L s c t = ap (λ (w : ℕ). 0 ∷ masked w (drop 1 (take (row_count L) t))) (word_same L s c)

module _ (L : ℕ) (five : 5 ≤ L) (ys xs : List ℕ) (c : ℕ) (ok : Readable L xs) (ok-without : Readable L ys)
    (b : Beside (read_file L ys) (read_file L xs) c) where
  abbrev s : Sheet
  s = (read_file L ys).sheet

  names : NamesInside s
  names = every-name-inside L ys five ok-without

  abbrev free : Program
  free = free_program s (host_statements (read_file L ys).records)

  abbrev held : Program
  held = held_program s c (host_statements (read_file L xs).records)

  is_free : program_in L ys ≡ free
  is_free = program-without (read_file L ys) (read_file L xs) c b names

  is_held : program_in L xs ≡ held
  is_held = program-with (read_file L ys) (read_file L xs) c b names

  -- ---- no fact more

  closed : (t : Table) → Closed L t (rules L (program_in L ys)) → Closed L t (rules L (program_in L xs))
  closed t z =
      subst (λ (p : Program). Closed L t (rules L p)) (sym is_held)
      (closed-fewer s c (host_statements (read_file L ys).records) (host_statements (read_file L xs).records) b.host (class-within s c b.class names) L t
      (subst (λ (p : Program). Closed L t (rules L p)) is_free z))

  fewer : Within (least_table L (program_in L xs)) (least_table L (program_in L ys))
  fewer =
      table-within L (program_in L xs) (least_table L (program_in L ys))
      (closed (least_table L (program_in L ys)) (table-closed L (program_in L ys) (readable-proper L ys five ok-without)))

  count : facts L (least_table L (program_in L xs)) ≤ facts L (least_table L (program_in L ys))
  count =
      facts-within L (least_table L (program_in L xs)) (least_table L (program_in L ys))
      (table-length L (program_in L xs) (readable-proper L xs five ok) ∙ sym (table-length L (program_in L ys) (readable-proper L ys five ok-without))) fewer

  accepted : (t : Table) → Accepts L ys t → Accepts L xs t
  unfolding program_of forbidden_held
  accepted t a =
      let z = accepted-closed L five ys t a in
      let clean : cleaned L s t ≡ cleaned L (read_file L xs).sheet t = sym (ap (λ (u : Sheet). cleaned L u t) b.sheet ∙ cleaned-same L s c t) in
      closed-accepted L five xs t
      (record {
        full = z.full;
        readable = ok;
        closed = subst (λ (u : Table). Closed L u (rules L (program_in L xs))) clean (closed (cleaned L s t) z.closed);
        clear = ap (λ (p : Program). forbidden_held t p.guests) is_held ∙ sym (ap (λ (p : Program). forbidden_held t p.guests) is_free) ∙ z.clear;
      })

  confined : (rows : ℕ) → Confined (verdict_outcome L rows ys) → Confined (verdict_outcome L rows xs)
  confined rows w =
      let full = (not-refused L five ys rows (λ n at e. let z = w.1 in let q : ◌≡◌ {A = ℕ} 0 1 = cc in omega arith)).0 in
      let u = (confined-iff L ys five ok-without rows full).0 w in
      accepted-confined L xs five ok u.0 (accepted u.0 u.2) rows full

  -- ---- nothing changed

  module _ (all : HasEveryName L xs c) where
    every : (n : ℕ) → n < 32 → in_class s c n ≡ true
    every n i = subst (λ (u : Sheet). in_class u c n ≡ true) b.sheet (all n i)

    key : names_of s (inside + c) ≡ names_of s inside
    key = every-named s c b.class names every

    three : in_class s c 3 ≡ true
    three = every 3 (omega arith)

    rules-are : rules L held ≡ rules L free
    rules-are = rules-same s c (host_statements (read_file L ys).records) (host_statements (read_file L xs).records) b.host key three L

    least : least_table L held ≡ least_table L free
    unfolding least_table
    least = ap (λ (r : Rule). least_above L r (empty_table L)) rules-are

    judged-same : judged L held ≡ judged L free
    unfolding judged forbidden_held
    judged-same = rw least

    checked-same : (t : Table) → checked L held t ≡ checked L free t
    unfolding checked forbidden_held
    checked-same t = rw (cleaned-same L s c t, rules-are)

    -- what is the same of these two is the same of the files
    same : {A : Type 0} (f : Program → A) → f held ≡ f free → f (program_in L xs) ≡ f (program_in L ys)
    same f e = ap f is_held ∙ e ∙ sym (ap f is_free)

    table_same : (t : Table) → verdict_table L xs t ≡ verdict_table L ys t
    unfolding verdict_table
    table_same t =
        admitted-same L (length t) (read_file L ys) (read_file L xs) (λ n at. t) (least_table L (program_in L xs) ++ drop (row_count L) t)
        (least_table L (program_in L ys) ++ drop (row_count L) t) (ok ∙ sym ok-without)
        (λ z. ap (λ (u : Table). u ++ drop (row_count L) t) (same (least_table L) least)) (λ _. refl)

    unchanged : Unchanged L ys xs
    unfolding verdict_words verdict_outcome check_outcome
    unchanged =
        record {
          table = table_same;
          words = λ k t. ap (λ (u : Table). laid k u ++ drop (k * room_for k t) t) (table_same (rows_of k t));
          outcome = λ rows.
              admitted-same L rows (read_file L ys) (read_file L xs) refused (judged L (program_in L xs)) (judged L (program_in L ys)) (ok ∙ sym ok-without)
              (λ z. same (judged L) judged-same) (λ no. absurd (no ok-without));
          check = λ t.
              admitted-same L (length t) (read_file L ys) (read_file L xs) refused (checked L (program_in L xs) t) (checked L (program_in L ys) t)
              (ok ∙ sym ok-without) (λ z. same (λ (p : Program). checked L p t) (checked-same t)) (λ no. absurd (no ok-without));
          reached = λ u. ((λ r. (r.0, r.1 ∙ ran r.0)), λ r. (r.0, r.1 ∙ sym (ran r.0)));
        }
      where
        ran : (moves : List Move) → run (program_in L xs) moves (machine.start (program_in L xs)) ≡ run (program_in L ys) moves (machine.start (program_in L ys))
        ran moves =
            same (λ (p : Program). run p moves (machine.start p))
            (reached-held s c (host_statements (read_file L ys).records) (host_statements (read_file L xs).records) b.host key three moves)

  pub beside-held : Held L ys xs c
  beside-held =
      record {
        readable = ok;
        readable-without = ok-without;
        free = unheld-free L five ys ok-without b.unheld;
        sheet = b.sheet;
        guest = ap (λ (p : Program). p.guests) is_held ∙ sym (ap (λ (u : Sheet). held_guest u c ∷ []) b.sheet);
        fewer = fewer;
        count = count;
        confined = confined;
        accepted = accepted;
        unchanged = unchanged;
      }
