-- The operations refuse exactly what document 01's lists say (specs/Lists.antt), with that number and at that position, and nothing else.
-- Assumes nothing.
use mathlib.Core.Path.{◌≡◌, refl, sym, ap, subst, ◌∙◌}
use mathlib.Core.Logic.{◌⊎◌, inl, inr, ⊎_elim, ◌↔◌}
use mathlib.Core.List.{List}
use mathlib.Core.Bool.{false}
use Prim.Native.Nat.{ℕ, ◌^◌, ◌<◌, ◌≤◌}
use native.Mathlib.Decide.{dec_lt, ℕ_discrete}
use native.Mathlib.Omega.{arith}
use lib.ListN.{length}
use lib.Dec.{eqb}
use lib.Count.{count_trailing_zeros}
use borrow.Author.Tests.{eq-eqb, ne_eqb, le-ltb, lt-ltb}
use Rattle.rows.specs.Row.{row_count}
use Rattle.answer.specs.Outcome.{Outcome, confined, leaks, accepted, refused, holds, choice, none_helps}
use Rattle.rules.specs.Table.{Table}
use Rattle.rules.specs.Told.{Closed}
use Rattle.rules.specs.Gap.{gap}
use Rattle.format.specs.Reading.{read_file, Readable, Concatenation}
use Rattle.format.proofs.Readable.{readable-ready}
use Rattle.format.proofs.File.{file-refusal-small}
use Rattle.format.proofs.Missing.{readable-iff}
use Rattle.format.proofs.Refusals.{bad-file-iff}
use Rattle.program.specs.Program.{program_of, program_in}
use Rattle.analysis.specs.Rules.{rules}
use Rattle.analysis.proofs.Proper.{Proper, readable-proper}
use Rattle.analysis.proofs.Naming.{told-in-rows}
use Rattle.verdicts.specs.Verdict.{admitted, forbidden_held, judged, verdict_outcome, Leaks, Confined, Refused}
use Rattle.verdicts.specs.Check.{cleaned, Lacks, checked, check_outcome, Accepts, Holds}
use Rattle.verdicts.specs.Lists.{VerdictRefuses, table-short, file-bad, NoneLacks, ForbiddenHeld, LowestForbidden, CheckRefuses, as-the-verdict, row-lacks, CheckHolds, Acceptable}
use Rattle.verdicts.proofs.Cleaned.{cleaned-small}
use Rattle.verdicts.proofs.Accept.{admitted-readable, Admission, short, unread, taken, admission, gap-lacks, gap-first, no_gap, closed-gap}
use Rattle.verdicts.proofs.Judged.{judged-cases, guest-three, none-forbidden, forbidden-none, lowest-forbidden, lowest-only}

-- ---- what both operations refuse

module _ (L : ℕ) (five : 5 ≤ L) (xs : List ℕ) (words : ℕ) where
  pub listed-refused : {A : Type 0} (refuse : ℕ → ℕ → A) (a : A) (n at : ℕ) → VerdictRefuses L xs words n at
      → admitted L words (read_file L xs) refuse a ≡ refuse n at
  listed-refused refuse a n at (table-short h e p) = rw (lt-ltb words (row_count L) h, e, p)
  listed-refused refuse a n at (file-bad h b) =
      let d = (bad-file-iff L five xs n at).0 b in
      let z : eqb (read_file L xs).refusal 0 ≡ false = ne_eqb (read_file L xs).refusal 0 (λ q. omega (arith, d)) in
      rw (le-ltb words (row_count L) h, z, d.1, d.2)

  -- what is listed is refused, else the answer is a
  abbrev Taken : Outcome → Outcome → Type 0
  Taken a o = ((n at : ℕ) × VerdictRefuses L xs words n at × (o ≡ refused n at)) ⊎ ((row_count L ≤ words) × Readable L xs × (o ≡ a))

  listed : (a : Outcome) → Taken a (admitted L words (read_file L xs) refused a)
  listed a = go (admission L words (read_file L xs) a)
    where
      go : {o : Outcome} → Admission L words (read_file L xs) a o → Taken a o
      go (short h e) = inl (8, 0, table-short h refl refl, e)
      go (unread h d e) = inl (_, _, file-bad h ((bad-file-iff L five xs _ _).1 (omega arith, refl, refl)), e)
      go (taken h ok e) = inr (h, ok, e)

  listed-number : (n at : ℕ) → VerdictRefuses L xs words n at → (1 ≤ n) × (n ≤ 9)
  listed-number n at (table-short h e p) = (omega arith, omega arith)
  listed-number n at (file-bad h b) = let d = (bad-file-iff L five xs n at).0 b in (d.0, omega (arith, d.1, file-refusal-small L xs))

  -- ---- the verdict

  -- what an answer of the verdict says of file and table: a listed refusal, or that both are taken; the verdict has no other answer
  abbrev VerdictSays : Outcome → Type 0
  VerdictSays (refused n at) = VerdictRefuses L xs words n at
  VerdictSays (confined n) = (row_count L ≤ words) × Readable L xs
  VerdictSays (leaks l g n) = (row_count L ≤ words) × Readable L xs
  VerdictSays (accepted n) = ⊥
  VerdictSays (holds l g) = ⊥
  VerdictSays (choice w) = ⊥
  VerdictSays none_helps = ⊥

  verdict-says : VerdictSays (verdict_outcome L words xs)
  unfolding verdict_outcome
  verdict-says = go (listed (judged L (program_in L xs)))
    where
      of-judgment : {o : Outcome} → Confined o ⊎ Leaks o → (row_count L ≤ words) × Readable L xs → VerdictSays o
      of-judgment (inl c) h = subst VerdictSays (sym c.1) h
      of-judgment (inr k) h = subst VerdictSays (sym k.3) h

      go : {o : Outcome} → Taken (judged L (program_in L xs)) o → VerdictSays o
      go (inl r) = subst VerdictSays (sym r.3) r.2
      go (inr r) = subst VerdictSays (sym r.2) (of-judgment (judged-cases L (program_in L xs)) (r.0, r.1))

  pub verdict-refuses : (n at : ℕ) → (verdict_outcome L words xs ≡ refused n at) ↔ VerdictRefuses L xs words n at
  unfolding verdict_outcome
  verdict-refuses n at = ((λ e. subst VerdictSays e verdict-says), listed-refused refused (judged L (program_in L xs)) n at)

  -- "confined, leaks .., or a numbered refusal"
  pub verdict-answers : Confined (verdict_outcome L words xs) ⊎ (Leaks (verdict_outcome L words xs) ⊎ Refused 9 (verdict_outcome L words xs))
  verdict-answers = go (verdict_outcome L words xs) verdict-says
    where
      go : (o : Outcome) → VerdictSays o → Confined o ⊎ (Leaks o ⊎ Refused 9 o)
      go (refused n at) r = let d = listed-number n at r in inr (inr (n, at, d.0, d.1, refl))
      go (confined n) r = inl (n, refl)
      go (leaks l g n) r = inr (inl (l, g, n, refl))
      go (accepted n) r = absurd r
      go (holds l g) r = absurd r
      go (choice w) r = absurd r
      go none_helps r = absurd r

  -- a table of full size and a readable file, or a refusal
  taken-or-refused : ((row_count L ≤ words) × Readable L xs) ⊎ Refused 9 (verdict_outcome L words xs)
  taken-or-refused =
      ⊎_elim
      (λ c. inl (subst VerdictSays c.1 verdict-says))
      (⊎_elim (λ k. inl (subst VerdictSays k.3 verdict-says)) inr)
      verdict-answers

  pub not-refused : ((n at : ℕ) → verdict_outcome L words xs ≡ refused n at → ⊥) → (row_count L ≤ words) × Readable L xs
  not-refused none = ⊎_elim (λ h. h) (λ r. absurd (none r.0 r.1 r.4)) taken-or-refused

  -- refused exactly where the table is too short or the file no concatenation of well-formed records
  pub refused-exactly : Refused 9 (verdict_outcome L words xs) ↔ ((words < row_count L) ⊎ (Concatenation L xs → ⊥))
  refused-exactly = ((λ r. why r.0 r.1 ((verdict-refuses r.0 r.1).0 r.4)), λ h. ⊎_elim (λ k. absurd (neither h k)) (λ r. r) taken-or-refused)
    where
      why : (n at : ℕ) → VerdictRefuses L xs words n at → (words < row_count L) ⊎ (Concatenation L xs → ⊥)
      why n at (table-short h e p) = inl h
      why n at (file-bad h b) = inr (λ c. omega (arith, (bad-file-iff L five xs n at).0 b, (readable-iff L five xs).1 c))

      neither : (words < row_count L) ⊎ (Concatenation L xs → ⊥) → (row_count L ≤ words) × Readable L xs → ⊥
      neither (inl h) k = omega (arith, k.0)
      neither (inr h) k = h ((readable-iff L five xs).0 k.1)

-- ---- the check

-- what acceptance comes to for the rules: the cleaned table is closed, and no forbidden label is in row 1
pub record ClosedAndClear (L : ℕ) (xs : List ℕ) (t : Table) : Type 0 where
  pub full : row_count L ≤ length t
  pub readable : Readable L xs
  pub closed : Closed L (cleaned L (program_in L xs).sheet t) (rules L (program_in L xs))
  pub clear : forbidden_held t (program_in L xs).guests ≡ 0

module _ (L : ℕ) (five : 5 ≤ L) (xs : List ℕ) (t : Table) where
  row : ℕ
  row = gap L (cleaned L (program_in L xs).sheet t) (rules L (program_in L xs))

  held : ℕ
  held = forbidden_held t (program_in L xs).guests

  -- what the check says of a readable file
  says-ten : row < row_count L → checked L (program_in L xs) t ≡ refused 10 row
  unfolding checked row
  says-ten h = rw (lt-ltb row (row_count L) h)

  says-eleven : row_count L ≤ row → (held ≡ 0 → ⊥) → checked L (program_in L xs) t ≡ holds (count_trailing_zeros L held) 3
  unfolding checked row held
  says-eleven h d = rw (le-ltb row (row_count L) h, ne_eqb held 0 d, guest-three L xs)

  says-accepted : row_count L ≤ row → held ≡ 0 → checked L (program_in L xs) t ≡ accepted 0
  unfolding checked row held
  says-accepted h e = rw (le-ltb row (row_count L) h, eq-eqb held 0 e)

  check-is : row_count L ≤ length t → Readable L xs → check_outcome L xs t ≡ checked L (program_in L xs) t
  unfolding check_outcome
  check-is full ok = admitted-readable L (length t) (read_file L xs) refused (checked L (program_in L xs) t) full ok

  module _ (ok : Readable L xs) where
    proper : Proper L (program_in L xs)
    proper = readable-proper L xs five ok

    forbidden-below : (read_file L xs).sheet.forbidden < 2 ^ L
    forbidden-below = (readable-ready L xs five ok).made.forbidden.forbidden-below

    -- the row of 10 is the lowest that lacks something, and there is none exactly where there is no such row
    row-lacking : row < row_count L → Lacks L (program_in L xs) t row
    unfolding row
    row-lacking = gap-lacks L (program_in L xs) proper t

    row_first : (r : ℕ) → Lacks L (program_in L xs) t r → row ≤ r
    unfolding row
    row_first = gap-first L (program_in L xs) proper t

    lacking-below : (r : ℕ) → Lacks L (program_in L xs) t r → r < row_count L
    lacking-below r e = (told-in-rows L (program_in L xs) proper _ (cleaned-small L (program_in L xs).sheet t) r e.0 e.1).1

    none-lacks : row_count L ≤ row → NoneLacks L xs t
    none-lacks h r e = omega (arith, row_first r e, lacking-below r e)

    no_row : NoneLacks L xs t → row_count L ≤ row
    no_row none = elim (dec_lt row (row_count L)) [ yes h ↦ absurd (none row (row-lacking h)) | no h ↦ omega arith ]

    -- the label of 11 is the lowest forbidden one in row 1, and there is none exactly where the word of such labels is empty
    label-lowest : (held ≡ 0 → ⊥) → LowestForbidden (program_in L xs).sheet t (count_trailing_zeros L held)
    unfolding held program_of
    label-lowest = lowest-forbidden L (read_file L xs).sheet t forbidden-below

    label-none : held ≡ 0 → (l : ℕ) → ForbiddenHeld (program_in L xs).sheet t l → ⊥
    unfolding held program_of
    label-none = none-forbidden (read_file L xs).sheet t

    none-label : ((l : ℕ) → ForbiddenHeld (program_in L xs).sheet t l → ⊥) → held ≡ 0
    unfolding held program_of
    none-label = forbidden-none L (read_file L xs).sheet t forbidden-below

  -- ---- what is listed is said

  check-said : (n at : ℕ) → CheckRefuses L xs t n at → check_outcome L xs t ≡ refused n at
  unfolding check_outcome
  check-said n at (as-the-verdict r) = listed-refused L five xs (length t) refused (checked L (program_in L xs) t) n at r
  check-said n at (row-lacks full ok lacks first e) =
      let low : row ≤ at = row_first ok at lacks in
      let h : row < row_count L = omega (arith, lacking-below ok at lacks) in
      let high : at ≤ row = first row (row-lacking ok h) in
      let p : row ≡ at = omega arith in
      check-is full ok ∙ says-ten h ∙ rw (p, e)

  holding-said : (l g : ℕ) → CheckHolds L xs t l g → check_outcome L xs t ≡ holds l g
  holding-said l g h =
      let ok = h.readable in
      let d : held ≡ 0 → ⊥ = λ z. label-none ok z l h.lowest.held in
      let p : count_trailing_zeros L held ≡ l = lowest-only (program_in L xs).sheet t _ l (label-lowest ok d) h.lowest in
      check-is h.full_size ok ∙ says-eleven (no_row ok h.none-lacks) d ∙ rw (p, h.guest-three)

  -- "as it does exactly where its list in document 01 has no refusal"
  acceptable-accepted : Acceptable L xs t → Accepts L xs t
  acceptable-accepted a =
      check-is a.full_size a.readable ∙ says-accepted (no_row a.readable a.none-lacks) (none-label a.readable a.none-held)

  -- ---- and nothing else is

  -- what an answer says of file and table: a listed refusal, 11, or that nothing in the list is against them; the check has no other answer
  abbrev CheckSays : Outcome → Type 0
  CheckSays (refused n at) = CheckRefuses L xs t n at × (1 ≤ n) × (n ≤ 10)
  CheckSays (holds l g) = CheckHolds L xs t l g
  CheckSays (accepted n) = Acceptable L xs t × (n ≡ 0)
  CheckSays (confined n) = ⊥
  CheckSays (leaks l g n) = ⊥
  CheckSays (choice w) = ⊥
  CheckSays none_helps = ⊥

  examined : CheckSays (check_outcome L xs t)
  unfolding check_outcome
  examined = go (listed L five xs (length t) (checked L (program_in L xs) t))
    where
      read : row_count L ≤ length t → Readable L xs → Dec (row < row_count L) → Dec (held ≡ 0) → CheckSays (checked L (program_in L xs) t)
      read full ok (yes h) _ = subst CheckSays (sym (says-ten h)) (row-lacks full ok (row-lacking ok h) (row_first ok) refl, omega arith, omega arith)
      read full ok (no h) (yes z) =
          let b : row_count L ≤ row = omega arith in
          subst CheckSays (sym (says-accepted b z)) (record { full_size = full; readable = ok; none-lacks = none-lacks ok b; none-held = label-none ok z }, refl)
      read full ok (no h) (no d) =
          let b : row_count L ≤ row = omega arith in
          let at : CheckHolds L xs t (count_trailing_zeros L held) 3 =
          record { full_size = full; readable = ok; none-lacks = none-lacks ok b; lowest = label-lowest ok d; guest-three = refl } in
          subst CheckSays (sym (says-eleven b d)) at

      go : {o : Outcome} → Taken L five xs (length t) (checked L (program_in L xs) t) o → CheckSays o
      go (inl r) =
          let d = listed-number L five xs (length t) r.0 r.1 r.2 in
          subst CheckSays (sym r.3) (as-the-verdict r.2, d.0, omega (arith, d.1))
      go (inr r) = subst CheckSays (sym r.2) (read r.0 r.1 (dec_lt row (row_count L)) (ℕ_discrete held 0))

  pub check-refuses : (n at : ℕ) → (check_outcome L xs t ≡ refused n at) ↔ CheckRefuses L xs t n at
  check-refuses n at = ((λ e. (subst CheckSays e examined).0), check-said n at)

  pub check-holds : (l g : ℕ) → (check_outcome L xs t ≡ holds l g) ↔ CheckHolds L xs t l g
  check-holds l g = ((λ e. subst CheckSays e examined), holding-said l g)

  pub check-accepts : Accepts L xs t ↔ Acceptable L xs t
  check-accepts = ((λ e. (subst CheckSays e examined).0), acceptable-accepted)

  -- "accepted or a refusal"
  pub check-answers : Accepts L xs t ⊎ (Refused 10 (check_outcome L xs t) ⊎ Holds (check_outcome L xs t))
  check-answers = go (check_outcome L xs t) examined
    where
      go : (o : Outcome) → CheckSays o → (o ≡ accepted 0) ⊎ (Refused 10 o ⊎ Holds o)
      go (refused n at) s = inr (inl (n, at, s.1, s.2, refl))
      go (holds l g) s = inr (inr (l, g, refl))
      go (accepted n) s = inl (ap accepted s.1)
      go (confined n) s = absurd s
      go (leaks l g n) s = absurd s
      go (choice w) s = absurd s
      go none_helps s = absurd s

  -- ---- the same in the terms of the rules

  -- no row lacks anything exactly where the cleaned table is closed
  pub accepted-closed : Accepts L xs t → ClosedAndClear L xs t
  unfolding row held
  accepted-closed e =
      let a = check-accepts.0 e in
      record {
        full = a.full_size;
        readable = a.readable;
        closed = no_gap L (program_in L xs) (proper a.readable) t (no_row a.readable a.none-lacks);
        clear = none-label a.readable a.none-held;
      }

  pub closed-accepted : ClosedAndClear L xs t → Accepts L xs t
  unfolding row held
  closed-accepted c =
      check-is c.full c.readable
      ∙ says-accepted (omega (arith, closed-gap L (program_in L xs) (proper c.readable) t c.closed)) c.clear
