-- Demand 3's second half: "A readable file, with a table of full size lent, gets leaks exactly when there is no table at all that the check accepts
-- for it, and confined exactly when there is one; after confined the check accepts for it the lent table as the verdict left it."
-- Assumes nothing.
use mathlib.Core.Path.{◌≡◌, sym, subst, ◌∙◌}
use mathlib.Core.Logic.{◌↔◌}
use mathlib.Core.List.{List, [], ◌++◌, append-nil}
use Prim.Native.Nat.{ℕ, ◌<◌, ◌≤◌}
use native.Mathlib.Decide.{ℕ_discrete}
use native.Mathlib.Omega.{arith}
use lib.ListN.{length, get_or, drop, length-append, get_or-append}
use Rattle.rows.specs.Row.{row_count}
use Rattle.answer.specs.Outcome.{refused}
use Rattle.rules.specs.Table.{Table, Within, Small}
use Rattle.rules.specs.Told.{Closed}
use Rattle.rules.proofs.Told.{closed-told, told-closed, told-monotone}
use Rattle.format.specs.Reading.{read_file, Readable}
use Rattle.analysis.specs.Rules.{rules}
use Rattle.analysis.specs.Verdict.{least_table}
use Rattle.analysis.proofs.Proper.{Proper, readable-proper}
use Rattle.analysis.proofs.Least.{table-within, table-length, table-shaped, table-closed, table-declared, table-positive, table-row}
use Rattle.program.specs.Program.{program_in}
use Rattle.verdicts.specs.Verdict.{forbidden_held, judged, verdict_outcome, verdict_table, Leaks, Confined}
use Rattle.verdicts.specs.Check.{cleaned, Accepts}
use Rattle.verdicts.proofs.Judged.{clear-confined, held-leaks, confined-clear, leaks-held}
use Rattle.verdicts.proofs.Cleaned.{cleaned-has, has-cleaned}
use Rattle.verdicts.proofs.Accept.{admitted-readable, none-held}
use Rattle.verdicts.proofs.Lists.{accepted-closed, closed-accepted}

module _ (L : ℕ) (xs : List ℕ) (five : 5 ≤ L) (ok : Readable L xs) where
  proper : Proper L (program_in L xs)
  proper = readable-proper L xs five ok

  -- what the verdict says and leaves, where nothing is refused
  pub verdict-judged : (words : ℕ) → row_count L ≤ words → verdict_outcome L words xs ≡ judged L (program_in L xs)
  unfolding verdict_outcome
  verdict-judged words full = admitted-readable L words (read_file L xs) refused (judged L (program_in L xs)) full ok

  pub table-left : (t : Table) → row_count L ≤ length t → verdict_table L xs t ≡ least_table L (program_in L xs) ++ drop (row_count L) t
  unfolding verdict_table
  table-left t full =
      admitted-readable L (length t) (read_file L xs) (λ n at. t) (least_table L (program_in L xs) ++ drop (row_count L) t) full ok

  -- ---- accepted, so confined

  -- the least table lies within every accepted one, cleaned
  pub least-accepted : (u : Table) → Accepts L xs u
      → Within (least_table L (program_in L xs)) (cleaned L (program_in L xs).sheet u)
  least-accepted u a = table-within L (program_in L xs) _ (accepted-closed L five xs u a).closed

  accepted-clear : (u : Table) → Accepts L xs u → forbidden_held (least_table L (program_in L xs)) (program_in L xs).guests ≡ 0
  accepted-clear u a =
      let q = program_in L xs in
      none-held L q proper (least_table L q) u (λ r l d z i h. (has-cleaned L q.sheet u r l (least-accepted u a r l h)).given)
      (accepted-closed L five xs u a).clear

  -- whoever made it: an accepted table means confined
  pub accepted-confined : (u : Table) → Accepts L xs u → (words : ℕ) → row_count L ≤ words → Confined (verdict_outcome L words xs)
  accepted-confined u a words full = (_, verdict-judged words full ∙ clear-confined L (program_in L xs) (accepted-clear u a))

  -- ---- confined, so accepted

  module _ (behind : Table) where
    left : Table
    left = least_table L (program_in L xs) ++ behind

    row-left : (r : ℕ) → r < row_count L → get_or left r 0 ≡ get_or (least_table L (program_in L xs)) r 0
    unfolding left
    row-left r h =
        get_or-append (least_table L (program_in L xs)) behind 0 r (omega (arith, table-length L (program_in L xs) proper))

    -- the table left, cleaned, has the facts of the least table
    up : Within (least_table L (program_in L xs)) (cleaned L (program_in L xs).sheet left)
    up r l h =
        let q = program_in L xs in
        let d = table-declared L q proper r l h in
        let i = table-row L q proper r l h in
        cleaned-has L q.sheet left r l (record { positive = table-positive L q proper r l h; row = i; declared-label = d; label = proper.below l d; given = rw (row-left r i) h })

    down : Within (cleaned L (program_in L xs).sheet left) (least_table L (program_in L xs))
    down r l h = let c = has-cleaned L (program_in L xs).sheet left r l h in rw (row-left r c.row) at c.given

    left-closed : Closed L (cleaned L (program_in L xs).sheet left) (rules L (program_in L xs))
    left-closed =
        let q = program_in L xs in
        let c = cleaned L q.sheet left in
        told-closed L c (rules L q) (λ r l h. up r l
        (closed-told L (least_table L q) (rules L q) (table-closed L q proper) r l (told-monotone L c (least_table L q) down (rules L q) r l h)))

    pub clear-accepted : forbidden_held (least_table L (program_in L xs)) (program_in L xs).guests ≡ 0
        → Accepts L xs (least_table L (program_in L xs) ++ behind)
    unfolding left
    clear-accepted e =
        let q = program_in L xs in
        closed-accepted L five xs left (record {
          full = rw length-append (omega (arith, table-length L q proper));
          readable = ok;
          closed = left-closed;
          clear = none-held L q proper left (least_table L q) (λ r l d z i h. rw (row-left r i) at h) e;
        })

  -- the least table itself, whose words are sets of labels
  least-itself : forbidden_held (least_table L (program_in L xs)) (program_in L xs).guests ≡ 0 → (u : Table) × Small L u × Accepts L xs u
  least-itself e = (
    least_table L (program_in L xs),
    (table-shaped L (program_in L xs) proper).small,
    subst (Accepts L xs) (append-nil (least_table L (program_in L xs))) (clear-accepted [] e),
  )

  -- ---- the sentences

  -- after leaks no list of numbers whatever is accepted
  pub leaks-none : (words : ℕ) → row_count L ≤ words → Leaks (verdict_outcome L words xs) → (u : Table) → Accepts L xs u → ⊥
  leaks-none words full k u a = leaks-held L (program_in L xs) (k.0, k.1, k.2, sym (verdict-judged words full) ∙ k.3) (accepted-clear u a)

  -- "after confined the check accepts for it the lent table as the verdict left it"
  pub confined-accepts : (t : Table) → row_count L ≤ length t → Confined (verdict_outcome L (length t) xs) → Accepts L xs (verdict_table L xs t)
  confined-accepts t full c =
      let clear = confined-clear L (program_in L xs) (c.0, sym (verdict-judged (length t) full) ∙ c.1) in
      subst (Accepts L xs) (sym (table-left t full)) (clear-accepted (drop (row_count L) t) clear)

  -- "confined exactly when there is one"
  pub confined-iff : (words : ℕ) → row_count L ≤ words → Confined (verdict_outcome L words xs) ↔ ((u : Table) × Small L u × Accepts L xs u)
  confined-iff words full = (some, λ a. accepted-confined a.0 a.2 words full)
    where
      some : Confined (verdict_outcome L words xs) → (u : Table) × Small L u × Accepts L xs u
      some c = least-itself (confined-clear L (program_in L xs) (c.0, sym (verdict-judged words full) ∙ c.1))

  -- "leaks exactly when there is no table at all that the check accepts for it"
  pub leaks-iff : (words : ℕ) → row_count L ≤ words → Leaks (verdict_outcome L words xs) ↔ ((u : Table) → Accepts L xs u → ⊥)
  leaks-iff words full = (leaks-none words full, λ n. go n (ℕ_discrete (forbidden_held (least_table L (program_in L xs)) (program_in L xs).guests) 0))
    where
      go : ((u : Table) → Accepts L xs u → ⊥) → Dec (forbidden_held (least_table L (program_in L xs)) (program_in L xs).guests ≡ 0)
          → Leaks (verdict_outcome L words xs)
      go n (yes e) = let a = least-itself e in absurd (n a.0 a.2)
      go n (no d) = (_, _, _, verdict-judged words full ∙ held-leaks L (program_in L xs) d)
