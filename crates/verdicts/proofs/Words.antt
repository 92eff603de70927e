-- What the verdict leaves in the lent words, k to a row: their rows are its table, a refusal changes no word, and in rows of one word they are the table.
-- Assumes nothing.
use mathlib.Core.Path.{◌≡◌, sym, ap, subst, ◌∙◌}
use mathlib.Core.Logic.{◌⊎◌, inl, inr, ⊎_elim}
use mathlib.Core.List.{List, ◌++◌, append_assoc}
use Prim.Native.Nat.{ℕ, ◌+◌, ◌-◌, ◌*◌, ◌^◌, ◌≤◌, ◌<◌}
use native.Mathlib.Decide.{dec_lt, ℕ_discrete}
use native.Mathlib.Nat.{div-add-mod, mod-lt, lt_of_lt_of_le}
use native.Mathlib.Omega.{arith}
use lib.ListN.{length, get_or, take, drop, length-append, length-drop, take-append-drop, get_or-append, get_or-eq_default}
use lib.Pow.{pow_pos, pow_mono}
use lib.Seq.{get_or-append-add, get_or-drop, drop_at, length-take-le}
use borrow.Author.Tests.{lt-ltb, le-ltb, ne_eqb}
use Rattle.rows.specs.Row.{row_count}
use Rattle.rows.specs.Run.{Words, room_for, rows_of, laid}
use Rattle.rows.proofs.Run.{number_lt, view-length, view-row, laid-length, laid-append, laid-rows, rows-laid, rows-one}
use Rattle.rules.specs.Table.{Table, Small}
use Rattle.format.specs.Reading.{read_file, Readable}
use Rattle.analysis.specs.Verdict.{least_table}
use Rattle.analysis.proofs.Proper.{readable-proper}
use Rattle.analysis.proofs.Least.{table-length, table-shaped}
use Rattle.program.specs.Program.{program_in}
use Rattle.verdicts.specs.Verdict.{verdict_table, verdict_words}
use Rattle.verdicts.proofs.Demand.{table-left}
use Rattle.verdicts.proofs.Left.{length-left}

-- ---- no row is larger than its words

-- the rows of words are sets of 64 * k labels
pub rows-small : (k : ℕ) (t : List ℕ) → Words t → Small (64 * k) (rows_of k t)
rows-small k t s r = go (dec_lt r (room_for k t))
  where
    go : Dec (r < room_for k t) → get_or (rows_of k t) r 0 < 2 ^ (64 * k)
    go (yes h) = rw (view-row k (room_for k t) 0 t r h) (number_lt k t _ s)
    go (no d) =
        let past : length (rows_of k t) ≤ r = rw (view-length k (room_for k t) 0 t) (omega (arith, d)) in
        rw (get_or-eq_default (rows_of k t) 0 past) (pow_pos (64 * k))

-- a table whose first rows are those of x, and the others of t
append-small : (n : ℕ) (x t : Table) (m : ℕ) → Small n x → Small n t → Small n (x ++ drop m t)
append-small n x t m sx st r = go (dec_lt r (length x))
  where
    go : Dec (r < length x) → get_or (x ++ drop m t) r 0 < 2 ^ n
    go (yes h) = rw (get_or-append x (drop m t) 0 r h) (sx r)
    go (no d) =
        let e : length x + (r - length x) ≡ r = omega (arith, d) in
        subst (λ (i : ℕ). get_or (x ++ drop m t) i 0 < 2 ^ n) e
        (rw (get_or-append-add x (drop m t) (r - length x) 0, get_or-drop m t (r - length x) 0) (st (m + (r - length x))))

module _ (L : ℕ) (five : 5 ≤ L) (xs : List ℕ) where
  -- too short a table, or a file that is not readable: as it was
  pub short-left : (t : Table) → length t < row_count L → verdict_table L xs t ≡ t
  unfolding verdict_table
  short-left t h = rw (lt-ltb _ _ h)

  pub unread-left : (t : Table) → row_count L ≤ length t → ((read_file L xs).refusal ≡ 0 → ⊥) → verdict_table L xs t ≡ t
  unfolding verdict_table
  unread-left t h z = rw (le-ltb _ _ h, ne_eqb _ _ z)

  pub left-small : (n : ℕ) (t : Table) → L ≤ n → Small n t → Small n (verdict_table L xs t)
  left-small n t wide s = go (dec_lt (length t) (row_count L)) (ℕ_discrete (read_file L xs).refusal 0)
    where
      go : Dec (length t < row_count L) → Dec ((read_file L xs).refusal ≡ 0) → Small n (verdict_table L xs t)
      go (yes h) e = rw (short-left t h) s
      go (no d) (no z) = rw (unread-left t (omega (arith, d)) z) s
      go (no d) (yes ok) =
          rw (table-left L xs five ok t (omega (arith, d)))
          (append-small n (least_table L (program_in L xs)) t (row_count L)
          (λ r. lt_of_lt_of_le ((table-shaped L (program_in L xs) (readable-proper L xs five ok)).small r) (pow_mono wide)) s)

-- ---- words and table

left_over : (k : ℕ) (t : List ℕ) → 0 < k → length (drop (k * room_for k t) t) < k
left_over k t h = omega (arith, length-drop (k * room_for k t) t, div-add-mod (length t) k, mod-lt (length t) h)

module _ (k L : ℕ) (some : 0 < k) (wide : L ≤ 64 * k) (five : 5 ≤ L) (xs t : List ℕ) (s : Words t) where
  -- the rows of the words that are left are the verdict's table
  pub words-rows : rows_of k (verdict_words k L xs t) ≡ verdict_table L xs (rows_of k t)
  unfolding verdict_words
  words-rows =
      rows-laid k (verdict_table L xs (rows_of k t)) (drop (k * room_for k t) t) (left_over k t some)
      (left-small L five xs (64 * k) (rows_of k t) wide (rows-small k t s))

  -- where the table stays, so do the words
  pub words_same : verdict_table L xs (rows_of k t) ≡ rows_of k t → verdict_words k L xs t ≡ t
  unfolding verdict_words
  words_same e = rw e (laid-rows k t s)

  -- the words are as they were, or the table was long enough and the file readable
  words-cases : (verdict_words k L xs t ≡ t) ⊎ ((row_count L ≤ length (rows_of k t)) × Readable L xs)
  words-cases = go (dec_lt (length (rows_of k t)) (row_count L)) (ℕ_discrete (read_file L xs).refusal 0)
    where
      go : Dec (length (rows_of k t) < row_count L) → Dec ((read_file L xs).refusal ≡ 0)
          → (verdict_words k L xs t ≡ t) ⊎ ((row_count L ≤ length (rows_of k t)) × Readable L xs)
      go (yes h) e = inl (words_same (short-left L five xs (rows_of k t) h))
      go (no d) (no z) = inl (words_same (unread-left L five xs (rows_of k t) (omega (arith, d)) z))
      go (no d) (yes ok) = inr (omega (arith, d), ok)

  -- behind a full table every word is as it was
  pub words-beyond : drop (k * row_count L) (verdict_words k L xs t) ≡ drop (k * row_count L) t
  unfolding verdict_words
  words-beyond = ⊎_elim (λ e. ap (drop (k * row_count L)) e) (λ r. read r.0 r.1) words-cases
    where
      rest : List ℕ
      rest = drop (k * room_for k t) t

      -- the words behind the first rows x of a table
      behind : (x y : Table) → length x ≡ row_count L → drop (k * row_count L) (laid k (x ++ y) ++ rest) ≡ laid k y ++ rest
      behind x y e =
          ap (λ (w : List ℕ). drop (k * row_count L) (w ++ rest)) (laid-append k x y)
          ∙ ap (drop (k * row_count L)) (append_assoc (laid k x) (laid k y) rest)
          ∙ drop_at (laid k x) (laid k y ++ rest) (k * row_count L) (laid-length k x ∙ ap (λ (n : ℕ). k * n) e)

      read : row_count L ≤ length (rows_of k t) → Readable L xs → drop (k * row_count L) (verdict_words k L xs t) ≡ drop (k * row_count L) t
      read full ok =
          ap (λ (x : Table). drop (k * row_count L) (laid k x ++ rest)) (table-left L xs five ok (rows_of k t) full)
          ∙ behind (least_table L (program_in L xs)) (drop (row_count L) (rows_of k t)) (table-length L (program_in L xs) (readable-proper L xs five ok))
          ∙ sym (behind (take (row_count L) (rows_of k t)) (drop (row_count L) (rows_of k t)) (length-take-le (row_count L) (rows_of k t) full))
          ∙ ap (λ (x : Table). drop (k * row_count L) (laid k x ++ rest)) (take-append-drop (row_count L) (rows_of k t))
          ∙ ap (drop (k * row_count L)) (laid-rows k t s)

  pub words-length : length (verdict_words k L xs t) ≡ length t
  unfolding verdict_words
  words-length = ⊎_elim (ap length) (λ r. read r.0 r.1) words-cases
    where
      long : (x : Table) → length (laid k x ++ drop (k * room_for k t) t) ≡ k * length x + length (drop (k * room_for k t) t)
      long x = length-append (laid k x) (drop (k * room_for k t) t) ∙ ap (λ (n : ℕ). n + length (drop (k * room_for k t) t)) (laid-length k x)

      read : row_count L ≤ length (rows_of k t) → Readable L xs → length (verdict_words k L xs t) ≡ length t
      read full ok =
          long (verdict_table L xs (rows_of k t))
          ∙ ap (λ (n : ℕ). k * n + length (drop (k * room_for k t) t)) (length-left L xs five ok (rows_of k t) full)
          ∙ sym (long (rows_of k t)) ∙ ap length (laid-rows k t s)

-- rows of one word: the words are the table
pub words-one : (xs t : List ℕ) → Words t → verdict_words 1 64 xs t ≡ verdict_table 64 xs t
words-one xs t s =
    sym (rows-one (verdict_words 1 64 xs t))
    ∙ words-rows 1 64 (omega arith) (omega arith) (omega arith) xs t s
    ∙ ap (verdict_table 64 xs) (rows-one t)
