-- A file with a return at top level put in is read as the file without: the same sheet and refusal, the same records, those behind it three bytes
-- further on. Assumes nothing.
use mathlib.Core.Path.{◌≡◌, refl, ap, ◌∙◌}
use mathlib.Core.List.{List, [], ◌∷◌, ◌++◌, map}
use mathlib.Core.Bool.{true}
use Prim.Native.Nat.{ℕ, ◌+◌, ◌≤◌}
use native.Mathlib.Omega.{arith}
use lib.ListN.{length, length-append}
use Rattle.layout.specs.Layout.{variable}
use Rattle.format.specs.Sheet.{Sheet, start}
use Rattle.format.specs.Fields.{good, Fits}
use Rattle.format.specs.Records.{Record, WellFormed, misnamed, twice, after}
use Rattle.format.specs.Reading.{Reading, preceded, read_from, finished, read_file, longest, written, sheet_after, positioned}
use Rattle.format.proofs.Reading.{joined, read-record, written-first}
use Rattle.format.proofs.File.{short-enough}
use Rattle.format.proofs.Placed.{later, moved, moved-from, finished-is}
use Rattle.toplevel.specs.Silent.{top_return, PutIn}

-- the record may stand where its value is good
return-well-formed : (L : ℕ) (s : Sheet) (v : ℕ) → good L s variable v ≡ true → WellFormed L s (top_return v)
unfolding Fits good misnamed twice
return-well-formed L s v e = record { kind-known = omega arith; fits = (refl, (e, tt)); well-named = refl; once = refl }

-- it declares nothing, and what stands behind it is read as if it stood three bytes before
return_read : (L : ℕ) (s : Sheet) (at v : ℕ) (xs : List ℕ) → good L s variable v ≡ true
    → read_from L s at (written (top_return v ∷ []) ++ xs) ≡ preceded at (top_return v) (moved 3 (read_from L s at xs))
unfolding written after
return_read L s at v xs e =
    let three : at + 1 + 2 ≡ at + 3 = omega arith in
    read-record L s at (top_return v) xs (return-well-formed L s v e)
    ∙ ap (λ (i : ℕ). preceded at (top_return v) (read_from L s i xs)) three
    ∙ ap (preceded at (top_return v)) (moved-from L 3 s at xs)

-- ---- the whole file

-- what is read without the record, and with it
pub record Read (d e : Reading) : Type 0 where
  pub front : List (ℕ × Record)
  pub place : ℕ
  pub value : ℕ
  pub back : List (ℕ × Record)
  pub records : d.records ≡ front ++ back
  pub records-with : e.records ≡ front ++ ((place, top_return value) ∷ map (later 3) back)
  pub same-sheet : e.sheet ≡ d.sheet
  pub same-refusal : e.refusal ≡ d.refusal
  pub further-on : e.position ≡ d.position + 3

module _ (L : ℕ) (ys xs : List ℕ) (i : PutIn L ys xs) where
  abbrev at : ℕ
  at = 0 + length (written i.before)

  abbrev made : Sheet
  made = sheet_after (start L) i.before

  -- what is read of the bytes behind
  abbrev rest : Reading
  rest = read_from L made at i.behind

  shorter : length ys ≤ longest
  unfolding written
  shorter =
      omega (
        arith,
        i.not-too-long,
        ap length i.without,
        ap length i.with_it,
        length-append (written i.before) i.behind,
        length-append (written i.before) (23 ∷ 0 ∷ i.value ∷ i.behind),
      )

  without-read : read_file L ys ≡ finished (joined (positioned 0 i.before) rest)
  without-read =
      short-enough L ys shorter
      ∙ ap finished (ap (read_from L (start L) 0) i.without ∙ written-first L (start L) 0 i.before i.behind i.whole)

  with_read : read_file L xs ≡ finished (joined (positioned 0 i.before) (preceded at (top_return i.value) (moved 3 rest)))
  with_read =
      short-enough L xs i.not-too-long
      ∙ ap finished
      (ap (read_from L (start L) 0) i.with_it
      ∙ written-first L (start L) 0 i.before (written (top_return i.value ∷ []) ++ i.behind) i.whole
      ∙ ap (joined (positioned 0 i.before)) (return_read L made at i.value i.behind i.good-value))

  pub put-in-read : Read (read_file L ys) (read_file L xs)
  put-in-read =
      rw (
        without-read,
        with_read,
        finished-is (joined (positioned 0 i.before) rest),
        finished-is (joined (positioned 0 i.before) (preceded at (top_return i.value) (moved 3 rest))),
      )
      (record {
        front = positioned 0 i.before;
        place = at;
        value = i.value;
        back = rest.records;
        records = refl;
        records-with = refl;
        same-sheet = refl;
        same-refusal = refl;
        further-on = refl;
      })
