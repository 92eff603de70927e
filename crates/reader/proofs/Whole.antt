-- A whole file: too long, refused at a record, left without a function, or read. Assumes nothing.
use mathlib.Core.Path.{◌≡◌, refl}
use mathlib.Core.List.{List}
use mathlib.Core.Bool.{true, false}
use Prim.Native.Nat.{ℕ, ◌≤◌, ◌<◌}
use lib.ListN.{length}
use borrow.Author.Tests.{le-ltb, lt-ltb, eq-eqb, ne_eqb}
use Rattle.format.specs.Sheet.{start}
use Rattle.format.specs.Reading.{stopped, lacking, finished, longest, read_file}
use Rattle.reader.proofs.Laws.{Agrees, whole}

module _ (L : ℕ) where
  pub too_long : (xs : List ℕ) → longest < length xs → read_file L xs ≡ stopped (start L) 9 0
  unfolding read_file
  too_long xs h = rw (lt-ltb _ _ h)

  module _ (xs : List ℕ) (h : length xs ≤ longest) where
    short : read_file L xs ≡ finished (whole L xs)
    unfolding read_file
    short = rw (le-ltb _ _ h)

    same-as-read : finished (whole L xs) ≡ whole L xs → Agrees (whole L xs) (read_file L xs)
    same-as-read e = rw (short, e) (record { sheet-same = refl; refusal-same = refl; position-same = refl })

    pub refused-early : ((whole L xs).refusal ≡ 0 → ⊥) → Agrees (whole L xs) (read_file L xs)
    unfolding finished
    refused-early z = same-as-read (rw (ne_eqb _ _ z))

    module _ (z : (whole L xs).refusal ≡ 0) where
      pub read_whole : lacking (whole L xs).sheet.types (whole L xs).sheet.defined ≡ false → Agrees (whole L xs) (read_file L xs)
      unfolding finished
      read_whole e = same-as-read (rw (eq-eqb _ _ z, e))

      pub left-without : lacking (whole L xs).sheet.types (whole L xs).sheet.defined ≡ true
          → Agrees (record { records = (whole L xs).records; sheet = (whole L xs).sheet; refusal = 7; position = (whole L xs).position }) (read_file L xs)
      unfolding finished
      left-without e = rw (short, finished, eq-eqb _ _ z, e) (record { sheet-same = refl; refusal-same = refl; position-same = refl })
