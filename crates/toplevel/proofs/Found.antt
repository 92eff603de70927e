-- A return at top level that is read can be taken out: before it stand whole records, and its value is good under the sheet that they make.
-- Assumes nothing.
use mathlib.Core.Path.{◌≡◌, sym, ap, subst, ◌∙◌}
use mathlib.Core.List.{List, ◌∷◌, ◌++◌, Memᴰ, append_assoc}
use Prim.Native.Nat.{ℕ, suc, ◌+◌}
use native.Mathlib.Omega.{arith}
use lib.ListN.{length, take, drop, length-append}
use lib.Seq.{take_at, drop_at}
use Rattle.format.specs.Sheet.{start}
use Rattle.format.specs.Fields.{Fits}
use Rattle.format.specs.Records.{Record}
use Rattle.format.specs.Reading.{Reading, read_file, Readable, written, AllWellFormed}
use Rattle.format.proofs.File.{Complete, readable-complete, complete-read}
use Rattle.format.proofs.Placed.{written-append, Place, place-of, front-well-formed}
use Rattle.toplevel.specs.Silent.{top_return, PutIn}

-- the bytes of a record taken out of a file leave those of the records before it and behind it
pub left_out : (before behind : List Record) (r : Record) (xs : List ℕ) → xs ≡ written before ++ written (r ∷ behind) → (at n : ℕ)
    → length (written before) ≡ at → at + suc (length r.body) ≡ n → take at xs ++ drop n xs ≡ written before ++ written behind
unfolding written
left_out before behind r xs bytes at n here past =
    let bs : List ℕ = r.kind ∷ r.body in
    let end : length (written before ++ bs) ≡ n = omega (arith, here, past, length-append (written before) bs) in
    ap (λ (zs : List ℕ). take at zs ++ drop n zs) bytes
    ∙ ap (λ (zs : List ℕ). zs ++ drop n (written before ++ (bs ++ written behind))) (take_at (written before) (bs ++ written behind) at here)
    ∙ ap (λ (zs : List ℕ). written before ++ zs)
    (ap (drop n) (sym (append_assoc (written before) bs (written behind))) ∙ drop_at (written before ++ bs) (written behind) n end)

-- a record that is read stands among the file's, at its position
pub found : (L : ℕ) (xs : List ℕ) (c : Complete L xs) (at : ℕ) (r : Record) → Memᴰ (at, r) (read_file L xs).records → Place r c.records at 0
found L xs c at r m = place-of c.records 0 at r (subst (λ (d : Reading). Memᴰ (at, r) d.records) (complete-read L xs c) m)

pub taken_out : (L : ℕ) (xs : List ℕ) → Readable L xs → (at v : ℕ) → Memᴰ (at, top_return v) (read_file L xs).records
    → PutIn L (take at xs ++ drop (at + 3) xs) xs
unfolding Fits written
taken_out L xs ok at v m = go (found L xs c at (top_return v) m)
  where
    c : Complete L xs
    c = readable-complete L xs ok

    go : Place (top_return v) c.records at 0 → PutIn L (take at xs ++ drop (at + 3) xs) xs
    go p =
        let w = front-well-formed L (start L) p.before p.behind (top_return v) (subst (AllWellFormed L (start L)) p.all c.well-formed) in
        let bytes : xs ≡ written p.before ++ written (top_return v ∷ p.behind) =
        c.bytes ∙ ap written p.all ∙ written-append p.before (top_return v ∷ p.behind) in
        record {
          before = p.before;
          value = v;
          behind = written p.behind;
          whole = w.0;
          good-value = w.1.fits.1.0;
          without = left_out p.before p.behind (top_return v) xs bytes at (at + 3) (omega (arith, p.place)) (omega arith);
          with_it = bytes;
          not-too-long = c.short;
        }
