-- The sheet for n labels more. Its arrays have the start values of these labels at the end and are else the same: so it is at the start, and so it stays
-- with every record that is well formed for the fewer labels. Assumes nothing.
use mathlib.Core.Path.{◌≡◌, refl, sym, ap, ◌∙◌, subst}
use mathlib.Core.List.{List, ◌++◌, append_assoc}
use mathlib.Core.Bool.{Bool, true, false}
use Prim.Native.Nat.{ℕ, ◌+◌, ◌*◌, ◌-◌, ◌<◌, ◌≤◌}
use native.Mathlib.Omega.{arith}
use lib.ListN.{length, get_or, take, drop, replicate, replicate-append-replicate}
use lib.Seq.{set-append_left, take-append-le, drop-append-le, paste}
use lib.Dec.{eqb, leb}
use borrow.Author.Tests.{eqb-true, ltb-true}
use Rattle.layout.specs.Layout.{name, fields_of}
use Rattle.format.specs.Sheet.{Sheet, start, with_label, with_function}
use Rattle.format.specs.Fields.{good}
use Rattle.format.specs.Records.{Record, field, WellFormed, after}
use Rattle.format.proofs.Tests.{and_second}
use Rattle.format.proofs.Fields.{fits-good}
use Rattle.format.proofs.Effect.{function_of, after_by}
use Rattle.format.proofs.Later.{Sized, function-below}
use Rattle.format.proofs.Ready.{start_types, start_flags}
use Rattle.format.proofs.Functions.{start_defined}

abbrev pub widened : ℕ → Sheet → Sheet
widened n s = record {
  types = s.types ++ replicate n 0;
  flags = s.flags ++ replicate n 0;
  defined = s.defined ++ replicate n 0;
  formals = s.formals ++ replicate (7 * n) 1;
  masks = s.masks;
  owners = s.owners;
  names = s.names;
  forbidden = s.forbidden;
  profile = s.profile;
}

-- ---- the start

pub start-widened : (L n : ℕ) → 5 ≤ L → start (L + n) ≡ widened n (start L)
unfolding start
start-widened L n five = λ i.
    record {
      types = padded start_types i;
      flags = padded start_flags i;
      defined = padded start_defined i;
      formals = split (7 * (L + n)) (7 * L) (7 * n) 1 (omega arith) i;
      masks = replicate 32 0;
      owners = replicate 256 1;
      names = replicate 256 255;
      forbidden = 0;
      profile = 255;
    }
  where
    split : (m k j a : ℕ) → m ≡ k + j → replicate m a ≡ replicate k a ++ replicate j a
    split m k j a e = ap (λ (i : ℕ). replicate i a) e ∙ sym (replicate-append-replicate k j a)

    padded : (xs : List ℕ) → xs ++ replicate (L + n - 5) 0 ≡ (xs ++ replicate (L - 5) 0) ++ replicate n 0
    padded xs =
        ap (λ (ys : List ℕ). xs ++ ys) (split (L + n - 5) (L - 5) n 0 (omega arith))
        ∙ sym (append_assoc xs (replicate (L - 5) 0) (replicate n 0))

-- ---- one record more

-- a copy into the front of a list
paste-front : (xs ys : List ℕ) (at : ℕ) (vs : List ℕ) (k : ℕ) → at + k ≤ length xs → paste (xs ++ ys) at vs k ≡ paste xs at vs k ++ ys
paste-front xs ys at vs k h =
    rw (take-append-le at xs ys (omega arith), drop-append-le (at + k) xs ys h)
    (sym (append_assoc (take at xs ++ take k vs) (drop (at + k) xs) ys))

module _ (L n : ℕ) (s : Sheet) (z : Sized L s) where
  label-widened : (l t f : ℕ) → l < L → with_label (widened n s) l t f ≡ widened n (with_label s l t f)
  label-widened l t f h = λ i.
      record {
        types = set-append_left s.types (replicate n 0) l t (omega (arith, z.types-length)) i;
        flags = set-append_left s.flags (replicate n 0) l f (omega (arith, z.flags-length)) i;
        defined = s.defined ++ replicate n 0;
        formals = s.formals ++ replicate (7 * n) 1;
        masks = s.masks;
        owners = s.owners;
        names = s.names;
        forbidden = s.forbidden;
        profile = s.profile;
      }

  function-widened : (l : ℕ) (vs : List ℕ) → l < L → with_function (widened n s) l vs ≡ widened n (with_function s l vs)
  function-widened l vs h = λ i.
      record {
        types = s.types ++ replicate n 0;
        flags = s.flags ++ replicate n 0;
        defined = set-append_left s.defined (replicate n 0) l 1 (omega (arith, z.defined-length)) i;
        formals = paste-front s.formals (replicate (7 * n) 1) (7 * l) vs 7 (omega (arith, z.formals-length)) i;
        masks = s.masks;
        owners = s.owners;
        names = s.names;
        forbidden = s.forbidden;
        profile = s.profile;
      }

  -- a label that a record writes to is below L
  pub after-widened : (r : Record) → WellFormed L s r → after (widened n s) r.kind r.body ≡ widened n (after s r.kind r.body)
  unfolding after good
  after-widened r w = go (eqb k 1) (eqb k 2) refl (eqb k 3) (eqb k 4) refl (eqb k 5) (eqb k 9)
    where
      k : ℕ
      k = r.kind

      b : List ℕ
      b = r.body

      first_good : (j : ℕ) → eqb k j ≡ true → good L s (get_or (fields_of j) 0 name) (field b 0) ≡ true
      first_good j e =
          subst (λ (m : ℕ). good L s (get_or (fields_of m) 0 name) (field b 0) ≡ true) (eqb-true k j e)
          (fits-good L s (fields_of r.kind) r.body w.fits 0 w.kind-known)

      go : (one two : Bool) → eqb k 2 ≡ two → (three four : Bool) → eqb k 4 ≡ four → (five nine : Bool)
          → after_by one two three four five nine (widened n s) b ≡ widened n (after_by one two three four five nine s b)
      go true two is-two three four is-four five nine = refl
      go false true is-two three four is-four five nine =
          label-widened (field b 0) (field b 1) (field b 2) (ltb-true _ _ (and_second (leb 5 (field b 0)) _ (first_good 2 is-two)))
      go false false is-two true four is-four five nine = refl
      go false false is-two false true is-four five nine =
          function-widened (field b 0) (drop 1 b) (function-below L s (field b 0) z (function_of s (field b 0) (first_good 4 is-four)))
      go false false is-two false false is-four true nine = refl
      go false false is-two false false is-four false true = refl
      go false false is-two false false is-four false false = refl
