-- Laws of the code's sheet: the entries of the edition's labels, the part of a body that is copied, functions that are missing.
-- Assumes nothing.
use mathlib.Core.Path.{◌≡◌, refl, sym, ap, ◌∙◌}
use mathlib.Core.List.{List, [], ◌∷◌}
use mathlib.Core.Bool.{Bool, true, false, ◌&&◌, ◌||◌}
use Prim.Native.Nat.{ℕ, zero, suc, ◌+◌, ◌-◌, ◌*◌, ◌≤◌, ◌<◌}
use native.Mathlib.Omega.{arith}
use lib.ListN.{length, get_or, set, take, drop, length-take, length-drop}
use lib.Seq.{take_all, length-take-le, take-set-lt, get_or-take, paste, paste-zero, paste-suc}
use lib.Dec.{eqb}
use Rattle.std.specs.Prelude.{◌==◌}
use Rattle.std.specs.List.{list_any, zip}
use Rattle.rows.specs.Edition.{labels}
use Rattle.format.specs.Sheet as format
use Rattle.format.specs.Reading.{lacking}

-- ---- the entries of the first n labels, of which the code knows label l as the index i

pub cut-entry : (n : ℕ) (xs : List ℕ) (i l : ℕ) → i ≡ l → l < n → get_or (take n xs) l 0 ≡ get_or xs i 0
cut-entry n xs i l e h = rw e (get_or-take n xs l 0 h)

pub cut-store : (n : ℕ) (xs : List ℕ) (i l a : ℕ) → i ≡ l → l < n → take n (set xs i a) ≡ set (take n xs) l a
cut-store n xs i l a e h = rw e (take-set-lt n xs l a h)

pub cut-length : (n : ℕ) (xs : List ℕ) → length (take n xs) ≤ n
cut-length n xs = omega (arith, length-take n xs)

-- a copy is one store after the other
pub cut-copy : (n : ℕ) (xs : List ℕ) (at : ℕ) (b : List ℕ) (k : ℕ) → at + k ≤ n → n ≤ length xs → k ≤ length b
    → take n (paste xs at b k) ≡ paste (take n xs) at b k
cut-copy n xs at b zero h m r = ap (take n) (sym (paste-zero xs at b)) ∙ paste-zero (take n xs) at b
cut-copy n xs at b (suc k) h m r =
    let e : length (take n xs) ≡ n = length-take-le n xs m in
    ap (take n) (sym (paste-suc xs at b k 0 (omega arith) (omega arith)))
    ∙ take-set-lt n (paste xs at b k) (at + k) (get_or b k 0) (omega arith)
    ∙ ap (λ (ys : List ℕ). set ys (at + k) (get_or b k 0)) (cut-copy n xs at b k (omega arith) m (omega arith))
    ∙ paste-suc (take n xs) at b k 0 (omega arith) (omega arith)

-- the sheet before the first record, with no label forbidden
pub begun : (wide : Bool) (none : ℕ) → none ≡ 0
    → ◌≡◌ {A = format.Sheet}
    (record {
      types = take (labels wide) (format.start 256).types;
      flags = take (labels wide) (format.start 256).flags;
      defined = take (labels wide) (format.start 256).defined;
      formals = take (7 * labels wide) (format.start 256).formals;
      masks = (format.start 256).masks;
      owners = (format.start 256).owners;
      names = (format.start 256).names;
      forbidden = none;
      profile = (format.start 256).profile;
    })
    (format.start (labels wide))
unfolding format.start
begun true none e = rw e
begun false none e = rw e

-- the part of a body that the code hands on
pub part-is : (b : List ℕ) → take (length b - 1) (drop 1 b) ≡ drop 1 b
part-is b = let e = length-drop 1 b in take_all (length b - 1) (drop 1 b) (omega arith)

-- ---- functions that are missing

pub lacking_any : (ts ds : List ℕ) → lacking ts ds ≡ list_any (λ label. (label.0 == 2) && (label.1 == 0)) (zip ts ds)
unfolding lacking
lacking_any [] ds = refl
lacking_any (t ∷ ts) [] = refl
lacking_any (t ∷ ts) (d ∷ ds) = ap (λ (r : Bool). (eqb t 2 && eqb d 0) || r) (lacking_any ts ds)
