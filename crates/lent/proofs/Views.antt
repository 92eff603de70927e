-- Laws of tables in the lent words: what a row is, and what a store changes. Assumes nothing.
use mathlib.Core.Path.{◌≡◌, refl, sym, ap₂, ◌∙◌, subst}
use mathlib.Core.Logic.{◌⊎◌, inl, inr}
use mathlib.Core.Bool.{Bool, true, false}
use mathlib.Core.List.{List, [], ◌∷◌}
use Prim.Native.Nat.{ℕ, zero, suc, ◌+◌, ◌*◌, ◌^◌, ◌≤◌, ◌<◌}
use native.Mathlib.Decide.{ℕ_discrete, dec_lt}
use native.Mathlib.Nat.{zero-add}
use native.Mathlib.Numerals.{one-add}
use native.Mathlib.Omega.{arith}
use lib.ListN.{length, get_or, set, length-set}
use lib.Seq.{ext_get_or, get_or-set_same, get_or-set_other}
use Rattle.rows.specs.Run.{number, view}
use Rattle.rows.specs.Edition.{words}
use Rattle.rows.proofs.Run.{number_same, view-length, view-row}
use Rattle.lent.specs.Table.{place}
use Rattle.lent.specs.Stored.{Stored}

-- rows do not overlap
rows_apart : (k q r : ℕ) → q < r → k * q + k ≤ k * r
rows_apart zero q r h = omega arith
rows_apart (suc k) q r h = omega (arith, rows_apart k q r h)

-- ---- a store

-- the words vs, stored one by one from place i on
abbrev pub puts : List ℕ → ℕ → List ℕ → List ℕ
puts t i [] = t
puts t i (v ∷ vs) = puts (set t i v) (i + 1) vs

number-tail : (k v : ℕ) (vs : List ℕ) → number k (v ∷ vs) (0 + 1) ≡ number k vs 0
number-tail k v vs = number_same k (v ∷ vs) vs 1 0 (λ m h. rw (one-add m, zero-add m))

pub stored : (vs t : List ℕ) (i : ℕ) → i + length vs ≤ length t → Stored (length vs) i (number (length vs) vs 0) t (puts t i vs)
unfolding number
stored [] t i h = record { same_length = refl; here = refl; apart = λ j a. refl }
stored (v ∷ vs) t i h =
    let s = stored vs (set t i v) (i + 1) (rw length-set (omega arith)) in
    record {
      same_length = s.same_length ∙ length-set t i v;
      here =
          ap₂ (λ (x y : ℕ). x * 2 ^ 64 + y) (s.here ∙ sym (number-tail (length vs) v vs))
          (s.apart i (inl (omega arith)) ∙ get_or-set_same t i v 0 (omega arith));
      apart = λ j a. s.apart j (later j a) ∙ get_or-set_other t i j v 0 (λ e. differ j a e);
    }
  where
    later : (j : ℕ) → (j < i) ⊎ (i + suc (length vs) ≤ j) → (j < i + 1) ⊎ (i + 1 + length vs ≤ j)
    later j (inl a) = inl (omega arith)
    later j (inr a) = inr (omega arith)

    differ : (j : ℕ) → (j < i) ⊎ (i + suc (length vs) ≤ j) → j ≡ i → ⊥
    differ j (inl a) e = omega arith
    differ j (inr a) e = omega arith

-- another row stays
pub other_row : {k v : ℕ} {t u : List ℕ} (o r q : ℕ) → (q ≡ r → ⊥) → Stored k (o + k * r) v t u → number k u (o + k * q) ≡ number k t (o + k * q)
other_row {k} {v} {t} {u} o r q d s = number_same k u t (o + k * q) (o + k * q) (λ m i. s.apart (o + k * q + m) (side m i (dec_lt q r)))
  where
    side : (m : ℕ) → m < k → Dec (q < r) → (o + k * q + m < o + k * r) ⊎ (o + k * r + k ≤ o + k * q + m)
    side m i (yes l) = inl (omega (arith, rows_apart k q r l))
    side m i (no l) = inr (omega (arith, rows_apart k r q (omega (arith, d, l))))

pub view-stored : {k v : ℕ} {t u : List ℕ} (n o r : ℕ) → r < n → Stored k (o + k * r) v t u → view k n o u ≡ set (view k n o t) r v
view-stored {k} {v} {t} {u} n o r h s =
    ext_get_or 0 (view k n o u) (set (view k n o t) r v) (view-length k n o u ∙ sym (length-set (view k n o t) r v ∙ view-length k n o t))
    (λ q i. row q (subst (λ (x : ℕ). q < x) (view-length k n o u) i) (ℕ_discrete q r))
  where
    long : r < length (view k n o t)
    long = rw (view-length k n o t) h

    row : (q : ℕ) → q < n → Dec (q ≡ r) → get_or (view k n o u) q 0 ≡ get_or (set (view k n o t) r v) q 0
    row q i (yes e) = rw e (view-row k n o u r h ∙ s.here ∙ sym (get_or-set_same (view k n o t) r v 0 long))
    row q i (no d) = view-row k n o u q i ∙ other_row o r q d s ∙ sym (view-row k n o t q i) ∙ sym (get_or-set_other (view k n o t) r q v 0 d)

-- ---- the width

-- what a row asks of the lent words, once the width is known
pub fits_wide : (wide : Bool) (o r n : ℕ) → wide ≡ true → place wide o r + words wide ≤ n → o + 4 * r + 4 ≤ n
fits_wide wide o r n e h = rw e at h

pub fits_narrow : (wide : Bool) (o r n : ℕ) → wide ≡ false → place wide o r + words wide ≤ n → o + r + 1 ≤ n
fits_narrow wide o r n e h = let narrow : place false o r + words false ≤ n = rw e at h in omega arith
