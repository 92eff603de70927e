-- What `join` of the code does to a table, in each of its three cases.
-- Assumes nothing.
use mathlib.Core.Path.{◌≡◌, refl, sym, ap, ◌∙◌}
use mathlib.Core.Bool.{Bool, true, false}
use mathlib.Core.List.{List}
use Prim.Native.Nat.{ℕ, ◌+◌, ◌*◌, ◌^◌, ◌≤◌, ◌<◌}
use native.Mathlib.Omega.{arith}
use lib.Bits.{bit_and, and_lt, xor_lt}
use lib.Count.{count_trailing_zeros}
use lib.Dec.{eqb}
use lib.ListN.{get_or, set}
use borrow.Author.Tests.{eqb-true, eqb-false}
use lib.Seq.{set-get_or}
use Rattle.words.specs.Words.{bit, union, difference}
use Rattle.words.proofs.Laws.{bit-small, bit-zero, bit-difference, union-same, lowest}
use Rattle.rows.specs.Run.{number, view}
use Rattle.rows.proofs.Run.{view-length, view-row}
use Rattle.rules.specs.Table.{Has}
use Rattle.rules.specs.Round.{join}
use Rattle.rules.proofs.Join.{join_is, join-zero, join-tells}
use Rattle.lent.specs.Stored.{Stored, Joined}
use Rattle.lent.proofs.Views.{view-stored}

-- ---- what the code does

-- what the test of `is_within` says, of a row that was read
pub lacks-nothing : (s : ℕ) {v old : ℕ} {b : Bool} → v ≡ old → b ≡ eqb (difference s v) 0 → b ≡ true → difference s old ≡ 0
lacks-nothing s e t h = ap (λ (x : ℕ). difference s x) (sym e) ∙ eqb-true _ _ (sym t ∙ h)

pub lacks-some : (s : ℕ) {v old : ℕ} {b : Bool} → v ≡ old → b ≡ eqb (difference s v) 0 → b ≡ false → difference s old ≡ 0 → ⊥
lacks-some s e t h z = eqb-false _ _ (sym t ∙ h) (ap (λ (x : ℕ). difference s x) e ∙ z)

-- nothing is stored, and a table is as it was joined
unchanged : (k o r s : ℕ) (t : List ℕ) → ((n : ℕ) → r < n → view k n o t ≡ join r s (view k n o t)) → Joined k o r s t t false
unchanged k o r s t h =
    record { same_length = refl; here = h; apart = λ j a. refl; still = λ e. refl; grown = λ e. (let z : ◌≡◌ {A = ℕ} 0 1 = cc in absurd (omega arith)) }

pub joined-nowhere : (k o r s : ℕ) (t : List ℕ) → r ≡ 0 → Joined k o r s t t false
joined-nowhere k o r s t e = rw e (unchanged k o 0 s t (λ n h. sym (join-zero s (view k n o t))))

pub joined-held : (k o r s : ℕ) (t : List ℕ) → (r ≡ 0 → ⊥) → s < 2 ^ (64 * k) → number k t (o + k * r) < 2 ^ (64 * k)
    → difference s (number k t (o + k * r)) ≡ 0 → Joined k o r s t t false
joined-held k o r s t d hs ho e = unchanged k o r s t same
  where
    old : ℕ
    old = number k t (o + k * r)

    held : (l : ℕ) → bit s l ≤ bit old l
    held l = omega (arith, bit-difference s old l, ap (λ (x : ℕ). bit x l) e, bit-zero l)

    same : (n : ℕ) → r < n → view k n o t ≡ join r s (view k n o t)
    same n h =
        let a = view k n o t in
        let u : union (get_or a r 0) s ≡ get_or a r 0 = rw (view-row k n o t r h) (union-same (64 * k) old s ho hs (λ l q. held l)) in
        sym (join_is r s a (omega (arith, d)) ∙ ap (λ (x : ℕ). set a r x) u ∙ set-get_or a r 0)

pub joined-more : (k o r s : ℕ) (t u : List ℕ) → (r ≡ 0 → ⊥) → s < 2 ^ (64 * k) → number k t (o + k * r) < 2 ^ (64 * k)
    → (difference s (number k t (o + k * r)) ≡ 0 → ⊥) → Stored k (o + k * r) (union (number k t (o + k * r)) s) t u → Joined k o r s t u true
unfolding difference
joined-more k o r s t u d hs ho e st =
    record {
      same_length = st.same_length;
      here = here;
      apart = st.apart;
      still = λ f. (let z : ◌≡◌ {A = ℕ} 0 1 = cc in absurd (omega arith));
      grown = λ _ n h. (new, more n h, fresh n h);
    }
  where
    old : ℕ
    old = number k t (o + k * r)

    here : (n : ℕ) → r < n → view k n o u ≡ join r s (view k n o t)
    here n h =
        let a = view k n o t in
        view-stored n o r h st ∙ ap (λ (x : ℕ). set a r (union x s)) (sym (view-row k n o t r h)) ∙ sym (join_is r s a (omega (arith, d)))

    new : ℕ
    new = count_trailing_zeros (64 * k) (difference s old)

    new-on : bit (difference s old) new ≡ 1
    new-on = (lowest (64 * k) (difference s old) (xor_lt (64 * k) s (bit_and s old) hs (and_lt (64 * k) s old hs ho)) (omega (arith, e))).«in»

    more : (n : ℕ) → r < n → Has (view k n o u) r new
    more n h =
        rw (here n h)
        (join-tells r s (view k n o t) (omega (arith, d)) (rw (view-length k n o t) h) new (omega (arith, bit-difference s old new, new-on, bit-small s new)))

    fresh : (n : ℕ) → r < n → Has (view k n o t) r new → ⊥
    fresh n h q =
        let f : bit old new ≡ 1 = rw (view-row k n o t r h) at q in
        omega (arith, bit-difference s old new, new-on, bit-small s new)
