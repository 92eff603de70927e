-- The forbidden labels, a set that is held as bits of a number, at the start and as records add to it. Assumes nothing.
use mathlib.Core.Path.{◌≡◌, sym}
use mathlib.Core.Logic.{◌↔◌, ◌⊎◌, inl, inr}
use mathlib.Core.List.Memᴰ
use mathlib.Core.List.{List, [], ◌∷◌}
use Prim.Native.Nat.{ℕ, ◌^◌, ◌<◌}
use native.Mathlib.Omega.{arith}
use native.Mathlib.Decide.{ℕ_discrete}
use lib.Pow.{pow_pos, pow-lt}
use Rattle.words.specs.Words.{bit, union}
use Rattle.words.proofs.Laws.{bit-union, bit-pow-same, bit-pow-other, bit-small, bit-zero, union-lt}
use Rattle.format.specs.Sheet.{start}
use Rattle.format.specs.Records.{Record}
use Rattle.format.proofs.Ready.{Among, Forbidden}
use Rattle.format.proofs.Among.{followed, among-more, among-last, among-followed, among-other}

-- one bit more
bit_added : (w m j : ℕ) → (bit (union w (2 ^ m)) j ≡ 1) ↔ ((bit w j ≡ 1) ⊎ (j ≡ m))
bit_added w m j = (λ e. to e (ℕ_discrete j m), from)
  where
    to : bit (union w (2 ^ m)) j ≡ 1 → Dec (j ≡ m) → (bit w j ≡ 1) ⊎ (j ≡ m)
    to e (yes q) = inr q
    to e (no n) = inl (omega (arith, bit-union w (2 ^ m) j, bit-pow-other m j n))

    from : (bit w j ≡ 1) ⊎ (j ≡ m) → bit (union w (2 ^ m)) j ≡ 1
    from (inl e) = omega (arith, bit-union w (2 ^ m) j, bit-small (2 ^ m) j)
    from (inr q) = rw q (omega (arith, bit-union w (2 ^ m) m, bit-pow-same m, bit-small w m))

pub forbidden-start : (L : ℕ) → Forbidden L (start L).forbidden []
unfolding start
forbidden-start L =
    record {
      forbidden-below = pow_pos L;
      forbidden-record = λ l. ((λ e. absurd (omega (arith, bit-zero l))), λ a. absurd (Memᴰ.not-nil a.member));
    }

pub forbidden-more : {L w : ℕ} (ps : List (ℕ × Record)) (at k : ℕ) (b : List ℕ) → (k ≡ 3 → ⊥) → Forbidden L w ps → Forbidden L w (followed ps at k b)
forbidden-more ps at k b h x =
    record {
      forbidden-below = x.forbidden-below;
      forbidden-record = λ l.
          let o = among-other ps at k b (l ∷ []) (λ e. h (sym e)) in
          ((λ e. o.0 ((x.forbidden-record l).0 e)), λ a. (x.forbidden-record l).1 (o.1 a));
    }

pub forbidden-added : (L w : ℕ) (ps : List (ℕ × Record)) (at l : ℕ) → l < L → Forbidden L w ps
    → Forbidden L (union w (2 ^ l)) (followed ps at 3 (l ∷ []))
forbidden-added L w ps at l h x =
    record {
      forbidden-below = union-lt L w (2 ^ l) x.forbidden-below (pow-lt h);
      forbidden-record = λ j. ((λ e. to j ((bit_added w l j).0 e)), from j);
    }
  where
    to : (j : ℕ) → (bit w j ≡ 1) ⊎ (j ≡ l) → Among 3 (j ∷ []) (followed ps at 3 (l ∷ []))
    to j (inl e) = among-more _ ((x.forbidden-record j).0 e)
    to j (inr q) = rw q (among-last ps at 3 (l ∷ []))

    cases : (j : ℕ) → Among 3 (j ∷ []) ps ⊎ (◌≡◌ {A = ℕ} 3 3 × ◌≡◌ {A = List ℕ} (j ∷ []) (l ∷ [])) → (bit w j ≡ 1) ⊎ (j ≡ l)
    cases j (inl a) = inl ((x.forbidden-record j).1 a)
    cases j (inr q) = inr (let e = q.1 in cc)

    from : (j : ℕ) → Among 3 (j ∷ []) (followed ps at 3 (l ∷ [])) → bit (union w (2 ^ l)) j ≡ 1
    from j a = (bit_added w l j).1 (cases j (among-followed ps at 3 (l ∷ []) a))
