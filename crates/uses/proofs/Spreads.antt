-- A set joined to many rows: one row, and a loop over the labels that take rows. Assumes nothing.
use mathlib.Core.Path.{◌≡◌, refl, ◌∙◌, subst}
use mathlib.Core.Logic.{◌⊎◌, inl, inr}
use mathlib.Core.Bool.{Bool, false, ◌||◌}
use mathlib.Core.List.{List}
use Prim.Native.Nat.{ℕ, ◌<◌}
use native.Mathlib.Decide.{ℕ_discrete}
use native.Mathlib.Omega.{arith}
use lib.Bits.{bit_and}
use lib.ListN.{get_or}
use Rattle.words.specs.Words.{Taken}
use Rattle.words.proofs.Bits.{On, empty-off, on-meet}
use Rattle.rows.specs.Edition.{labels, words}
use Rattle.rows.specs.Row.{number, property, row_count}
use Rattle.rules.specs.Table.{Has}
use Rattle.lent.specs.Table.{table_at}
use Rattle.lent.specs.Stored.{Joined}
use Rattle.uses.specs.Use.{Apart}
use Rattle.uses.specs.Spread.{row_after, named_rows, given_to, taken_by, SpreadTo}
use Rattle.uses.proofs.Use.{reached-keeps, used-nothing, used-for, used-join, used-since, Looped, looped-start, looped-next, looped-end}

-- for the same rows
pub spread-for : {wide : Bool} {o x least : ℕ} {H K : ℕ → Type 0} {t u : List ℕ} {grew : Bool} → Apart wide o → ((r : ℕ) → H r → K r) → ((r : ℕ) → K r → H r)
    → SpreadTo wide o H x t u grew least → SpreadTo wide o K x t u grew least
spread-for w f g d =
    record {
      used = used-for w (λ a i r l h. (f r h.0, h.1, h.2)) (λ r l h. (g r h.0, h.1, h.2)) d.used;
      holds = λ r m h. d.holds r m (g r h);
    }

-- row 0 takes nothing
pub spread-nowhere : {wide : Bool} {o r x start : ℕ} {t : List ℕ} → r ≡ 0 → SpreadTo wide o (λ q. q ≡ r) x t t false start
spread-nowhere e =
    record {
      used = used-nothing (λ q l h. absurd (omega (arith, e, h.0, h.1)));
      holds = λ q m h z. absurd (omega (arith, e, h, z));
    }

-- the meet is part of what it began with
pub meet-start : (start held : ℕ) {least : ℕ} → least ≡ bit_and start held → (m : ℕ) → On least m → On start m
meet-start start held f m o = (on-meet start held m (rw f at o)).0

-- one row, and what it then holds
pub spread_row : {wide : Bool} {o r x held least : ℕ} {t u : List ℕ} {grew : Bool} (start : ℕ) → r < row_count (labels wide) → Joined (words wide) o r x t u grew
    → held ≡ get_or (table_at wide o u) r 0 → least ≡ bit_and start held → SpreadTo wide o (λ q. q ≡ r) x t u grew least
spread_row {wide} {o} {r} {x} {held} {least} start i j e f =
    record {
      used = used-join r x i (λ l h z. (refl, z, h)) (λ q l h. (omega (arith, h.0, h.1), h.0, inl h.2)) j;
      holds = λ q m h z o. rw (h, ← e) (on-meet start held m (rw f at o)).1;
    }

-- ---- the loop: the labels `rest` of s have still to be done

pub record Spreading (wide : Bool) (o : ℕ) (G : ℕ → ℕ → Type 0) (s rest x start : ℕ) (t u : List ℕ) (grew : Bool) (least : ℕ) : Type 0 where
  pub looped : Looped wide o s rest (λ m. given_to (G m) x) t t u grew
  pub held : (l : ℕ) → On s l → On rest l ⊎ ((r m : ℕ) → G l r → 0 < r → On least m → Has (table_at wide o u) r m)
  pub shrinks : (m : ℕ) → On least m → On start m

module _ {wide : Bool} {o : ℕ} {G : ℕ → ℕ → Type 0} {s x start : ℕ} where
  pub spreading-start : {rest : ℕ} {t : List ℕ} → rest ≡ s → Spreading wide o G s rest x start t t false start
  spreading-start e = record { looped = looped-start e; held = λ l h. inl (rw e h); shrinks = λ m h. h }

  pub spreading-next : {rest l after b least less : ℕ} {t u v : List ℕ} {a g : Bool} → Apart wide o → Taken b rest l after
      → SpreadTo wide o (G l) x u v g less → ((m : ℕ) → On less m → On least m) → Spreading wide o G s rest x start t u a least → Spreading wide o G s after x start t v (a || g) less
  spreading-next {rest} {l} {after} {b} {least} {less} {t} {u} {v} w taken turn shrinks loop =
      record {
        looped = looped-next w taken (used-since (λ r q h. h) turn.used) loop.looped;
        held = λ m h. held m (ℕ_discrete m l) (loop.held m h);
        shrinks = λ m h. loop.shrinks m (shrinks m h);
      }
    where
      held : (m : ℕ) → Dec (m ≡ l) → On rest m ⊎ ((r q : ℕ) → G m r → 0 < r → On least q → Has (table_at wide o u) r q)
          → On after m ⊎ ((r q : ℕ) → G m r → 0 < r → On less q → Has (table_at wide o v) r q)
      held m _ (inr f) = inr (λ r q h z i. reached-keeps turn.used.only r q (f r q h z (shrinks q i)))
      held m (no d) (inl h) = inl (taken.others m d ∙ h)
      held m (yes e) (inl h) = inr (λ r q g z i. turn.holds r q (subst (λ (y : ℕ). G y r) e g) z i)

  pub spreading-end : {rest least : ℕ} {t u : List ℕ} {grew : Bool} → Apart wide o → rest ≡ 0 → Spreading wide o G s rest x start t u grew least
      → SpreadTo wide o (taken_by G s) x t u grew least
  spreading-end {rest} {least} {t} {u} w z loop =
      record {
        used = used-for w (λ a i r l h. ((h.0, h.1, h.2.0), h.2.1, h.2.2)) (λ r l h. (h.0.0, h.0.1, (h.0.2, h.1, h.2))) (looped-end z loop.looped);
        holds = λ r m h. whole r m h.0 h.2 (loop.held h.0 h.1);
      }
    where
      whole : (r m l : ℕ) → G l r → On rest l ⊎ ((r m : ℕ) → G l r → 0 < r → On least m → Has (table_at wide o u) r m) → 0 < r → On least m
          → Has (table_at wide o u) r m
      whole r m l g (inl h) = absurd (empty-off l (rw z at h))
      whole r m l g (inr f) = f r m g

-- what a row of a name is, from the first property of its label
pub rows_of : {base : ℕ} (names l : ℕ) → base ≡ number 256 (property l 0) → (r : ℕ) → taken_by (row_after base) names r → named_rows names l r
rows_of names l e r h = (h.0, h.1, omega (arith, h.2, e))

pub of-rows : {base : ℕ} (names l : ℕ) → base ≡ number 256 (property l 0) → (r : ℕ) → named_rows names l r → taken_by (row_after base) names r
of-rows names l e r h = (h.0, h.1, omega (arith, h.2, e))
