-- Both editions meet the demands, in rows and in the words that are lent. Assumes nothing.
use mathlib.Core.Path.{◌≡◌, refl, sym, ap, subst, ◌∙◌}
use mathlib.Core.Logic.{◌↔◌}
use mathlib.Core.List.{List}
use Prim.Native.Nat.{ℕ, ◌+◌, ◌*◌, ◌/◌, ◌%◌, ◌≤◌, ◌<◌}
use native.Mathlib.Decide.{dec_lt}
use native.Mathlib.Nat.{div-one, div-add-mod}
use native.Mathlib.Omega.{arith}
use lib.ListN.{length, get_or}
use Rattle.words.specs.Words.{bit}
use Rattle.rows.specs.Row.{row_count}
use Rattle.rows.specs.Run.{Words, number, room_for, rows_of}
use Rattle.rows.proofs.Run.{view-length, view-row, room-less, room-enough, laid-rows, rows-laid, rows-one}
use Rattle.sets.proofs.Numbers.{number_bit}
use Rattle.verdicts.specs.Check.{Accepts}
use Rattle.verdicts.proofs.Words.{words-rows, words_same, words-beyond, words-length, words-one}
use Rattle.editions.proofs.Same.{small-in-large}
use Rattle.toplevel.proofs.Silent.{silent}
use Rattle.profiles.proofs.Profiles.{profiles}
use Rattle.demands.specs.Editions.{RoundTrip, InWords, Edition, Editions}
use Rattle.demands.proofs.Demands.{demands}

-- label l of a row is in word l / 64 of its run
label-in : (k : ℕ) (t : List ℕ) → Words t → (r l : ℕ) → r < room_for k t → l < 64 * k
    → bit (get_or (rows_of k t) r 0) l ≡ bit (get_or t (k * r + l / 64) 0) (l % 64)
label-in k t s r l h q =
    let e : 0 + k * r ≡ k * r = omega arith in
    ap (λ (w : ℕ). bit w l) (view-row k (room_for k t) 0 t r h ∙ ap (number k t) e)
    ∙ ap (bit (number k t (k * r))) (sym (div-add-mod l 64))
    ∙ number_bit k t (k * r) (l / 64) (l % 64) s (omega (arith, div-add-mod l 64)) (omega arith)

carried : (k : ℕ) → RoundTrip k
carried k = record { label = label-in k; words = laid-rows k; rows = rows-laid k }

too_short : (k n : ℕ) (t : List ℕ) → 0 < k → (room_for k t < n) ↔ (length t < k * n)
too_short k n t some = ((λ h. few h (dec_lt (length t) (k * n))), room-less k n t some)
  where
    few : room_for k t < n → Dec (length t < k * n) → length t < k * n
    few h (yes q) = q
    few h (no d) = absurd (omega (arith, h, room-enough k n t some (omega (arith, d))))

module _ (k L : ℕ) (some : 0 < k) (wide : L ≤ 64 * k) (five : 5 ≤ L) where
  edition : Edition k L
  edition = record { demands = demands L five; round_trip = carried k; in_words = lent }
    where
      lent : (xs t : List ℕ) → Words t → InWords k L xs t
      lent xs t s =
          record {
            short = too_short k (row_count L) t some;
            rows_left = words-rows k L some wide five xs t s;
            refusal-leaves = λ n at e.
                words_same k L some wide five xs t s (((demands L five).demand-1 xs).refusal-leaves (rows_of k t) n at (rw room e));
            beyond-stay = words-beyond k L some wide five xs t s;
            same_length = words-length k L some wide five xs t s;
            confined-left = λ ok full c.
                subst (Accepts L xs) (sym (words-rows k L some wide five xs t s))
                (((demands L five).demand-3 xs).confined-left ok (rows_of k t) (rw room full) (rw room c));
          }
        where
          room : length (rows_of k t) ≡ room_for k t
          room = view-length k (room_for k t) 0 t

pub editions : Editions
editions =
    record {
      every = λ L five most. demands L five;
      small = edition 1 64 (omega arith) (omega arith) (omega arith);
      large = edition 4 256 (omega arith) (omega arith) (omega arith);
      sizes = (refl, refl, refl);
      one_word = rows-one;
      one-word-room = λ t. div-one (length t);
      one-word-left = words-one;
      top-returns = silent;
      profiles = profiles;
      small-in-large = small-in-large;
    }
