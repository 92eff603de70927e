-- Unions over the labels of a set: a loop over the labels, and one word after the other. Assumes nothing.
use mathlib.Core.Path.{◌≡◌, sym, ap, ◌∙◌, subst}
use mathlib.Core.Logic.{◌⊎◌, inl, inr}
use mathlib.Core.Bool.{Bool, true, false}
use Prim.Native.Nat.{ℕ, ◌+◌, ◌-◌, ◌*◌, ◌^◌, ◌≤◌, ◌<◌}
use native.Mathlib.Decide.{ℕ_discrete, dec_lt}
use native.Mathlib.Omega.{arith}
use lib.ListN.{get_or}
use Rattle.words.specs.Words.{union, Taken}
use Rattle.words.proofs.Bits.{On, empty-off, on_below, on-union, on-left, on-right}
use Rattle.rows.specs.Edition.{labels}
use Rattle.rows.specs.Row.{number, property, row_count}
use Rattle.rules.specs.Table.{Table, Has}
use Rattle.rows.specs.Run as run
use Rattle.sets.specs.Value.{words_of, value}
use Rattle.sets.specs.declared.Set.{Set}
use Rattle.sets.proofs.Numbers.{bit-first, bit-after}
use Rattle.sets.proofs.Values.{Good}
use Rattle.uses.specs.Gather.{row_from, under_names, Gathered, Added}
use Rattle.uses.proofs.Use.{was-left}

-- ---- the loop: `rest` is still to be done

pub record Adding (F : Table → ℕ → ℕ → Type 0) (t : Table) (s start rest all : ℕ) : Type 0 where
  pub left : (l : ℕ) → On rest l → On s l
  pub source : (m : ℕ) → On all m → On start m ⊎ ((l : ℕ) × On s l × F t l m)
  pub keeps : (m : ℕ) → On start m → On all m
  pub done : (l : ℕ) → On s l → On rest l ⊎ ((m : ℕ) → F t l m → On all m)

-- what label l tells, joined to `all`
pub record Turn (F : Table → ℕ → ℕ → Type 0) (t : Table) (l all next : ℕ) : Type 0 where
  pub source : (m : ℕ) → On next m → On all m ⊎ F t l m
  pub keeps : (m : ℕ) → On all m → On next m
  pub told : (m : ℕ) → F t l m → On next m

module _ {F : Table → ℕ → ℕ → Type 0} {t : Table} {s start : ℕ} where
  pub adding-next : {rest all k l after next : ℕ} → Taken k rest l after → Turn F t l all next → Adding F t s start rest all → Adding F t s start after next
  adding-next {rest} {all} {k} {l} {after} {next} taken turn g =
      record {
        left = λ m h. g.left m (was-left taken m h);
        source = λ m h. source m (turn.source m h);
        keeps = λ m h. turn.keeps m (g.keeps m h);
        done = λ m h. done m (ℕ_discrete m l) (g.done m h);
      }
    where
      source : (m : ℕ) → On all m ⊎ F t l m → On start m ⊎ ((q : ℕ) × On s q × F t q m)
      source m (inl h) = g.source m h
      source m (inr h) = inr (l, g.left l taken.on, h)

      done : (q : ℕ) → Dec (q ≡ l) → On rest q ⊎ ((m : ℕ) → F t q m → On all m) → On after q ⊎ ((m : ℕ) → F t q m → On next m)
      done q _ (inr f) = inr (λ m h. turn.keeps m (f m h))
      done q (no d) (inl h) = inl (taken.others q d ∙ h)
      done q (yes d) (inl h) = inr (λ m i. turn.told m (subst (λ (x : ℕ). F t x m) d i))

  pub adding-end : {rest all : ℕ} → rest ≡ 0 → Adding F t s start rest all → Added F t s start all
  adding-end {rest} {all} z g = record { source = g.source; keeps = g.keeps; all = λ l m h i. whole l m i (g.done l h) }
    where
      whole : (l m : ℕ) → F t l m → On rest l ⊎ ((m : ℕ) → F t l m → On all m) → On all m
      whole l m i (inl h) = absurd (empty-off l (rw z at h))
      whole l m i (inr f) = f m i

  -- from nothing
  pub added-whole : {r : ℕ} → start ≡ 0 → Added F t s start r → Gathered F t t s r
  added-whole {r} z a = record { source = λ m h. source m (a.source m h); all = a.all }
    where
      source : (m : ℕ) → On start m ⊎ ((l : ℕ) × On s l × F t l m) → (l : ℕ) × On s l × F t l m
      source m (inl h) = absurd (empty-off m (rw z at h))
      source m (inr h) = h

-- a turn that joins a row
pub turn-row : {t : Table} {l all more next : ℕ} (base : ℕ) → more ≡ get_or t (base + l) 0 → next ≡ union all more → Turn (row_from base) t l all next
turn-row {t} {l} {all} {more} {next} base e n =
    record {
      source = λ m h. source m (on-union all more m (rw n at h));
      keeps = λ m h. rw n (on-left all more m h);
      told = λ m h. rw n (on-right all more m (rw e h));
    }
  where
    source : (m : ℕ) → On all m ⊎ On more m → On all m ⊎ Has t (base + l) m
    source m (inl h) = inl h
    source m (inr h) = inr (rw (← e) h)

-- a turn that joins the properties of a label
pub turn-under : {t : Table} {names l base all next : ℕ} → base ≡ number 256 (property l 0) → Added (row_from base) t names all next
    → Turn (under_names names) t l all next
turn-under {t} {names} {l} {base} {all} {next} e a =
    record { source = λ m h. source m (a.source m h); keeps = a.keeps; told = λ m h. a.all h.0 m h.1 (rw (place h.0) h.2) }
  where
    place : (n : ℕ) → base + n ≡ 256 + 32 * l + n
    place n = omega (arith, e)

    source : (m : ℕ) → On all m ⊎ ((n : ℕ) × On names n × Has t (base + n) m) → On all m ⊎ under_names names t l m
    source m (inl h) = inl h
    source m (inr h) = inr (h.0, h.1, rw (← place h.0) h.2)

-- ---- word by word

-- no word is left
pub added_none : {F : Table → ℕ → ℕ → Type 0} {t : Table} {r : ℕ} → Added F t 0 r r
added_none = record { source = λ m h. inl h; keeps = λ m h. h; all = λ l m h i. absurd (empty-off l h) }

-- the first word, and then those above
pub added-words : {t : Table} {w start first r : ℕ} (base n : ℕ) → w < 2 ^ 64 → Added (row_from base) t w start first → Added (row_from (base + 64)) t n first r
    → Added (row_from base) t (n * 2 ^ 64 + w) start r
added-words {t} {w} {start} {first} {r} base n small a b =
    record { source = λ m h. source m (b.source m h); keeps = λ m h. b.keeps m (a.keeps m h); all = λ l m h i. all l m h i (dec_lt l 64) }
  where
    up : (l : ℕ) → base + 64 + l ≡ base + (64 + l)
    up l = omega arith

    low : (m : ℕ) → On start m ⊎ ((l : ℕ) × On w l × Has t (base + l) m) → On start m ⊎ ((l : ℕ) × On (n * 2 ^ 64 + w) l × Has t (base + l) m)
    low m (inl h) = inl h
    low m (inr h) = below (dec_lt h.0 64)
      where
        below : Dec (h.0 < 64) → On start m ⊎ ((l : ℕ) × On (n * 2 ^ 64 + w) l × Has t (base + l) m)
        below (yes i) = inr (h.0, bit-first 64 n w h.0 i small ∙ h.1, h.2)
        below (no d) = absurd (d (on_below 64 w h.0 small h.1))

    source : (m : ℕ) → On first m ⊎ ((l : ℕ) × On n l × Has t (base + 64 + l) m) → On start m ⊎ ((l : ℕ) × On (n * 2 ^ 64 + w) l × Has t (base + l) m)
    source m (inl h) = low m (a.source m h)
    source m (inr h) = inr (64 + h.0, bit-after 64 n w h.0 small ∙ h.1, subst (λ (x : ℕ). Has t x m) (up h.0) h.2)

    all : (l m : ℕ) → On (n * 2 ^ 64 + w) l → Has t (base + l) m → Dec (l < 64) → On r m
    all l m h i (yes q) = b.keeps m (a.all l m (sym (bit-first 64 n w l q small) ∙ h) i)
    all l m h i (no q) =
        let e : 64 + (l - 64) ≡ l = omega (arith, q) in
        b.all (l - 64) m (sym (bit-after 64 n w (l - 64) small) ∙ subst (λ (x : ℕ). On (n * 2 ^ 64 + w) x) (sym e) h)
        (subst (λ (x : ℕ). Has t x m) (ap (λ (x : ℕ). base + x) (sym e) ∙ sym (up (l - 64))) i)

-- ---- the words of a set

pub word_fits : (wide : Bool) (base : ℕ) → base + labels wide ≤ row_count (labels wide) → base + 64 ≤ row_count (labels wide)
word_fits true base h = omega arith
word_fits false base h = omega arith

pub words_fit : (wide : Bool) (base : ℕ) → wide ≡ true → base + labels wide ≤ row_count (labels wide) → base + 256 ≤ row_count (labels wide)
words_fit wide base e h = rw e (rw e at h)

pub added-narrow : {t : Table} {wide : Bool} {start r : ℕ} (base : ℕ) (s : Set) → wide ≡ false → s.a < 2 ^ 64 → Added (row_from base) t s.a start r
    → Added (row_from base) t (value wide s) start r
unfolding value run.number
added-narrow base s e small a = rw e (added-words base 0 small a added_none)

pub added-wide : {t : Table} {wide : Bool} {start r1 r2 r3 r : ℕ} (base : ℕ) (s : Set) → wide ≡ true → Good s → Added (row_from base) t s.a start r1
    → Added (row_from (base + 64)) t s.b r1 r2 → Added (row_from (base + 128)) t s.c r2 r3
    → Added (row_from (base + 192)) t s.d r3 r → Added (row_from base) t (value wide s) start r
unfolding value run.number
added-wide base s e small a b c d =
    let third : base + 128 ≡ base + 64 + 64 = omega arith in
    let fourth : base + 192 ≡ base + 64 + 64 + 64 = omega arith in
    rw e
    (added-words base (run.number 3 (words_of s) 1) small.0 a
    (added-words (base + 64) (run.number 2 (words_of s) 2) small.1 b
    (added-words (base + 64 + 64) (run.number 1 (words_of s) 3) small.2 (rw third at c)
    (added-words (base + 64 + 64 + 64) 0 small.3 (rw fourth at d) added_none))))
