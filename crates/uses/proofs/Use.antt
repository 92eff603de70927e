-- Laws of one use: what follows in place and into a second table, uses one after the other, and a use that is one join or a loop over labels.
-- Assumes nothing.
use mathlib.Core.Path.{◌≡◌, refl, sym, ap, ◌∙◌, subst}
use mathlib.Core.Logic.{◌⊎◌, inl, inr, ◌↔◌}
use mathlib.Core.Bool.{Bool, true, false, ◌||◌}
use mathlib.Core.List.{List}
use Prim.Native.Nat.{ℕ, ◌+◌, ◌*◌, ◌≤◌, ◌<◌}
use native.Mathlib.Decide.{ℕ_discrete}
use native.Mathlib.Omega.{arith}
use lib.ListN.{length, get_or}
use Rattle.words.specs.Words.{bit, Taken}
use Rattle.words.proofs.Bits.{On, empty-off}
use Rattle.rows.specs.Edition.{labels, words, word_count}
use Rattle.rows.specs.Row.{row_count}
use Rattle.rules.specs.Table.{Table, Has, Within}
use Rattle.rules.specs.Rule.{Rule}
use Rattle.rules.specs.Told.{Told, Closed}
use Rattle.rules.proofs.Join.{join-keeps, join-tells, has_join}
use Rattle.rules.proofs.Told.{told-within, told-closed}
use Rattle.lent.specs.Table.{table_at}
use Rattle.lent.specs.Stored.{Joined}
use Rattle.rows.proofs.Run.{view-length, view-same}
use Rattle.uses.specs.Use.{Apart, table_of, Since, tells, Reached, start, adds, Says, Used}

-- ---- one step, in the terms of tables

module _ (wide : Bool) {o r s : ℕ} {t u : List ℕ} {grew : Bool} (i : r < row_count (labels wide)) (j : Joined (words wide) o r s t u grew) where
  long : r < length (table_at wide o t)
  long = rw (view-length (words wide) (row_count (labels wide)) o t) i

  step_keeps : Within (table_at wide o t) (table_at wide o u)
  step_keeps q l h = rw (j.here (row_count (labels wide)) i) (join-keeps r s (table_at wide o t) q l h)

  step-tells : 0 < r → (l : ℕ) → On s l → Has (table_at wide o u) r l
  step-tells z l h = rw (j.here (row_count (labels wide)) i) (join-tells r s (table_at wide o t) z long l h)

  step-only : (q l : ℕ) → Has (table_at wide o u) q l → Has (table_at wide o t) q l ⊎ ((0 < r) × (q ≡ r) × On s l)
  step-only q l h = has_join r s (table_at wide o t) q l (rw (j.here (row_count (labels wide)) i) at h)

  step-apart : word_count wide ≤ o → table_of wide u ≡ table_of wide t
  step-apart h =
      view-same (words wide) (row_count (labels wide)) 0 t u (λ n a b. j.apart n (inl (omega (arith, h))))

  -- words behind the table
  step-behind : (n : ℕ) → o + word_count wide ≤ n → get_or u n 0 ≡ get_or t n 0
  step-behind n h = j.apart n (inr (omega (arith, h, inside)))
    where
      inside : words wide * r + words wide ≤ words wide * row_count (labels wide)
      inside = row_inside wide r i
        where
          row_inside : (wide : Bool) (r : ℕ) → r < row_count (labels wide) → words wide * r + words wide ≤ words wide * row_count (labels wide)
          row_inside true r i = omega arith
          row_inside false r i = omega arith

-- ---- what is reached

module _ {wide : Bool} {o : ℕ} {T : Table → ℕ → ℕ → Type 0} where
  pub reached-length : {t u : List ℕ} → Reached wide o T t u → length u ≡ length t
  reached-length start = refl
  reached-length (adds r s w i told j) = j.same_length ∙ reached-length w

  pub reached-keeps : {t u : List ℕ} → Reached wide o T t u → Within (table_at wide o t) (table_at wide o u)
  reached-keeps start q l h = h
  reached-keeps (adds r s w i told j) q l h = step_keeps wide i j q l (reached-keeps w q l h)

  pub reached-behind : {t u : List ℕ} → Reached wide o T t u → (n : ℕ) → o + word_count wide ≤ n → get_or u n 0 ≡ get_or t n 0
  reached-behind start n h = refl
  reached-behind (adds r s w i told j) n h = step-behind wide i j n h ∙ reached-behind w n h

  -- into a second table: the table read stays
  pub reached-apart : {t u : List ℕ} → word_count wide ≤ o → Reached wide o T t u → table_of wide u ≡ table_of wide t
  reached-apart h start = refl
  reached-apart h (adds r s w i told j) = step-apart wide i j h ∙ reached-apart h w

  -- in both uses the table read loses nothing
  pub reached-read : {t u : List ℕ} → Apart wide o → Reached wide o T t u → Since wide t u
  reached-read {t} {u} (inl e) w = subst (λ (x : ℕ). Within (table_at wide x t) (table_at wide x u)) e (reached-keeps w)
  reached-read (inr h) w = λ q l i. rw (reached-apart h w) i

  pub reached-on : {t u v : List ℕ} → Reached wide o T t u → Reached wide o T u v → Reached wide o T t v
  reached-on w start = w
  reached-on w (adds r s v i told j) = adds r s (reached-on w v) i told j

-- for what tells at least as much of every table above the start
pub reached-for : {wide : Bool} {o : ℕ} {T S : Table → ℕ → ℕ → Type 0} {t u : List ℕ} → Apart wide o
    → ((a : Table) → Within (table_of wide t) a → (r l : ℕ) → T a r l → S a r l) → Reached wide o T t u → Reached wide o S t u
reached-for w f start = start
reached-for {wide} w f (adds {u} r s b i told j) = adds r s (reached-for w f b) i (λ l o z. f (table_of wide u) (reached-read w b) r l (told l o z)) j

-- in place: nothing outside a closed table above the start is ever added, so nothing outside the least of them
pub in_place : {wide : Bool} (p : Rule) {t u : List ℕ} → Reached wide 0 (tells wide p) t u → (c : Table) → Closed (labels wide) c p
    → Within (table_of wide t) c → Within (table_of wide u) c
in_place p start c closed w q l h = w q l h
in_place {wide} p (adds {u} r s before i told j) c closed w q l h = go (step-only wide i j q l h) (in_place p before c closed w)
  where
    go : Has (table_of wide u) q l ⊎ ((0 < r) × (q ≡ r) × On s l) → Within (table_of wide u) c → Has c q l
    go (inl a) below = below q l a
    go (inr a) below = told-within (labels wide) (table_of wide u) c p closed below q l (rw a.1 (told l a.2 a.0))

-- into a second table: what is added is told of the table read
pub apart-only : {wide : Bool} {o : ℕ} {T : Table → ℕ → ℕ → Type 0} {t u : List ℕ} → word_count wide ≤ o → Reached wide o T t u → (r l : ℕ)
    → Has (table_at wide o u) r l → Has (table_at wide o t) r l ⊎ T (table_of wide t) r l
apart-only h start q l i = inl i
apart-only {wide} {o} {T} {t} h (adds {u} r s before i told j) q l g = go (step-only wide i j q l g) (apart-only h before q l)
  where
    go : Has (table_at wide o u) q l ⊎ ((0 < r) × (q ≡ r) × On s l) → (Has (table_at wide o u) q l → Has (table_at wide o t) q l ⊎ T (table_of wide t) q l)
        → Has (table_at wide o t) q l ⊎ T (table_of wide t) q l
    go (inl a) rest = rest a
    go (inr a) rest = inr (subst (λ (x : Table). T x q l) (reached-apart h before) (rw a.1 (told l a.2 a.0)))

-- ---- whether something was added

never : {A : Type 0} → true ≡ false → A
never e = let z : ◌≡◌ {A = ℕ} 0 1 = cc in absurd (omega arith)

pub says_nothing : {wide : Bool} {o : ℕ} {t : List ℕ} → Says wide o t t false
says_nothing = record { still = λ _. refl; more = λ f. never (sym f) }

pub says_on : {wide : Bool} {o : ℕ} {t u v : List ℕ} {a b : Bool} → Within (table_at wide o t) (table_at wide o u) → Within (table_at wide o u) (table_at wide o v)
    → Says wide o t u a → Says wide o u v b → Says wide o t v (a || b)
says_on {a = true} i j f g = record { still = λ e. never e; more = λ e. (let m = f.more refl in (m.0, m.1, j m.0 m.1 m.2, m.3)) }
says_on {a = false} i j f g =
    record { still = λ e. g.still e ∙ f.still refl; more = λ e. (let m = g.more e in (m.0, m.1, m.2, λ h. m.3 (i m.0 m.1 h))) }

-- ---- a use

-- in place, a use that adds nothing: the table is closed
pub used-closed : {wide : Bool} (p : Rule) {t u : List ℕ} → Used wide 0 (tells wide p) t t u false → Closed (labels wide) (table_of wide u) p
used-closed {wide} p {t} {u} w =
    told-closed (labels wide) (table_of wide u) p
    (λ r l h. w.all r l (subst (λ (x : List ℕ). Told (labels wide) (table_of wide x) p r l) (w.says.still refl) h))

-- into a second table: it holds what it held and what one use tells, and nothing else
pub used-exactly : {wide : Bool} {o : ℕ} {T : Table → ℕ → ℕ → Type 0} {t u : List ℕ} {grew : Bool} → word_count wide ≤ o → Used wide o T t t u grew
    → (r l : ℕ) → Has (table_at wide o u) r l ↔ (Has (table_at wide o t) r l ⊎ T (table_of wide t) r l)
used-exactly {wide} {o} {T} {t} {u} h w r l = (apart-only h w.only r l, back)
  where
    back : Has (table_at wide o t) r l ⊎ T (table_of wide t) r l → Has (table_at wide o u) r l
    back (inl a) = reached-keeps w.only r l a
    back (inr a) = w.all r l a

-- nothing is told
pub used-nothing : {wide : Bool} {o : ℕ} {T : Table → ℕ → ℕ → Type 0} {old t : List ℕ} → ((r l : ℕ) → T (table_of wide old) r l → ⊥) → Used wide o T old t t false
used-nothing none = record { all = λ r l h. absurd (none r l h); only = start; says = says_nothing }

module _ {wide : Bool} {o : ℕ} {T S : Table → ℕ → ℕ → Type 0} {old : List ℕ} where
  -- for what tells the same
  pub used-for : {t u : List ℕ} {grew : Bool} → Apart wide o → ((a : Table) → Within (table_of wide t) a → (r l : ℕ) → T a r l → S a r l)
      → ((r l : ℕ) → S (table_of wide old) r l → T (table_of wide old) r l) → Used wide o T old t u grew → Used wide o S old t u grew
  used-for w f g used = record { all = λ r l h. used.all r l (g r l h); only = reached-for w f used.only; says = used.says }

  -- one after the other
  pub used-then : {t u v : List ℕ} {a b : Bool} → Apart wide o → Used wide o T old t u a → Used wide o S old u v b
      → Used wide o (λ x r l. T x r l ⊎ S x r l) old t v (a || b)
  used-then {t} {u} {v} w first second =
      record {
        all = all;
        only = reached-on (reached-for w (λ c i r l h. inl h) first.only) (reached-for w (λ c i r l h. inr h) second.only);
        says = says_on (reached-keeps first.only) (reached-keeps second.only) first.says second.says;
      }
    where
      all : (r l : ℕ) → T (table_of wide old) r l ⊎ S (table_of wide old) r l → Has (table_at wide o v) r l
      all r l (inl h) = reached-keeps second.only r l (first.all r l h)
      all r l (inr h) = second.all r l h

-- what must have been added can be counted from earlier words
pub used-since : {wide : Bool} {o : ℕ} {T : Table → ℕ → ℕ → Type 0} {old t u : List ℕ} {grew : Bool}
    → ((r l : ℕ) → T (table_of wide old) r l → T (table_of wide t) r l) → Used wide o T t t u grew → Used wide o T old t u grew
used-since f whole = record { all = λ r l h. whole.all r l (f r l h); only = whole.only; says = whole.says }

-- a use that is one join: the labels joined are told, and what is told is joined or held already
pub used-join : {wide : Bool} {o : ℕ} {T : Table → ℕ → ℕ → Type 0} {old t u : List ℕ} {grew : Bool} (r s : ℕ) → r < row_count (labels wide)
    → ((l : ℕ) → On s l → 0 < r → T (table_of wide t) r l)
    → ((q l : ℕ) → T (table_of wide old) q l → (0 < r) × (q ≡ r) × (On s l ⊎ Has (table_at wide o t) r l))
    → Joined (words wide) o r s t u grew → Used wide o T old t u grew
used-join {wide} {o} {T} {old} {t} {u} r s i only all j =
    record {
      all = λ q l h. (let a = all q l h in rw a.1 (there l a.0 a.2));
      only = adds r s start i only j;
      says = record { still = j.still; more = λ e. (let m = j.grown e (row_count (labels wide)) i in (r, m.0, m.1, m.2)) };
    }
  where
    there : (l : ℕ) → 0 < r → On s l ⊎ Has (table_at wide o t) r l → Has (table_at wide o u) r l
    there l z (inl h) = step-tells wide i j z l h
    there l z (inr h) = step_keeps wide i j r l h

-- ---- a loop over the labels of a set

-- what the labels of s tell, each its own
abbrev pub EachOf : ℕ → (ℕ → Table → ℕ → ℕ → Type 0) → Table → ℕ → ℕ → Type 0
EachOf s F t r l = (m : ℕ) × On s m × F m t r l

-- the loop has still to do the labels `rest` of s
pub record Looped (wide : Bool) (o s rest : ℕ) (F : ℕ → Table → ℕ → ℕ → Type 0) (old t u : List ℕ) (grew : Bool) : Type 0 where
  pub left : (m : ℕ) → On rest m → On s m
  pub done : (m : ℕ) → On s m → On rest m ⊎ ((r l : ℕ) → F m (table_of wide old) r l → Has (table_at wide o u) r l)
  pub only : Reached wide o (EachOf s F) t u
  pub says : Says wide o t u grew

-- what is left after a turn was left before
pub was-left : {b rest l after : ℕ} → Taken b rest l after → (m : ℕ) → On after m → On rest m
was-left {b} {rest} {l} {after} taken m h = sym (taken.others m (λ e. omega (arith, taken.gone, ap (λ (y : ℕ). bit after y) e))) ∙ h

module _ {wide : Bool} {o s : ℕ} {F : ℕ → Table → ℕ → ℕ → Type 0} {old : List ℕ} where
  pub looped-start : {rest : ℕ} {t : List ℕ} → rest ≡ s → Looped wide o s rest F old t t false
  looped-start e = record { left = λ m h. rw e at h; done = λ m h. inl (rw e h); only = start; says = says_nothing }

  -- one turn: the use of label l's, the lowest that is left
  pub looped-next : {rest l after b : ℕ} {t u v : List ℕ} {a g : Bool} → Apart wide o → Taken b rest l after → Used wide o (F l) old u v g
      → Looped wide o s rest F old t u a → Looped wide o s after F old t v (a || g)
  looped-next {rest} {l} {after} {b} {t} {u} {v} w taken turn loop =
      record {
        left = λ m h. loop.left m (was-left taken m h);
        done = λ m h. done m (ℕ_discrete m l) (loop.done m h);
        only = reached-on loop.only (reached-for w (λ c i r q h. (l, loop.left l taken.on, h)) turn.only);
        says = says_on (reached-keeps loop.only) (reached-keeps turn.only) loop.says turn.says;
      }
    where
      done : (m : ℕ) → Dec (m ≡ l) → On rest m ⊎ ((r q : ℕ) → F m (table_of wide old) r q → Has (table_at wide o u) r q)
          → On after m ⊎ ((r q : ℕ) → F m (table_of wide old) r q → Has (table_at wide o v) r q)
      done m _ (inr f) = inr (λ r q h. reached-keeps turn.only r q (f r q h))
      done m (no d) (inl h) = inl (taken.others m d ∙ h)
      done m (yes e) (inl h) = inr (λ r q i. turn.all r q (subst (λ (y : ℕ). F y (table_of wide old) r q) e i))

  pub looped-end : {rest : ℕ} {t u : List ℕ} {grew : Bool} → rest ≡ 0 → Looped wide o s rest F old t u grew → Used wide o (EachOf s F) old t u grew
  looped-end {rest} {t} {u} z loop = record { all = λ r l h. all r l h.0 h.2 (loop.done h.0 h.1); only = loop.only; says = loop.says }
    where
      all : (r l m : ℕ) → F m (table_of wide old) r l → On rest m ⊎ ((r l : ℕ) → F m (table_of wide old) r l → Has (table_at wide o u) r l)
          → Has (table_at wide o u) r l
      all r l m h (inl a) = absurd (empty-off m (rw z at a))
      all r l m h (inr f) = f r l h
