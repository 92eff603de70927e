-- Unions of rows are what slots tell. Assumes nothing.
use mathlib.Core.Path.{◌≡◌, refl, sym, ◌∙◌}
use mathlib.Core.Logic.{inl, inr}
use mathlib.Core.Bool.{Bool}
use mathlib.Core.List.{List, Memᴰ}
use Prim.Native.Nat.{ℕ, ◌+◌, ◌*◌, ◌<◌}
use native.Mathlib.Omega.{arith}
use Rattle.words.proofs.Bits.{On, on-difference, difference-on, empty-off}
use Rattle.rows.specs.Edition.{labels}
use Rattle.rows.specs.Row.{number, chain, thrown}
use Rattle.words.specs.Words.{difference}
use Rattle.layout.specs.Key.{inside, Key}
use Rattle.rules.specs.Table.{Table}
use Rattle.program.specs.Program.{Program, names_of}
use Rattle.uses.specs.Gather.{row_from, under_names, Gathered}
use Rattle.uses.specs.Use.{Apart}
use Rattle.uses.specs.Spread.{named_rows, formal_row, taken_by, SpreadTo}
use Rattle.kept.specs.Pairs.{kept_set, Asks, part, held, all}
use Rattle.kept.specs.Promise.{chains, throws, handed, under, input, stored, Tells, Takes}
use Rattle.host.specs.declared.Host.{Host}
use Rattle.host.specs.declared.handed.Returns.{Returns}
use Rattle.host.specs.Lays.{names_in, Lays, FormalsOf, ReturnsOf, Functions, handed_back}
use Rattle.host.proofs.Returns.{handed-returned, returned-handed}
use Rattle.shared.proofs.Applied.{gathered-for, spread-for}

module _ (wide : Bool) (p : Program) {t : Table} {s r : ℕ} where
  pub chains-told : (base : ℕ) → base ≡ number (labels wide) (chain 0) → Gathered (row_from base) t t s r → Gathered (Tells wide p chains) t t s r
  chains-told base e = gathered-for (λ l m o h. rw (← place l) h) (λ l m o h. rw (place l) h)
    where
      place : (l : ℕ) → base + l ≡ 256 + 32 * labels wide + l
      place l = omega (arith, e)

  pub throws-told : (base : ℕ) → base ≡ number (labels wide) (thrown 0) → Gathered (row_from base) t t s r → Gathered (Tells wide p throws) t t s r
  throws-told base e = gathered-for (λ l m o h. rw (← place l) h) (λ l m o h. rw (place l) h)
    where
      place : (l : ℕ) → base + l ≡ 256 + 33 * labels wide + l
      place l = omega (arith, e)

  pub under-told : {host : Host} (key names : ℕ) → Lays wide p host → Key key → names ≡ names_in host key → Gathered (under_names names) t t s r
      → Gathered (Tells wide p (under key)) t t s r
  under-told key names lays k e =
      gathered-for (λ l m o h. (h.0, (lays.names key h.0 k).0 (rw e at h.1), h.2)) (λ l m o h. (h.0, rw e ((lays.names key h.0 k).1 h.1), h.2))

-- the rows of properties are those that the slot takes
pub named-spread : {wide : Bool} {o x least : ℕ} {p : Program} {host : Host} {t u : List ℕ} {grew : Bool} (key names rest : ℕ) → Apart wide o → Lays wide p host
    → Key key → names ≡ names_in host key → SpreadTo wide o (taken_by (named_rows names) rest) x t u grew least
    → SpreadTo wide o (taken_by (Takes wide p (stored key)) rest) x t u grew least
named-spread key names rest w lays k e =
    spread-for rest w (λ l r o h. (h.0, (lays.names key h.0 k).0 (rw e at h.1), h.2)) (λ l r o h. (h.0, rw e ((lays.names key h.0 k).1 h.1), h.2))

-- and those of inputs
pub input-spread : {wide : Bool} {o x least j : ℕ} {t u : List ℕ} {grew : Bool} (p : Program) (formals : List ℕ) (rest : ℕ) → Apart wide o → j < 7 → FormalsOf p formals
    → Functions p rest → SpreadTo wide o (taken_by (formal_row formals j) rest) x t u grew least
    → SpreadTo wide o (taken_by (Takes wide p (input j)) rest) x t u grew least
input-spread {j = j} p array rest w i formals functions =
    spread-for rest w (λ l r o e. e ∙ sym (formals l j (functions l o) i)) (λ l r o e. e ∙ formals l j (functions l o) i)

-- names that are all of class 0
module _ {wide : Bool} {p : Program} {host : Host} (key names : ℕ) (lays : Lays wide p host) (k : Key key) (e : names ≡ names_in host key)
    (within : difference names (names_in host inside) ≡ 0) where
  named-every : (n : ℕ) → Memᴰ n (names_of p.sheet key) → Memᴰ n (names_of p.sheet inside)
  named-every n h =
      elim (difference-on names (names_in host inside) n (rw e ((lays.names key n k).1 h))) [
        | inl o ↦ absurd (empty-off n (rw within at o))
        | inr o ↦ (lays.names inside n refl).0 o
      ]

  pub under-every : (a : Table) (l m : ℕ) → Tells wide p (under key) a l m → Tells wide p (under inside) a l m
  under-every a l m h = (h.0, named-every h.0 h.1, h.2)

  pub stored-every : (l r : ℕ) → Takes wide p (stored key) l r → Takes wide p (stored inside) l r
  stored-every l r h = (h.0, named-every h.0 h.1, h.2)

-- what functions hand back
pub handed-told : {t : Table} {s r : ℕ} (wide : Bool) (p : Program) (a : Returns) → ReturnsOf p a → Functions p s → Gathered (handed_back a) t t s r
    → Gathered (Tells wide p handed) t t s r
handed-told {t} wide p a returning functions =
    gathered-for (λ l m o h. handed-returned p a returning t l m (functions l o) h) (λ l m o h. returned-handed p a returning t l m (functions l o) h)

-- what is left of a set is part of it
pub rest_part : {wide fresh : Bool} {keeps : List ℕ} {pair s have base rest : ℕ} → Asks wide keeps pair s have base rest fresh → (l : ℕ) → On rest l → On s l
rest_part {wide} {keeps = keeps} {pair = pair} {s = s} (part i a b e) l h = on-difference s (kept_set wide keeps pair) l (rw e at h)
rest_part {wide} {keeps = keeps} {pair = pair} {s = s} (held i a b e) l h = on-difference s (kept_set wide keeps pair) l (rw e at h)
rest_part (all i b e) l h = rw e at h
