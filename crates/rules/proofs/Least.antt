-- The least table above a start table: it is closed, it holds the start table, every closed table that does so holds it, and it is
-- the only such table; and no more rounds are needed to reach it than the start table has room for facts. Assumes nothing.
use mathlib.Core.Path.{◌≡◌, refl, ap, ap₂, sym, ◌∙◌, subst}
use mathlib.Core.List.{[], ◌∷◌}
use mathlib.Core.Bool.{Bool, true, false}
use Prim.Native.Nat.{ℕ, zero, suc, ◌+◌, ◌*◌, ◌≤◌, ◌<◌}
use native.Mathlib.Omega.{arith}
use lib.ListN.{length, get_or}
use lib.Dec.{eqb, eqb→eq, eqb_refl, T}
use Rattle.rows.specs.Row.{row_count}
use Rattle.rules.specs.Table.{Table, Has, Within, Small, Shaped, facts}
use Rattle.rules.specs.Rule.{Rule}
use Rattle.rules.specs.Told.{Closed, Fits}
use Rattle.rules.specs.Round.{round, rounds, same_table, settle, enough_rounds, least_above}
use Rattle.rules.proofs.Table.{same-facts, facts-room, facts-more}
use Rattle.rules.proofs.Told.{told-closed}
use Rattle.rules.proofs.Round.{round-within, round_keeps, round-tells, round-length, round-shaped, round-row-zero, round-beyond}

-- ---- the test for equal tables

same-equal : (t u : Table) → same_table t u ≡ true → t ≡ u
same-equal [] [] e = refl
same-equal [] (y ∷ u) e = cc
same-equal (x ∷ t) [] e = cc
same-equal (x ∷ t) (y ∷ u) e = go (eqb x y) refl (same-equal t u)
  where
    go : (b : Bool) → eqb x y ≡ b → (same_table t u ≡ true → t ≡ u) → (x ∷ t) ≡ (y ∷ u)
    go true p rest = ap₂ ◌∷◌ (eqb→eq x y (rw p tt)) (rest (rw (p, same_table) at e))
    go false p rest = let z : ◌≡◌ {A = Bool} false true = rw (p, same_table) at e in cc

same-itself : (t : Table) → same_table t t ≡ true
same-itself [] = refl
same-itself (x ∷ t) = go (eqb x x) refl (eqb_refl x) (same-itself t)
  where
    go : (b : Bool) → eqb x x ≡ b → T b → same_table t t ≡ true → same_table (x ∷ t) (x ∷ t) ≡ true
    go true p h rest = rw (p, same_table) rest
    go false p h rest = absurd h

differs : (u t : Table) → same_table u t ≡ false → u ≡ t → ⊥
differs u t e q =
    let f = sym e ∙ ap (λ (v : Table). same_table v t) q ∙ same-itself t in
    let z : ◌≡◌ {A = ℕ} 0 1 = cc in
    omega arith

-- ---- rounds until one changes nothing

module _ (L : ℕ) (p : Rule) where
  -- what a round keeps, all of them keep
  pub settle-keeps : (Good : Table → Type 0) → ((t : Table) → Good t → Good (round L p t)) → (n : ℕ) (t : Table) → Good t → Good (settle n L p t)
  unfolding settle
  settle-keeps Good good zero t g = g
  settle-keeps Good good (suc n) t g = go (same_table (round L p t) t) refl (settle-keeps Good good n (round L p t) (good t g))
    where
      go : (b : Bool) → same_table (round L p t) t ≡ b → Good (settle n L p (round L p t)) → Good (settle (suc n) L p t)
      go true e rest = rw (e, settle) g
      go false e rest = rw (e, settle) rest

  rounds-still : (n : ℕ) (t : Table) → round L p t ≡ t → rounds n L p t ≡ t
  unfolding rounds
  rounds-still zero t e = refl
  rounds-still (suc n) t e = ap (λ (u : Table). rounds n L p u) e ∙ rounds-still n t e

  -- n rounds, or fewer where one changes nothing
  settle-rounds : (n : ℕ) (t : Table) → settle n L p t ≡ rounds n L p t
  unfolding settle rounds
  settle-rounds zero t = refl
  settle-rounds (suc n) t = go (same_table (round L p t) t) refl (settle-rounds n (round L p t))
    where
      go : (b : Bool) → same_table (round L p t) t ≡ b → settle n L p (round L p t) ≡ rounds n L p (round L p t)
          → settle (suc n) L p t ≡ rounds n L p (round L p t)
      go true e rest = let s = same-equal (round L p t) t e in rw (e, settle) (sym (rounds-still (suc n) t s))
      go false e rest = rw (e, settle) rest

module _ (L : ℕ) (p : Rule) (fits : Fits L p) where
  -- a round that changes something adds a fact
  pub round-grows : (t : Table) → Shaped L t → (round L p t ≡ t → ⊥) → facts L t < facts L (round L p t)
  round-grows t s d =
      facts-more L t (round L p t) (sym (round-length L p fits t s.small)) s.small (round-shaped L p fits t s).small
      (round_keeps L p fits t s.small) (round-beyond L p fits t s.small) d

  -- so many rounds as there is room for facts, and the next one changes nothing
  settled : (n : ℕ) (t : Table) → Shaped L t → L * row_count L ≤ facts L t + n → round L p (settle n L p t) ≡ settle n L p t
  unfolding settle
  settled zero t s h = go (same_table (round L p t) t) refl
    where
      go : (b : Bool) → same_table (round L p t) t ≡ b → round L p t ≡ t
      go true e = same-equal (round L p t) t e
      go false e =
          let more = round-grows t s (differs (round L p t) t e) in
          absurd (omega (arith, facts-room L (round L p t)))
  settled (suc n) t s h = go (same_table (round L p t) t) refl (settled n (round L p t) (round-shaped L p fits t s))
    where
      go : (b : Bool) → same_table (round L p t) t ≡ b
          → (L * row_count L ≤ facts L (round L p t) + n → round L p (settle n L p (round L p t)) ≡ settle n L p (round L p t))
          → round L p (settle (suc n) L p t) ≡ settle (suc n) L p t
      go true e rest = rw (e, settle) (same-equal (round L p t) t e)
      go false e rest =
          let more = round-grows t s (differs (round L p t) t e) in
          rw (e, settle) (rest (omega arith))

  -- a table that a round leaves as it is, is closed
  pub still-closed : (t : Table) → Shaped L t → round L p t ≡ t → Closed L t p
  still-closed t s e = told-closed L t p (λ r l h. subst (λ (u : Table). Has u r l) e (round-tells L p fits t s r l h))

-- every closed table that holds t holds the least one above t
pub least-within : (L : ℕ) (p : Rule) (t u : Table) → Closed L u p → Within t u → Within (least_above L p t) u
unfolding least_above
least-within L p t u c w = settle-keeps L p (λ v. Within v u) (λ v h. round-within L p v u c h) (enough_rounds L) t w

module _ (L : ℕ) (p : Rule) (fits : Fits L p) where
  -- the settled table, for any number of rounds
  settle-shaped : (n : ℕ) (t : Table) → Shaped L t → Shaped L (settle n L p t)
  settle-shaped n t s = settle-keeps L p (λ v. Shaped L v) (λ v h. round-shaped L p fits v h) n t s

  -- what a round keeps of tables for L labels
  settle-keeps-shaped : (Good : Table → Type 0) → ((v : Table) → Shaped L v → Good v → Good (round L p v)) → (n : ℕ) (t : Table) → Shaped L t → Good t
      → Good (settle n L p t)
  settle-keeps-shaped Good g n t s h =
      (settle-keeps L p (λ v. Shaped L v × Good v) (λ v q. (round-shaped L p fits v q.0, g v q.0 q.1)) n t (s, h)).1

  pub least-shaped : (t : Table) → Shaped L t → Shaped L (least_above L p t)
  unfolding least_above
  least-shaped t s = settle-shaped (enough_rounds L) t s

  pub least-closed : (t : Table) → Shaped L t → Closed L (least_above L p t) p
  unfolding least_above
  least-closed t s = still-closed L p fits (least_above L p t) (least-shaped t s) (settled L p fits (enough_rounds L) t s (omega arith))

  pub least-keeps : (t : Table) → Shaped L t → Within t (least_above L p t)
  unfolding least_above
  least-keeps t s =
      settle-keeps-shaped (λ v. Within t v) (λ v sv w r l h. round_keeps L p fits v sv.small r l (w r l h)) (enough_rounds L) t s (λ r l h. h)

  pub least-length : (t : Table) → Shaped L t → length (least_above L p t) ≡ length t
  unfolding least_above
  least-length t s = settle-keeps-shaped (λ v. length v ≡ length t) (λ v sv e. round-length L p fits v sv.small ∙ e) (enough_rounds L) t s refl

  pub least-row-zero : (t : Table) → Shaped L t → get_or (least_above L p t) 0 0 ≡ get_or t 0 0
  unfolding least_above
  least-row-zero t s =
      settle-keeps-shaped (λ v. get_or v 0 0 ≡ get_or t 0 0) (λ v sv e. round-row-zero L p fits v sv.small ∙ e) (enough_rounds L) t s refl

  -- a closed table that holds t and that every closed table holding t holds, is the least one above t
  pub least-only : (t u : Table) → Shaped L t → length u ≡ length t → Small L u → Within t u → Closed L u p
      → ((v : Table) → Closed L v p → Within t v → Within u v) → u ≡ least_above L p t
  least-only t u s e su w c least =
      same-facts L u (least_above L p t) (e ∙ sym (least-length t s)) su (least-shaped t s).small
      (least (least_above L p t) (least-closed t s) (least-keeps t s)) (least-within L p t u c w)
