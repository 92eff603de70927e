-- Loads and stores: what their uses come to. Assumes nothing.
use mathlib.Core.Path.{◌≡◌, refl, subst}
use mathlib.Core.Logic.{◌⊎◌, inl, inr}
use mathlib.Core.Bool.{Bool, true, not, ◌||◌}
use mathlib.Core.List.{List}
use Prim.Native.Nat.{ℕ, ◌^◌, ◌<◌}
use lib.ListN.{get_or}
use lib.Bits.{bit_and}
use Rattle.words.specs.Words.{union, difference}
use Rattle.words.proofs.Bits.{On, on-meet, on-union, on-left, on-right, on-single, single-only, on-difference, difference-off, difference-on}
use Rattle.rows.specs.Edition.{labels, words}
use Rattle.rows.specs.Row.{number, property, chain, variable, row_count}
use Rattle.layout.specs.Key.{Key}
use Rattle.rules.specs.Table.{Table, Has, Within}
use Rattle.rules.specs.Rule.{Rule, over, include}
use Rattle.rules.specs.Told.{Told}
use Rattle.format.specs.Sheet.{built_in}
use Rattle.format.proofs.Tests.{untrue, not-both}
use Rattle.program.specs.Program.{Program, names_of}
use Rattle.analysis.specs.Rules.{looking, loading, storing}
use Rattle.lent.specs.Stored.{Joined}
use Rattle.uses.specs.Gather.{row_from, under_names, Gathered}
use Rattle.uses.specs.Use.{Apart, table_of, tells, giving, Reached, start, adds, Used}
use Rattle.kept.specs.Promise.{chains, under, stored, Tells, Tellings}
use Rattle.host.specs.declared.Host.{Host}
use Rattle.host.specs.Lays.{built_ins_in, names_in, Lays}
use Rattle.shared.specs.Apply.{Applies, gathering, spreading}
use Rattle.shared.proofs.Applied.{applies-plain, applies-for, applies-then}
use Rattle.shared.proofs.Families.{chains-told, under-told}
use Rattle.lookups.proofs.Through.{applies-through, told-when, when-told}

-- ---- loads

module _ {wide : Bool} {o : ℕ} {p : Program} (y x w key : ℕ) where
  pub load-applies : {s held one on : ℕ} {t u v keeps kept left : List ℕ} {a b : Bool} → Apart wide o → Used wide o (giving x w) t t u a
      → held ≡ get_or (table_of wide u) x 0 → one ≡ 2 ^ w → s ≡ union held one → Tellings wide p chains u s 0 on keeps kept
      → Applies wide o p (gathering wide p y (under key) on) u kept v left b → Applies wide o p (tells wide (loading p y x key w)) t keeps v left (a || b)
  load-applies {s} {held} {one} {on} {t} {u} apart gave is_held is_one is-s tell found =
      applies-then apart (applies-plain apart (λ a b i r l h. h) gave) (applies-through chains apart tell forth back found)
    where
      -- what a label of s finds
      of_one : (a : Table) (r l m : ℕ) → On held m ⊎ On one m → Within (table_of wide u) a → Told (labels wide) a (looking p y key m) r l
          → Told (labels wide) a (looking p y key w) r l ⊎ ((q : ℕ) × Has a x q × Told (labels wide) a (looking p y key q) r l)
      of_one a r l m (inl e) i h = inr (m, i x m (rw is_held at e), h)
      of_one a r l m (inr e) i h = inl (subst (λ (q : ℕ). Told (labels wide) a (looking p y key q) r l) (single-only w m (rw is_one at e)) h)

      forth : (a : Table) → Within (table_of wide u) a → ((m : ℕ) → On on m → (l : ℕ) × On s l × Tells wide p chains (table_of wide u) l m) → (r l : ℕ)
          → gathering wide p y (under key) on a r l
          → Told (labels wide) a (looking p y key w) r l ⊎ ((q : ℕ) × Has a x q × Told (labels wide) a (looking p y key q) r l)
      forth a i source r l h =
          let g = source h.2.0 h.2.1 in
          of_one a r l g.0 (on-union held one g.0 (rw is-s at g.1)) i
          (h.2.0, i (number (labels wide) (chain g.0)) h.2.0 g.2, (h.2.2.0, h.2.2.1, (h.0, h.1, h.2.2.2)))

      of-looked : (a : Table) → ((l m : ℕ) → On s l → Tells wide p chains a l m → On on m) → (r l q : ℕ) → On s q → Told (labels wide) a (looking p y key q) r l
          → gathering wide p y (under key) on a r l
      of-looked a all r l q e h = (h.2.2.0, h.2.2.1, (h.0, all q h.0 e h.1, (h.2.0, h.2.1, h.2.2.2)))

      back : (a : Table) → Within a (table_of wide u) → ((l m : ℕ) → On s l → Tells wide p chains a l m → On on m) → (r l : ℕ)
          → Told (labels wide) a (looking p y key w) r l ⊎ ((q : ℕ) × Has a x q × Told (labels wide) a (looking p y key q) r l)
          → gathering wide p y (under key) on a r l
      back a i all r l (inl h) = of-looked a all r l w (rw is-s (on-right held one w (rw is_one (on-single w)))) h
      back a i all r l (inr h) = of-looked a all r l h.0 (rw is-s (on-left held one h.0 (rw is_held (i x h.0 h.1)))) h.2

-- a part of a load, in place: one join of what some of the labels that the object holds find
module _ {wide : Bool} {p : Program} {host : Host} (y x w key : ℕ) where
  pub part-reached : {s held base on names more : ℕ} {t u : List ℕ} {grew : Bool} (part : ℕ) → Lays wide p host → Key key → y < row_count (labels wide)
      → held ≡ get_or (table_of wide t) x 0 → s ≡ bit_and held part → base ≡ number (labels wide) (chain 0)
      → Gathered (row_from base) (table_of wide t) (table_of wide t) s on → names ≡ names_in host key
      → Gathered (under_names names) (table_of wide t) (table_of wide t) on more → Joined (words wide) 0 y more t u grew
      → Reached wide 0 (tells wide (loading p y x key w)) t u
  part-reached {s} {held} {base} {on} {names} {more} {t} part lays k i is_held is-s is_base found is-names gathered joined =
      adds y more start i told joined
    where
      holds : (q : ℕ) → On s q → Has (table_of wide t) x q
      holds q e = rw is_held at (on-meet held part q (rw is-s at e)).0

      told : (l : ℕ) → On more l → 0 < y → Told (labels wide) (table_of wide t) (loading p y x key w) y l
      told l h z =
          let g = (under-told wide p key names lays k is-names gathered).source l h in
          let c = (chains-told wide p base is_base found).source g.0 g.1 in
          inr (inr (c.0, holds c.0 c.1, (g.0, c.2, (g.2.0, g.2.1, (z, refl, g.2.2)))))

-- ---- stores

module _ {wide : Bool} {o : ℕ} {p : Program} {host : Host} (x a key : ℕ) where
  pub store-applies : {s held value : ℕ} {t u keeps kept : List ℕ} {grew : Bool} → Apart wide o → Lays wide p host → held ≡ get_or (table_of wide t) x 0
      → s ≡ difference held (built_ins_in wide host) → value ≡ get_or (table_of wide t) a 0
      → Applies wide o p (spreading wide p (stored key) s value) t keeps u kept grew → Applies wide o p (tells wide (storing p x key a)) t keeps u kept grew
  store-applies {s} {held} {value} {t} apart lays is_held is-s is-value spread = applies-for apart forth back spread
    where
      fixed : ℕ
      fixed = built_ins_in wide host

      body : ℕ → Rule
      body l = over (names_of p.sheet key) (λ n. include (property l n) (variable a))

      forth : (b : Table) → Within (table_of wide t) b → (r l : ℕ) → spreading wide p (stored key) s value b r l → Told (labels wide) b (storing p x key a) r l
      forth b i r l h =
          let m = h.0 in
          let e : On (difference held fixed) m = rw is-s at h.1 in (
            m,
            i x m (rw is_held at (on-difference held fixed m e)),
            told-when (labels wide) b (body m) (not (built_in p.sheet m)) r l
                (untrue (built_in p.sheet m) (λ g. difference-off held fixed m e ((lays.built-ins m).1 g)))
                (h.2.0.0, h.2.0.1, (positive h.2.0.2 h.2.1, h.2.0.2, i a l (rw is-value at h.2.2))),
          )
        where
          positive : {q : ℕ} → r ≡ q → 0 < r → 0 < q
          positive e z = rw (← e) z

      back : (b : Table) → Within b (table_of wide t) → (r l : ℕ) → Told (labels wide) b (storing p x key a) r l → spreading wide p (stored key) s value b r l
      back b i r l h =
          let m = h.0 in
          let w = when-told (labels wide) b (body m) (not (built_in p.sheet m)) r l h.2 in
          (m, rw is-s (kept (difference-on held fixed m (rw is_held (i x m h.1))) w.0), ((w.1.0, w.1.1, w.1.2.1), positive w.1.2.1 w.1.2.0, rw is-value (i a l w.1.2.2)))
        where
          positive : {q : ℕ} → r ≡ q → 0 < q → 0 < r
          positive e z = rw e z

          kept : On (difference held fixed) h.0 ⊎ On fixed h.0 → not (built_in p.sheet h.0) ≡ true → On (difference held fixed) h.0
          kept (inl e) f = e
          kept (inr e) f = absurd (not-both (built_in p.sheet h.0) f ((lays.built-ins h.0).0 e))
