-- Prim: what its use comes to. Assumes nothing.
use mathlib.Core.Path.{◌≡◌, refl, sym, ap, ◌∙◌}
use mathlib.Core.Logic.{◌⊎◌, inl, inr}
use mathlib.Core.Bool.{Bool, true, false, ◌||◌}
use mathlib.Core.List.Memᴰ
use mathlib.Core.List.{List, [], ◌∷◌, Memᴰ}
use Prim.Native.Nat.{ℕ, ◌+◌, ◌*◌}
use native.Mathlib.Nat.{add-zero}
use lib.Bits.{bit_and}
use lib.ListN.{get_or}
use Rattle.words.specs.Words.{union}
use Rattle.words.proofs.Bits.{On, on-union, on-left, on-right}
use Rattle.rows.specs.Edition.{labels}
use Rattle.rows.specs.Row.{number, property, chain, thrown, variable}
use Rattle.rules.specs.Table.{Table, Has, Within}
use Rattle.rules.specs.Rule.{Rule, include, ◌also◌}
use Rattle.rules.specs.Told.{Told}
use Rattle.program.specs.Program.{Program, is_function, this_of, names_of}
use Rattle.analysis.specs.Rules.{converting}
use Rattle.uses.specs.Use.{Apart, table_of, Since, tells}
use Rattle.uses.proofs.Use.{used-for, used-nothing}
use Rattle.kept.specs.Promise.{chains, throws, under, input, Tells, Answer, Remembers, Tellings}
use Rattle.host.specs.declared.Host.{Host}
use Rattle.host.specs.Lays.{functions_in, Lays}
use Rattle.shared.specs.Apply.{Applies, gathering, spreading}
use Rattle.shared.proofs.Applied.{applies-then}
use Rattle.lookups.proofs.Through.{told-all, told-when, when-told, none-on}
use Rattle.lookups.proofs.Calls.{functions-are, among, held_of}

-- what is done with a function that was found
abbrev Entered : Program → ℕ → ℕ → ℕ → Rule
Entered p k x f = include (variable (this_of p.sheet f)) (variable x) also include (thrown k) (thrown f)

-- the functions that are found: under name 1 or 2, along the chains of the object
abbrev Finding : Bool → ℕ → Table → ℕ → Type 0
Finding wide x a f =
    (l : ℕ) × Has a x l × ((m : ℕ) × Has a (number (labels wide) (chain l)) m
    × ((n : ℕ) × Memᴰ n (1 ∷ 2 ∷ []) × Has a (number (labels wide) (property m n)) f))

module _ {wide : Bool} {o : ℕ} {p : Program} {host : Host} (k x : ℕ) where
  module _ {held on strings values fs : ℕ} {t keeps kept left last : List ℕ} (apart : Apart wide o) (lays : Lays wide p host)
      (is_held : held ≡ get_or (table_of wide t) x 0) (chained : Tellings wide p chains t held 0 on keeps kept)
      (first : Tellings wide p (under 1) t on 0 strings kept left) (second : Tellings wide p (under 2) t on 0 values left last)
      (is-fs : fs ≡ bit_and (union strings values) (functions_in wide host)) where
    -- what was told, counted from earlier words
    record Was (old : Table) : Type 0 where
      on-chains : Answer (Tells wide p chains) old (table_of wide t) held 0 on
      under_first : Answer (Tells wide p (under 1)) old (table_of wide t) on 0 strings
      under-second : Answer (Tells wide p (under 2)) old (table_of wide t) on 0 values

    was : (old : List ℕ) → Since wide old t → Remembers wide o p old t keeps → Was (table_of wide old)
    was old since m =
        let a = chained o old since m in
        let b = first o old since a.1 in
        record { on-chains = a.0; under_first = b.0; under-second = (second o old since b.1).0 }

    remembers : (old : List ℕ) → Since wide old t → Remembers wide o p old t keeps → Remembers wide o p old t last
    remembers old since m = (second o old since (first o old since (chained o old since m).1).1).1

    one : (n i : ℕ) → Memᴰ n (i ∷ []) → n ≡ i
    one n i m = elim (Memᴰ.cases_cons m) [ inl e ↦ e | inr j ↦ absurd (Memᴰ.not-nil j) ]

    found : {old : Table} → Was old → (a : Table) → Within (table_of wide t) a → (f : ℕ) → On fs f → Finding wide x a f
    unfolding names_of
    found w a i f h = side (on-union strings values f (held_of wide host (union strings values) is-fs f h))
      where
        along : (m n : ℕ) → On on m → Memᴰ n (1 ∷ 2 ∷ []) → Has (table_of wide t) (number (labels wide) (property m n)) f → Finding wide x a f
        along m n j mem g =
            let c = w.on-chains.source m j in
            (c.0, i x c.0 (rw is_held at c.1), (m, i (number (labels wide) (chain c.0)) m c.2, (n, mem, i (number (labels wide) (property m n)) f g)))

        side : On strings f ⊎ On values f → Finding wide x a f
        side (inl g) =
            let c = w.under_first.source f g in
            along c.0 c.2.0 c.1 (rw (one c.2.0 1 c.2.1) (Memᴰ.head refl)) c.2.2
        side (inr g) =
            let c = w.under-second.source f g in
            along c.0 c.2.0 c.1 (rw (one c.2.0 2 c.2.1) (Memᴰ.tail (Memᴰ.head refl))) c.2.2

    finds : {a : Table} → Was a → Within a (table_of wide t) → (f : ℕ) → is_function p.sheet f ≡ true → Finding wide x a f → On fs f
    unfolding names_of
    finds {a} w i f is h = among (union strings values) lays is-fs f (side (Memᴰ.cases_cons h.2.2.1)) is
      where
        m : ℕ
        m = h.2.0

        j : On on m
        j = told-all w.on-chains h.0 m (rw is_held (i x h.0 h.1)) h.2.1

        side : (h.2.2.0 ≡ 1) ⊎ Memᴰ h.2.2.0 (2 ∷ []) → On (union strings values) f
        side (inl e) = on-left strings values f (told-all w.under_first m f j (1, Memᴰ.head refl, rw e at h.2.2.2))
        side (inr q) =
            on-right strings values f (told-all w.under-second m f j (2, Memᴰ.head refl, rw (one h.2.2.0 2 q) at h.2.2.2))

    -- the function of a fact that prim tells, and what it is told by
    record Converted (a : Table) (r l : ℕ) : Type 0 where
      function : ℕ
      is : is_function p.sheet function ≡ true
      finding : Finding wide x a function
      told : Told (labels wide) a (Entered p k x function) r l

    converted : (a : Table) (r l : ℕ) → Told (labels wide) a (converting p k x) r l → Converted a r l
    converted a r l h =
        let f = h.2.2.2.0 in
        let q = when-told (labels wide) a (Entered p k x f) (is_function p.sheet f) r l h.2.2.2.2 in
        record { function = f; is = q.0; finding = (h.0, h.1, (h.2.0, h.2.1, (h.2.2.0, h.2.2.1, h.2.2.2.1))); told = q.1 }

    -- no function is found
    pub converts-nothing : fs ≡ 0 → Applies wide o p (tells wide (converting p k x)) t keeps t last false
    converts-nothing z =
        record { uses = λ old since m. used-nothing (λ r l h. none (table_of wide old) (was old since m) since r l h); memory = λ old since m. remembers old since m }
      where
        none : (a : Table) → Was a → Within a (table_of wide t) → (r l : ℕ) → Told (labels wide) a (converting p k x) r l → ⊥
        none a w i r l h =
            let q = converted a r l h in
            none-on fs q.function z (finds w i q.function q.is q.finding)

    pub convert-applies : {u v hurled thrown-on : List ℕ} {a b : Bool} → Applies wide o p (spreading wide p (input 0) fs held) t last u hurled a
        → Applies wide o p (gathering wide p (number (labels wide) (thrown k)) throws fs) u hurled v thrown-on b
        → Applies wide o p (tells wide (converting p k x)) t keeps v thrown-on (a || b)
    convert-applies handed hurls =
        let both = applies-then apart handed hurls in
        record {
          uses =
              λ old since m. used-for apart (λ a i r l h. forth (was old since m) a i r l h) (λ r l h. back (was old since m) since r l h)
              (both.uses old since (remembers old since m));
          memory = λ old since m. both.memory old since (remembers old since m);
        }
      where
        first-formal : (f : ℕ) → get_or p.sheet.formals (7 * f + 0) 0 ≡ this_of p.sheet f
        first-formal f = ap (λ (n : ℕ). get_or p.sheet.formals n 0) (add-zero (7 * f))

        forth : {old : Table} → Was old → (a : Table) → Within (table_of wide t) a → (r l : ℕ)
            → spreading wide p (input 0) fs held a r l ⊎ gathering wide p (number (labels wide) (thrown k)) throws fs a r l
            → Told (labels wide) a (converting p k x) r l
        forth w a i r l h = go h
          where
            tell : (f : ℕ) → On fs f → Told (labels wide) a (Entered p k x f) r l → Told (labels wide) a (converting p k x) r l
            tell f j q =
                let g = found w a i f j in
                (g.0, g.1, (g.2.0, g.2.1, (g.2.2.0, g.2.2.1, (f, g.2.2.2, told-when (labels wide) a (Entered p k x f) (is_function p.sheet f) r l (functions-are (union strings values) lays is-fs f j) q))))

            go : spreading wide p (input 0) fs held a r l ⊎ gathering wide p (number (labels wide) (thrown k)) throws fs a r l
                → Told (labels wide) a (converting p k x) r l
            go (inl h) =
                let e : r ≡ this_of p.sheet h.0 = h.2.0 ∙ first-formal h.0 in
                tell h.0 h.1 (inl (rw (← e) h.2.1, e, i x l (rw is_held at h.2.2)))
            go (inr h) = tell h.2.0 h.2.1 (inr (h.0, h.1, h.2.2))

        back : {a : Table} → Was a → Within a (table_of wide t) → (r l : ℕ) → Told (labels wide) a (converting p k x) r l
            → spreading wide p (input 0) fs held a r l ⊎ gathering wide p (number (labels wide) (thrown k)) throws fs a r l
        back {a} w i r l h = go q.told
          where
            q : Converted a r l
            q = converted a r l h

            j : On fs q.function
            j = finds w i q.function q.is q.finding

            go : Told (labels wide) a (Entered p k x q.function) r l
                → spreading wide p (input 0) fs held a r l ⊎ gathering wide p (number (labels wide) (thrown k)) throws fs a r l
            go (inl g) = inl (q.function, j, (g.1 ∙ sym (first-formal q.function), rw g.1 g.0, rw is_held (i x l g.2)))
            go (inr g) = inr (g.0, g.1, (q.function, j, g.2))
