-- The rules of chains: what their uses come to. Assumes nothing.
use mathlib.Core.Path.{◌≡◌, refl, sym, ap, ◌∙◌, subst}
use mathlib.Core.Logic.{◌⊎◌, inl, inr, ◌↔◌}
use mathlib.Core.Bool.{Bool, true, false, ◌||◌}
use mathlib.Core.List.Memᴰ
use mathlib.Core.List.{List, [], ◌∷◌, Memᴰ}
use Prim.Native.Nat.{ℕ, ◌+◌, ◌^◌, ◌<◌}
use native.Mathlib.Decide.{ℕ_discrete}
use native.Mathlib.Omega.{arith}
use lib.ListN.{get_or, take}
use lib.Seq.{get_or-take}
use borrow.Author.Tests.{ne_eqb}
use Rattle.words.specs.Words.{union}
use Rattle.words.proofs.Bits.{On, empty-off, on-union, on-left, on-right, on-single, single-only}
use Rattle.rows.specs.Edition.{labels, words}
use Rattle.rows.specs.Row.{number, chain, row_count}
use Rattle.rules.specs.Table.{Table, Has, Within}
use Rattle.rules.specs.Rule.{Rule, give, over, when, chosen}
use Rattle.rules.specs.Told.{Told}
use Rattle.rules.proofs.Labels.{chosen-passes, passes-chosen}
use Rattle.format.specs.Sheet.{declared}
use Rattle.program.specs.Program.{Program}
use Rattle.analysis.specs.Rules.{parents_of, chain_rule}
use Rattle.lent.specs.Stored.{Joined}
use Rattle.uses.specs.Use.{Apart, table_of, Since, tells, Used}
use Rattle.uses.proofs.Use.{used-join}
use Rattle.kept.specs.Promise.{chains, Tells, Answer, Tellings, Remembers}
use Rattle.shared.specs.Apply.{Applies}
use Rattle.shared.proofs.Applied.{remembers-on, applies-for, applies-then, applies-nothing}
use Rattle.lines.specs.Chain.{chain_by}

-- ---- prototypes

-- a label of the narrow edition is one of each
pub low-label : (wide : Bool) {l : ℕ} → l < 64 → l < labels wide
low-label true h = omega arith
low-label false h = omega arith

-- l and the one member of a list
pub on-first : (s l m : ℕ) (ms : List ℕ) → s ≡ union (2 ^ l) (2 ^ m) → ms ≡ m ∷ [] → (q : ℕ) → On s q ↔ ((q ≡ l) ⊎ Memᴰ q ms)
on-first s l m ms e f q = (λ h. forth (on-union (2 ^ l) (2 ^ m) q (rw e at h)), back)
  where
    forth : On (2 ^ l) q ⊎ On (2 ^ m) q → (q ≡ l) ⊎ Memᴰ q ms
    forth (inl h) = inl (single-only l q h)
    forth (inr h) = inr (rw f (Memᴰ.head (single-only m q h)))

    back : (q ≡ l) ⊎ Memᴰ q ms → On s q
    back (inl h) = rw (e, h) (on-left (2 ^ l) (2 ^ m) l (on-single l))
    back (inr h) = let g = Memᴰ.eq_of_singleton (rw f at h) in rw (e, g) (on-right (2 ^ l) (2 ^ m) m (on-single m))

-- three labels
pub on-three : (s i j k : ℕ) → s ≡ union (2 ^ i) (union (2 ^ j) (2 ^ k)) → (q : ℕ) → On s q ↔ Memᴰ q (i ∷ j ∷ k ∷ [])
on-three s i j k e q = (λ h. forth (on-union (2 ^ i) (union (2 ^ j) (2 ^ k)) q (rw e at h)), λ h. back (Memᴰ.cases_cons h))
  where
    later : On (2 ^ j) q ⊎ On (2 ^ k) q → Memᴰ q (i ∷ j ∷ k ∷ [])
    later (inl h) = Memᴰ.tail (Memᴰ.head (single-only j q h))
    later (inr h) = Memᴰ.tail (Memᴰ.tail (Memᴰ.head (single-only k q h)))

    forth : On (2 ^ i) q ⊎ On (union (2 ^ j) (2 ^ k)) q → Memᴰ q (i ∷ j ∷ k ∷ [])
    forth (inl h) = Memᴰ.head (single-only i q h)
    forth (inr h) = later (on-union (2 ^ j) (2 ^ k) q h)

    behind : (q ≡ j) ⊎ Memᴰ q (k ∷ []) → On (union (2 ^ j) (2 ^ k)) q
    behind (inl h) = rw h (on-left (2 ^ j) (2 ^ k) j (on-single j))
    behind (inr h) = rw (Memᴰ.eq_of_singleton h) (on-right (2 ^ j) (2 ^ k) k (on-single k))

    back : (q ≡ i) ⊎ Memᴰ q (j ∷ k ∷ []) → On s q
    back (inl h) = rw (e, h) (on-left (2 ^ i) (union (2 ^ j) (2 ^ k)) i (on-single i))
    back (inr h) = rw e (on-right (2 ^ i) (union (2 ^ j) (2 ^ k)) q (behind (Memᴰ.cases_cons h)))

-- ---- one chain

-- the chain of l was `held`, `on` is what its members' chains tell, `first` what is on it at once
module _ (wide : Bool) (p : Program) (first kind l : ℕ) {held on : ℕ} {old t : Table} (a : Answer (Tells wide p chains) old t held 0 on)
    (holds : held ≡ get_or t (number (labels wide) (chain l)) 0) (is-first : (m : ℕ) → On first m ↔ ((m ≡ l) ⊎ Memᴰ m (parents_of kind))) where
  -- what is joined is told
  joined-told : (r q : ℕ) → r ≡ number (labels wide) (chain l) → On first q ⊎ On on q → Told (labels wide) t (chain_by kind l) r q
  joined-told r q e (inl h) = elim ((is-first q).0 h) [ inl g ↦ inl (omega arith, e, g) | inr g ↦ inr (inl (q, g, (omega arith, e, refl))) ]
  joined-told r q e (inr h) = let b = a.source q h in inr (inr (b.0, rw (← holds) b.1, (omega arith, e, b.2)))

  member-told : (m q : ℕ) → On held m → Has old (number (labels wide) (chain m)) q → On on q
  member-told m q h g = elim (a.all m q h g) [ inl b ↦ b | inr b ↦ absurd (empty-off q b) ]

  -- what is told is joined
  told-joined : Within old t → (r q : ℕ) → Told (labels wide) old (chain_by kind l) r q → (r ≡ number (labels wide) (chain l)) × (On first q ⊎ On on q)
  told-joined since r q (inl h) = (h.1, inl ((is-first q).1 (inl h.2)))
  told-joined since r q (inr (inl h)) = (h.2.1, inl ((is-first q).1 (inr (rw h.2.2 h.1))))
  told-joined since r q (inr (inr h)) =
      (h.2.1, inr (member-told h.0 q (rw holds (since (number (labels wide) (chain l)) h.0 h.1)) h.2.2))

module _ {wide : Bool} {o : ℕ} {p : Program} where
  -- the label, its prototype and what the chains of the chain's members tell, joined at once
  pub chain-applies : {row held on s : ℕ} {t u keeps kept : List ℕ} {grew : Bool} (first kind l : ℕ) → Apart wide o → row ≡ number (labels wide) (chain l)
      → row < row_count (labels wide) → held ≡ get_or (table_of wide t) row 0 → Tellings wide p chains t held 0 on keeps kept
      → ((m : ℕ) → On first m ↔ ((m ≡ l) ⊎ Memᴰ m (parents_of kind))) → s ≡ union first on → Joined (words wide) o row s t u grew
      → Applies wide o p (tells wide (chain_by kind l)) t keeps u kept grew
  chain-applies {row} {held} {on} {s} {t} {u} {keeps} {kept} {grew} first kind l w e i is_held tell is-first is-s j =
      record { uses = used; memory = λ old since m. remembers-on w (used old since m).only (tell o old since m).1 }
    where
      holds : held ≡ get_or (table_of wide t) (number (labels wide) (chain l)) 0
      holds = is_held ∙ ap (λ (x : ℕ). get_or (table_of wide t) x 0) e

      joins : (q : ℕ) → On first q ⊎ On on q → On s q
      joins q (inl h) = rw is-s (on-left first on q h)
      joins q (inr h) = rw is-s (on-right first on q h)

      used : (old : List ℕ) → Since wide old t → Remembers wide o p old t keeps → Used wide o (tells wide (chain_by kind l)) old t u grew
      used old since m =
          let a = (tell o old since m).0 in
          used-join row s i (λ q h z. joined-told wide p first kind l a holds is-first row q e (on-union first on q (rw is-s at h)))
          (λ r q h. (let b = told-joined wide p first kind l a holds is-first since r q h in (omega (arith, e), b.0 ∙ sym e, inl (joins q b.1)))) j

  -- ---- each declared label

  -- a label of type 0 has no chain
  pub no-chain : {t keeps : List ℕ} (types : List ℕ) (l : ℕ) → l < labels wide → p.sheet.types ≡ take (labels wide) types → get_or types l 0 ≡ 0
      → Applies wide o p (tells wide (when (declared p.sheet l) (chain_rule p.sheet l))) t keeps t keeps false
  no-chain types l i e z = applies-nothing (λ a within r q h. none a r q h)
    where
      zeroed : get_or p.sheet.types l 0 ≡ 0
      zeroed = ap (λ (x : List ℕ). get_or x l 0) e ∙ get_or-take (labels wide) types l 0 i ∙ z

      none : (a : Table) (r q : ℕ) → Told (labels wide) a (when (declared p.sheet l) (chain_rule p.sheet l)) r q → ⊥
      none a r q h = rw zeroed at h

  -- a label of another type has that type's
  pub type-chain : {t u keeps kept : List ℕ} {grew : Bool} (types : List ℕ) (kind l : ℕ) → l < labels wide → p.sheet.types ≡ take (labels wide) types
      → kind ≡ get_or types l 0 → (kind ≡ 0 → ⊥) → Applies wide o p (tells wide (chain_by kind l)) t keeps u kept grew
      → Applies wide o p (tells wide (when (declared p.sheet l) (chain_rule p.sheet l))) t keeps u kept grew
  type-chain types kind l i e k d a = rw (typed, ne_eqb kind 0 d) a
    where
      typed : get_or p.sheet.types l 0 ≡ kind
      typed = ap (λ (x : List ℕ). get_or x l 0) e ∙ get_or-take (labels wide) types l 0 i ∙ sym k

  -- no label yet
  pub lines_none : {t keeps : List ℕ} (f : ℕ → Bool) (k : ℕ → Rule) → Applies wide o p (tells wide (over (chosen f 0) k)) t keeps t keeps false
  lines_none f k = applies-nothing (λ a i r q h. omega (arith, (chosen-passes f 0 h.0 h.1).0))

  -- one label more
  pub lines_next : {t u v keeps kept left : List ℕ} {a b : Bool} (f : ℕ → Bool) (k : ℕ → Rule) (n : ℕ) → Apart wide o
      → Applies wide o p (tells wide (over (chosen f n) k)) t keeps u kept a → Applies wide o p (tells wide (when (f n) (k n))) u kept v left b
      → Applies wide o p (tells wide (over (chosen f (n + 1)) k)) t keeps v left (a || b)
  lines_next {t} f k n w first second = applies-for w (λ a i r q h. forth a r q h) (λ a i r q h. back a r q h) (applies-then w first second)
    where
      Next : Table → ℕ → ℕ → Type 0
      Next a r q = Told (labels wide) a (over (chosen f n) k) r q ⊎ Told (labels wide) a (when (f n) (k n)) r q

      passed : (a : Table) (r q : ℕ) (b : Bool) → f n ≡ b → Told (labels wide) a (when b (k n)) r q → Told (labels wide) a (over (chosen f (n + 1)) k) r q
      passed a r q true e h = (n, passes-chosen f (n + 1) n (omega arith) e, h)
      passed a r q false e h = absurd h

      forth : (a : Table) (r q : ℕ) → Next a r q → Told (labels wide) a (over (chosen f (n + 1)) k) r q
      forth a r q (inl h) = let c = chosen-passes f n h.0 h.1 in (h.0, passes-chosen f (n + 1) h.0 (omega (arith, c.0)) c.1, h.2)
      forth a r q (inr h) = passed a r q (f n) refl h

      back : (a : Table) (r q : ℕ) → Told (labels wide) a (over (chosen f (n + 1)) k) r q → Next a r q
      back a r q h = go (ℕ_discrete h.0 n) (chosen-passes f (n + 1) h.0 h.1)
        where
          go : Dec (h.0 ≡ n) → (h.0 < n + 1) × (f h.0 ≡ true) → Next a r q
          go (yes e) c = let is : f n ≡ true = ap f (sym e) ∙ c.1 in inr (rw is (subst (λ (x : ℕ). Told (labels wide) a (k x) r q) e h.2))
          go (no d) c = inl (h.0, passes-chosen f n h.0 (omega (arith, d, c.0)) c.1, h.2)

-- ---- the guest

pub guest-used : {wide : Bool} {o row s : ℕ} {t u : List ℕ} {grew : Bool} (g : ℕ) (ms : List ℕ) → row ≡ number (labels wide) (chain g)
    → row < row_count (labels wide) → ((m : ℕ) → On s m ↔ Memᴰ m ms) → Joined (words wide) o row s t u grew
    → Used wide o (tells wide (over ms (λ m. give (chain g) m))) t t u grew
guest-used {wide} {o} {row} {s} {t} g ms e i is j =
    used-join row s i (λ q h z. (q, (is q).0 h, (omega arith, e, refl)))
    (λ r q h. (omega (arith, e), h.2.1 ∙ sym e, inl ((is q).1 (rw h.2.2 h.1)))) j
