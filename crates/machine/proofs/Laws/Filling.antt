-- Laws of the start: what the records of kinds 7 and 8 put in it. Assumes nothing.
use mathlib.Core.Path.{◌≡◌, refl, ap, ◌∙◌, sym, subst}
use mathlib.Core.Logic.{◌⊎◌}
use mathlib.Core.List.Memᴰ
use mathlib.Core.List.{List, [], ◌∷◌, ◌++◌, map, Memᴰ}
use mathlib.Core.Bool.{true, false, ◌&&◌}
use mathlib.Core.Option.{some}
use Prim.Native.Nat.{ℕ, suc, ◌+◌, ◌<◌}
use native.Mathlib.Omega.{arith}
use native.Mathlib.Decide.{ℕ_discrete}
use borrow.Author.Tests.{eq-eqb, ne_eqb}
use lib.ListN.{length, get_or, length-set}
use lib.Seq.{get_or-set_same}
use lib.Dec.{eqb}
use Rattle.program.specs.Statement as say
use Rattle.program.specs.Program.{Program}
use Rattle.machine.specs.State.{Value, object, State, no_object, object_at, set_object, with_value}
use Rattle.machine.specs.Variable.{global_object, write}
use Rattle.machine.specs.Start.{Filling, property, held, nothing, filling_of, fillings, first_labels, start_labels, place_in, top_frame, unfilled, is_property_of, number_among, fill_one, fill, start}
use Rattle.machine.specs.Grown.{Grown}
use Rattle.machine.specs.Seen.{Bag, Named, Holds, in-bag, in-global, in_frame, Writable, Apart}
use Rattle.machine.specs.Laws.{StartVariables, StartProperties}
use Rattle.machine.specs.Begun.{StandsFor, LastOf, Numbered, no_record, one_more, another}
use Rattle.machine.proofs.Laws.Grown.{grown-refl, grown-trans, grown-value}
use Rattle.machine.proofs.Laws.Writing.{SameNumber, write-number, writable-was, nearest-stays, stored-elsewhere, pair-stays, write-spares, written}
use Rattle.machine.proofs.Laws.Labels.{Fills, property-fills, held-fills, nothing-fills, fills, Listed, property-listed, held-listed, fillings-begin, place-of, length-start}
use Rattle.machine.proofs.Laws.Beginning.{grown-one, grown-fill, host-listed, stands-for}

-- ---- up to a record

-- the fillings before it, the last first, and the state that they leave
abbrev pushed : List (ℕ × say.Statement) → List Filling → List Filling
pushed [] earlier = earlier
pushed (b ∷ bs) earlier = pushed bs (filling_of b.1 ∷ earlier)

abbrev passed : Program → List ℕ → List (ℕ × say.Statement) → List Filling → State → State
passed p ls [] earlier s = s
passed p ls (b ∷ bs) earlier s = passed p ls bs (filling_of b.1 ∷ earlier) (fill_one p ls earlier s (filling_of b.1))

abbrev filled : List (ℕ × say.Statement) → List Filling
filled ss = map (λ s. filling_of s.1) ss

up_to : (p : Program) (ls : List ℕ) (before after : List (ℕ × say.Statement)) (earlier : List Filling) (s : State)
    → fill p ls earlier s (filled (before ++ after)) ≡ fill p ls (pushed before earlier) (passed p ls before earlier s) (filled after)
up_to p ls [] after earlier s = refl
up_to p ls (b ∷ bs) after earlier s = up_to p ls bs after (filling_of b.1 ∷ earlier) (fill_one p ls earlier s (filling_of b.1))

grown-passed : (p : Program) (ls : List ℕ) (before : List (ℕ × say.Statement)) (earlier : List Filling) (s : State) → Grown s (passed p ls before earlier s)
grown-passed p ls [] earlier s = grown-refl s
grown-passed p ls (b ∷ bs) earlier s =
    grown-trans (grown-one p ls earlier s (filling_of b.1)) (grown-passed p ls bs (filling_of b.1 ∷ earlier) (fill_one p ls earlier s (filling_of b.1)))

fill-number : (p : Program) (ls : List ℕ) (earlier : List Filling) (s : State) (xs : List Filling) → SameNumber s (fill p ls earlier s xs)
fill-number p ls earlier s [] = record { of-objects = refl; of-frames = refl }
fill-number p ls earlier s (a ∷ rest) =
    let h = one a in
    let k = fill-number p ls (a ∷ earlier) (fill_one p ls earlier s a) rest in
    record { of-objects = k.of-objects ∙ h.of-objects; of-frames = k.of-frames ∙ h.of-frames }
  where
    one : (a : Filling) → SameNumber s (fill_one p ls earlier s a)
    one (property l n m) = record { of-objects = length-set s.objects _ _; of-frames = refl }
    one (held v l) = write-number p s top_frame v _
    one nothing = record { of-objects = refl; of-frames = refl }

-- ---- the number of a record of kind 7

is-property : (l n m : ℕ) → is_property_of l n (property l n m) ≡ true
is-property l n m = rw (eq-eqb l l refl, eq-eqb n n refl)

is-another : (l n : ℕ) (a : say.Statement) → ((m : ℕ) → a ≡ say.property l n m → ⊥) → Fills a → is_property_of l n (filling_of a) ≡ false
is-another l n _ h (property-fills l' n' m) = go (ℕ_discrete l l') (ℕ_discrete n n')
  where
    go : Dec (l ≡ l') → Dec (n ≡ n') → (eqb l l' && eqb n n') ≡ false
    go (no e) d = rw (ne_eqb l l' e)
    go (yes e) (no e') = rw (eq-eqb l l' e, ne_eqb n n' e')
    go (yes e) (yes e') = absurd (h m (cc))
is-another l n _ h (held-fills v m) = refl
is-another l n a h (nothing-fills _ e) = rw e

number_is : {l n j : ℕ} {before : List (ℕ × say.Statement)} (earlier : List Filling) → Numbered l n before j
    → number_among l n (pushed before earlier) ≡ j + number_among l n earlier
number_is earlier no_record = omega arith
number_is {l} {n} earlier (one_more at m j rest h) =
    let e : number_among l n (property l n m ∷ earlier) ≡ suc (number_among l n earlier) = rw (is-property l n m) (omega arith) in
    omega (arith, number_is (property l n m ∷ earlier) h)
number_is {l} {n} earlier (another at j a rest k h) =
    let e : number_among l n (filling_of a ∷ earlier) ≡ number_among l n earlier = rw (is-another l n a k (fills a)) (omega arith) in
    omega (arith, number_is (filling_of a ∷ earlier) h)

-- ---- from a record on

holds-stored : {p : Program} {f v : ℕ} {x : Value} (s : State) (i n j : ℕ) (y : Value) → (i ≡ global_object → Named p v n → ⊥) → Holds p s f v x
    → Holds p (set_object s i (with_value (object_at s i) n j y)) f v x
holds-stored s i n j y other (in-bag b m) = in-bag b m
holds-stored s i n j y other (in-global n' h e) =
    in-global n' h (stored-elsewhere s i n j y global_object n' 0 (λ a b c. other (sym a) (rw b at h)) ∙ e)
holds-stored s i n j y other (in_frame k g h q e) = in_frame k g h (nearest-stays (grown-value s i n j y) q) e

module _ (p : Program) where
  abbrev ls : List ℕ
  ls = start_labels p

  -- the object at the global object's place has label 0
  global-label : (l : ℕ) → Memᴰ l ls → global_object ≡ place_in ls l → l ≡ 0
  global-label l m e =
      let b = fillings-begin first_labels (fillings p) in
      sym (place-of l ls m).1 ∙ ap (λ (i : ℕ). get_or ls i 0) (sym e) ∙ b.same 1 (omega arith)

  holds_on : {f v : ℕ} {x : Value} (after : List (ℕ × say.Statement)) (earlier : List Filling) (s : State)
      → ((at : ℕ) (a : say.Statement) → Memᴰ (at, a) after → Listed ls (filling_of a)) → LastOf p v after → Holds p s f v x
      → Holds p (fill p ls earlier s (filled after)) f v x
  holds_on [] earlier s listed last h = h
  holds_on {f} {v} {x} (b ∷ after) earlier s listed last h =
      holds_on after (filling_of b.1 ∷ earlier) (fill_one p ls earlier s (filling_of b.1)) (λ at a m. listed at a (Memᴰ.tail m))
      (record { no-held = λ at u m q. last.no-held at u m (Memᴰ.tail q); no-property = λ at n m q. last.no-property at n m (Memᴰ.tail q) })
      (one b.1 (fills b.1) (listed b.0 b.1 (Memᴰ.head refl)) (λ u m e. last.no-held b.0 u m (Memᴰ.head (ap (λ (z : say.Statement). (b.0, z)) (sym e))))
      (λ n m e. last.no-property b.0 n m (Memᴰ.head (ap (λ (z : say.Statement). (b.0, z)) (sym e)))))
    where
      one : (a : say.Statement) → Fills a → Listed ls (filling_of a) → ((u m : ℕ) → a ≡ say.held u m → Bag p v ⊎ Apart p u v)
          → ((n m : ℕ) → a ≡ say.property 0 n m → Named p v n → ⊥) → Holds p (fill_one p ls earlier s (filling_of a)) f v x
      one _ (property-fills l n m) (property-listed _ _ _ hl hm) no-held no-property =
          holds-stored s (place_in ls l) n (number_among l n earlier) (object (place_in ls m))
          (λ e. let z : l ≡ 0 = global-label l hl (sym e) in no-property n m (cc)) h
      one _ (held-fills u m) _ no-held no-property = write-spares p s top_frame u _ (no-held u m refl) h
      one a (nothing-fills _ e) _ no-held no-property = rw e h

  -- what holds of the state that a record and those behind it leave, holds of the start
  module _ (b : ℕ × say.Statement) (before after : List (ℕ × say.Statement)) (is : p.host ≡ before ++ (b ∷ after)) where
    abbrev reached : State
    reached = passed p ls before [] (unfilled p ls)

    start_is : start p ≡ fill p ls (pushed before []) reached (filled (b ∷ after))
    start_is = ap (λ (z : List (ℕ × say.Statement)). fill p ls [] (unfilled p ls) (filled z)) is ∙ up_to p ls before (b ∷ after) [] (unfilled p ls)

    listed : (at : ℕ) (a : say.Statement) → Memᴰ (at, a) (b ∷ after) → Listed ls (filling_of a)
    listed at a m = host-listed p at a (subst (λ (z : List (ℕ × say.Statement)). Memᴰ (at, a) z) (sym is) (Memᴰ.append_right before m))

    stands : (l : ℕ) → Memᴰ l ls → StandsFor p (start p) l (place_in ls l)
    stands l m = stands-for p (start p) l (grown-fill p ls [] (unfilled p ls) (fillings p)) m

  pub start-held : StartVariables p
  start-held at v l before after is last w =
      let b : ℕ × say.Statement = (at, say.held v l) in
      let s = reached b before after is in
      let e = start_is b before after is in
      let can = writable-was (grown-fill p ls (pushed before []) s (filled (b ∷ after))) (fill-number p ls (pushed before []) s (filled (b ∷ after)))
      (subst (λ (z : State). Writable p z top_frame v) e w) in (
        place_in ls l,
        stands b before after is l (label (listed b before after is at (say.held v l) (Memᴰ.head refl))),
        subst (λ (z : State). Holds p z top_frame v (object (place_in ls l))) (sym e)
            (holds_on after (held v l ∷ pushed before []) (write p s top_frame v (object (place_in ls l))) (λ at a m. listed b before after is at a (Memᴰ.tail m)) last
            (written (object (place_in ls l)) can)),
      )
    where
      label : Listed ls (held v l) → Memᴰ l ls
      label (held-listed _ _ m) = m

  pair-on : {l n j : ℕ} {x : Value} (after : List (ℕ × say.Statement)) (earlier : List Filling) (s : State) → Memᴰ l ls → j < number_among l n earlier
      → ((at : ℕ) (a : say.Statement) → Memᴰ (at, a) after → Listed ls (filling_of a))
      → ((at u m : ℕ) → Memᴰ (at, say.held u m) after → Named p u n → l ≡ 0 → j ≡ 0 → ⊥) → (object_at s (place_in ls l)).values n j ≡ some x
      → (object_at (fill p ls earlier s (filled after)) (place_in ls l)).values n j ≡ some x
  pair-on [] earlier s ml k listed last h = h
  pair-on {l} {n} {j} {x} (b ∷ after) earlier s ml k listed last h =
      pair-on after (filling_of b.1 ∷ earlier) (fill_one p ls earlier s (filling_of b.1)) ml (omega arith) (λ at a m. listed at a (Memᴰ.tail m))
      (λ at u m q. last at u m (Memᴰ.tail q))
      (one b.1 (fills b.1) (listed b.0 b.1 (Memᴰ.head refl))
      (λ u m e. last b.0 u m (Memᴰ.head (ap (λ (z : say.Statement). (b.0, z)) (sym e)))) ∙ h)
    where
      one : (a : say.Statement) → Fills a → Listed ls (filling_of a) → ((u m : ℕ) → a ≡ say.held u m → Named p u n → l ≡ 0 → j ≡ 0 → ⊥)
          → (object_at (fill_one p ls earlier s (filling_of a)) (place_in ls l)).values n j ≡ (object_at s (place_in ls l)).values n j
      one _ (property-fills l' n' m) (property-listed _ _ _ ml' mm) no-held =
          stored-elsewhere s (place_in ls l') n' (number_among l' n' earlier) (object (place_in ls m)) (place_in ls l) n j
          (λ e e' e''.
          let z : l ≡ l' = sym (place-of l ls ml).1 ∙ ap (λ (i : ℕ). get_or ls i 0) e ∙ (place-of l' ls ml').1 in
          let q : j ≡ number_among l n earlier = e'' ∙ rw (z, e') in
          omega arith)
      one _ (held-fills u m) _ no-held =
          pair-stays p s top_frame u (object (place_in ls m)) (place_in ls l) n j (λ a e e'. no-held u m refl a (global-label l ml (sym e)) e')
      one a (nothing-fills _ e) _ no-held = rw e

  pub start-property : StartProperties p
  start-property at l n m j before after is number last =
      let b : ℕ × say.Statement = (at, say.property l n m) in
      let s = reached b before after is in
      let e = start_is b before after is in
      let in_list = labels (listed b before after is at (say.property l n m) (Memᴰ.head refl)) in
      let x = object (place_in ls m) in
      let i = place_in ls l in
      let j-is : number_among l n (pushed before []) ≡ j = omega (arith, number_is [] number) in
      let there : i < length s.objects = omega (arith, (place-of l ls in_list.0).0, length-start p ls, (grown-passed p ls before [] (unfilled p ls)).more-objects) in (
        i,
        place_in ls m,
        stands b before after is l in_list.0,
        stands b before after is m in_list.1,
        subst (λ (z : State). (object_at z i).values n j ≡ some x) (sym e)
            (pair-on after (property l n m ∷ pushed before []) (set_object s i (with_value (object_at s i) n (number_among l n (pushed before [])) x)) in_list.0
            (rw (is-property l n m) (omega arith)) (λ at a q. listed b before after is at a (Memᴰ.tail q)) last
            (rw (j-is, get_or-set_same s.objects i (with_value (object_at s i) n j x) no_object there, eq-eqb n n refl, eq-eqb j j refl))),
      )
    where
      labels : Listed ls (property l n m) → Memᴰ l ls × Memᴰ m ls
      labels (property-listed _ _ _ a b) = (a, b)
