-- A record only adds: what the sheet says of a label or a variable stays said, so a byte that is good stays good under every later sheet.
-- Assumes nothing.
use mathlib.Core.Path.{◌≡◌, refl, sym, ap, ◌∙◌}
use mathlib.Core.List.{List, [], ◌∷◌}
use mathlib.Core.Bool.{true, not, ◌&&◌}
use Prim.Native.Nat.{ℕ, ◌+◌, ◌*◌, ◌<◌, ◌≤◌}
use native.Mathlib.Omega.{arith}
use native.Mathlib.Decide.{dec_lt}
use lib.ListN.{length, get_or, set, length-set, get_or-eq_default}
use lib.Seq.{get_or-set_other, length-paste}
use lib.Dec.{eqb, leb}
use borrow.Author.Tests.{eq-eqb, eqb-true}
use Rattle.layout.specs.Layout.{Class, name, mask, new_label, type, flag, any_label, host_label, function_label, plain_label, data_label, scope, new_variable, variable, declared_variable, global_variable, variable_name, name_class, key}
use Rattle.format.specs.Sheet.{Sheet, type_of, owner_of, declared, known}
use Rattle.format.specs.Fields.{good, Fits}
use Rattle.format.specs.Records.{Record, WellFormed, after}
use Rattle.format.specs.Reading.{sheet_after, AllWellFormed}
use Rattle.format.proofs.Tests.{and-map, or_map}
use Rattle.format.proofs.Fields.{fits-length}
use Rattle.format.proofs.Effect.{Effect, gives-mask, declares-label, forbids, defines, declares-variable, holds-guests, leaves-sheet, effect, not_equal, Function}

-- the arrays have their lengths
pub record Sized (L : ℕ) (s : Sheet) : Type 0 where
  pub types-length : length s.types ≡ L
  pub flags-length : length s.flags ≡ L
  pub defined-length : length s.defined ≡ L
  pub formals-length : length s.formals ≡ 7 * L
  pub masks-length : length s.masks ≡ 32
  pub owners-length : length s.owners ≡ 256
  pub names-length : length s.names ≡ 256

-- what is not the default stands at an index of the list
pub inside : (xs : List ℕ) (i d : ℕ) → (get_or xs i d ≡ d → ⊥) → i < length xs
inside xs i d h = elim (dec_lt i (length xs)) [ yes p ↦ p | no p ↦ absurd (h (get_or-eq_default xs d (omega arith))) ]

-- a store where nothing but the default stood leaves all else that is said as it is
pub set_keeps : (xs : List ℕ) (i x d j : ℕ) → get_or xs i d ≡ d → (get_or xs j d ≡ d → ⊥) → get_or (set xs i x) j d ≡ get_or xs j d
set_keeps xs i x d j e h = get_or-set_other xs i j x d (λ q. h (ap (λ (n : ℕ). get_or xs n d) q ∙ e))

-- s' says all that s says
pub record Extends (s s' : Sheet) : Type 0 where
  pub types-kept : (l : ℕ) → (type_of s l ≡ 0 → ⊥) → type_of s' l ≡ type_of s l
  pub owners-kept : (v : ℕ) → (owner_of s v ≡ 1 → ⊥) → owner_of s' v ≡ owner_of s v
  pub sizes-kept : (L : ℕ) → Sized L s → Sized L s'

pub extends-refl : (s : Sheet) → Extends s s
extends-refl s = record { types-kept = λ l h. refl; owners-kept = λ v h. refl; sizes-kept = λ L z. z }

pub extends-trans : {s t u : Sheet} → Extends s t → Extends t u → Extends s u
extends-trans p q =
    record {
      types-kept = λ l h. q.types-kept l (λ z. h (sym (p.types-kept l h) ∙ z)) ∙ p.types-kept l h;
      owners-kept = λ v h. q.owners-kept v (λ z. h (sym (p.owners-kept v h) ∙ z)) ∙ p.owners-kept v h;
      sizes-kept = λ L z. q.sizes-kept L (p.sizes-kept L z);
    }

-- ---- each record, and so all of them, extend the sheet

-- a sheet whose arrays are as long as those of one that has its lengths
sized-as : (L : ℕ) (s s' : Sheet) → Sized L s → length s'.types ≡ length s.types → length s'.flags ≡ length s.flags
    → length s'.defined ≡ length s.defined → length s'.formals ≡ length s.formals → length s'.masks ≡ length s.masks
    → length s'.owners ≡ length s.owners → length s'.names ≡ length s.names → Sized L s'
sized-as L s s' z t f d p m o n =
    record {
      types-length = t ∙ z.types-length;
      flags-length = f ∙ z.flags-length;
      defined-length = d ∙ z.defined-length;
      formals-length = p ∙ z.formals-length;
      masks-length = m ∙ z.masks-length;
      owners-length = o ∙ z.owners-length;
      names-length = n ∙ z.names-length;
    }

pub declared-below : (L : ℕ) (s : Sheet) (l : ℕ) → Sized L s → (type_of s l ≡ 0 → ⊥) → l < L
declared-below L s l z d = omega (arith, inside s.types l 0 d, z.types-length)

pub function-below : (L : ℕ) (s : Sheet) (l : ℕ) → Sized L s → Function s.types l → l < L
function-below L s l z f = declared-below L s l z (λ e. omega (arith, f.is-function))

-- the seven places of a function's variables
pub function-room : (L : ℕ) (s : Sheet) (l : ℕ) → Sized L s → Function s.types l → 7 * l + 7 ≤ length s.formals
function-room L s l z f = omega (arith, function-below L s l z f, z.formals-length)

pub effect-extends : {L : ℕ} {s : Sheet} {k : ℕ} {b : List ℕ} {s' : Sheet} → Effect L s k b s' → Extends s s'
effect-extends {s = s} (gives-mask n m hn hm e) =
    record {
      types-kept = λ l h. refl;
      owners-kept = λ v h. refl;
      sizes-kept = λ L z. sized-as L s _ z refl refl refl refl (length-set s.masks n m) refl refl;
    }
effect-extends {s = s} (declares-label l t f h5 hL h1 h3 hf e) =
    record {
      types-kept = λ j h. set_keeps s.types l t 0 j e h;
      owners-kept = λ v h. refl;
      sizes-kept = λ L z. sized-as L s _ z (length-set s.types l t) (length-set s.flags l f) refl refl refl refl refl;
    }
effect-extends {s = s} (forbids l d) =
    record { types-kept = λ l h. refl; owners-kept = λ v h. refl; sizes-kept = λ L z. sized-as L s _ z refl refl refl refl refl refl refl }
effect-extends {L = L} {s = s} (defines l vs f g e) =
    record {
      types-kept = λ l h. refl;
      owners-kept = λ v h. refl;
      sizes-kept = λ M z.
          sized-as M s _ z refl refl (length-set s.defined l 1)
          (length-paste s.formals (7 * l) vs 7 (function-room M s l z f) (omega (arith, fits-length L s _ vs g)))
          refl refl refl;
    }
effect-extends {s = s} (declares-variable v k n h2 h255 hk hn e) =
    record {
      types-kept = λ l h. refl;
      owners-kept = λ j h. set_keeps s.owners v k 1 j e h;
      sizes-kept = λ L z. sized-as L s _ z refl refl refl refl refl (length-set s.owners v k) (length-set s.names v n);
    }
effect-extends {s = s} (holds-guests c h e) =
    record { types-kept = λ l h. refl; owners-kept = λ v h. refl; sizes-kept = λ L z. sized-as L s _ z refl refl refl refl refl refl refl }
effect-extends {s = s} (leaves-sheet k b p q) = extends-refl s

pub record-extends : (L : ℕ) (s : Sheet) (r : Record) → WellFormed L s r → Extends s (after s r.kind r.body)
record-extends L s r w = effect-extends (effect L s r w)

pub records-extend : (L : ℕ) (s : Sheet) (rs : List Record) → AllWellFormed L s rs → Extends s (sheet_after s rs)
unfolding sheet_after AllWellFormed
records-extend L s [] w = extends-refl s
records-extend L s (r ∷ rs) w = extends-trans (record-extends L s r w.0) (records-extend L (after s r.kind r.body) rs w.1)

-- ---- a good byte stays good

module _ (L : ℕ) (s s' : Sheet) (x : Extends s s') where
  type-stays : (l t : ℕ) → (t ≡ 0 → ⊥) → eqb (type_of s l) t ≡ true → eqb (type_of s' l) t ≡ true
  type-stays l t h e =
      let q : type_of s l ≡ t = eqb-true _ _ e in
      eq-eqb _ _ (x.types-kept l (λ z. h (sym q ∙ z)) ∙ q)

  declared-stays : (l : ℕ) → declared s l ≡ true → declared s' l ≡ true
  declared-stays l e = let h = not_equal (type_of s l) 0 e in rw (x.types-kept l h) e

  known-stays : (v : ℕ) → known s v ≡ true → known s' v ≡ true
  known-stays v e = let h = not_equal (owner_of s v) 1 e in rw (x.owners-kept v h) e

  global-stays : (v : ℕ) → eqb (owner_of s v) 0 ≡ true → eqb (owner_of s' v) 0 ≡ true
  global-stays v e =
      let q : owner_of s v ≡ 0 = eqb-true _ _ e in
      eq-eqb _ _ (x.owners-kept v (λ z. omega arith) ∙ q)

  function-stays : (l : ℕ) → (leb 5 l && eqb (type_of s l) 2) ≡ true → (leb 5 l && eqb (type_of s' l) 2) ≡ true
  function-stays l = and-map (leb 5 l) _ _ (type-stays l 2 (λ z. omega arith))

  plain-stays : (l : ℕ) → eqb (type_of s l) 1 ≡ true → eqb (type_of s' l) 1 ≡ true
  plain-stays l = type-stays l 1 (λ z. omega arith)

  pub good-stays : (c : Class) (b : ℕ) → good L s c b ≡ true → good L s' c b ≡ true
  unfolding good
  good-stays name b e = e
  good-stays mask b e = e
  good-stays new_label b e = e
  good-stays type b e = e
  good-stays flag b e = e
  good-stays any_label b e = declared-stays b e
  good-stays host_label b e = and-map (not (eqb b 3)) _ _ (declared-stays b) e
  good-stays function_label b e = function-stays b e
  good-stays plain_label b e = and-map (leb 5 b) _ _ (plain-stays b) e
  good-stays data_label b e =
      and-map (leb 5 b) _ _ (or_map (eqb (type_of s b) 1) (eqb (type_of s b) 3) _ _ (plain-stays b) (type-stays b 3 (λ z. omega arith))) e
  good-stays scope b e = or_map (eqb b 0) _ (eqb b 0) _ (λ q. q) (function-stays b) e
  good-stays new_variable b e = e
  good-stays variable b e = or_map (eqb b 0) _ (eqb b 0) _ (λ q. q) (known-stays b) e
  good-stays declared_variable b e = known-stays b e
  good-stays global_variable b e = global-stays b e
  good-stays variable_name b e = e
  good-stays name_class b e = e
  good-stays key b e = e

  pub fits-stays : (cs : List Class) (bs : List ℕ) → Fits L s cs bs → Fits L s' cs bs
  unfolding Fits
  fits-stays [] [] f = f
  fits-stays [] (b ∷ bs) f = f
  fits-stays (c ∷ cs) [] f = f
  fits-stays (c ∷ cs) (b ∷ bs) f = (good-stays c b f.0, fits-stays cs bs f.1)
