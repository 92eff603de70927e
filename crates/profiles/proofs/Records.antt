-- Records behind a record of kind 9: but for a second such record they are well formed whatever class guests are held to, and they declare the same.
-- Assumes nothing.
use mathlib.Core.Path.{◌≡◌, refl, sym, ap, subst, ◌∙◌}
use mathlib.Core.Logic.{◌⊎◌, inl, inr}
use mathlib.Core.List.Memᴰ
use mathlib.Core.List.{List, [], ◌∷◌, ◌++◌, Memᴰ}
use mathlib.Core.Bool.{Bool, true, false, true≢false}
use Prim.Native.Nat.{ℕ, ◌<◌}
use native.Mathlib.Omega.{arith}
use lib.Dec.{eqb}
use borrow.Author.Tests.{ne_eqb}
use Rattle.layout.specs.Layout.{fields_of}
use Rattle.format.specs.Sheet.{Sheet, with_profile}
use Rattle.format.specs.Records.{Record, WellFormed, twice, after}
use Rattle.format.proofs.Effect.{after_by}
use Rattle.format.specs.Reading.{sheet_after, AllWellFormed}
use Rattle.format.proofs.Later.{Extends, fits-stays}
use Rattle.format.proofs.Placed.{sheet-append}
use Rattle.profiles.specs.Profiles.{profile}

-- none of the records is of kind 9
abbrev pub Unprofiled : List Record → Type 0
Unprofiled rs = (r : Record) → Memᴰ r rs → r.kind ≡ 9 → ⊥

-- ---- one record

-- what else a sheet says does not depend on the class
class-extends : (s : Sheet) (c d : ℕ) → Extends (with_profile s c) (with_profile s d)
class-extends s c d =
    record {
      types-kept = λ l h. refl;
      owners-kept = λ v h. refl;
      sizes-kept = λ L z.
          record {
            types-length = z.types-length;
            flags-length = z.flags-length;
            defined-length = z.defined-length;
            formals-length = z.formals-length;
            masks-length = z.masks-length;
            owners-length = z.owners-length;
            names-length = z.names-length;
          };
    }

after-held : (s : Sheet) (c k : ℕ) (b : List ℕ) → (k ≡ 9 → ⊥) → after (with_profile s c) k b ≡ with_profile (after s k b) c
unfolding after
after-held s c k b n = rw (ne_eqb k 9 n) (go (eqb k 1) (eqb k 2) (eqb k 3) (eqb k 4) (eqb k 5))
  where
    go : (one two three four five : Bool) → after_by one two three four five false (with_profile s c) b ≡ with_profile (after_by one two three four five false s b) c
    go true _ _ _ _ = refl
    go false true _ _ _ = refl
    go false false true _ _ = refl
    go false false false true _ = refl
    go false false false false true = refl
    go false false false false false = refl

well-formed-held : (L : ℕ) (s : Sheet) (c d : ℕ) (r : Record) → (r.kind ≡ 9 → ⊥) → WellFormed L (with_profile s c) r → WellFormed L (with_profile s d) r
unfolding twice
well-formed-held L s c d r n w =
    record {
      kind-known = w.kind-known;
      fits = fits-stays L (with_profile s c) (with_profile s d) (class-extends s c d) (fields_of r.kind) r.body w.fits;
      well-named = w.well-named;
      once = rw (ne_eqb r.kind 9 n) (rw (ne_eqb r.kind 9 n) at w.once);
    }

-- ---- all records

module _ (L : ℕ) where
  pub all_held : (s : Sheet) (c d : ℕ) (rs : List Record) → Unprofiled rs → AllWellFormed L (with_profile s c) rs → AllWellFormed L (with_profile s d) rs
  unfolding AllWellFormed
  all_held s c d [] u w = tt
  all_held s c d (r ∷ rs) u w =
      let n : r.kind ≡ 9 → ⊥ = u r (Memᴰ.head refl) in
      let k = r.kind in
      let b = r.body in (
        well-formed-held L s c d r n w.0,
        subst (λ (t : Sheet). AllWellFormed L t rs) (sym (after-held s d k b n))
            (all_held (after s k b) c d rs (λ q m. u q (Memᴰ.tail m)) (subst (λ (t : Sheet). AllWellFormed L t rs) (after-held s c k b n) w.1)),
      )

  -- behind one such record there is no second
  pub only_one : (s : Sheet) (c : ℕ) → c < 8 → (rs : List Record) → AllWellFormed L (with_profile s c) rs → Unprofiled rs
  unfolding AllWellFormed twice
  only_one s c h [] w r m e = Memᴰ.not-nil m
  only_one s c h (q ∷ rs) w r m e =
      let k = q.kind in
      let b = q.body in
      go (Memᴰ.cases_cons m) (λ i. only_one (after s k b) c h rs (subst (λ (t : Sheet). AllWellFormed L t rs) (after-held s c k b other) w.1) r i e)
    where
      other : q.kind ≡ 9 → ⊥
      other z = true≢false (sym (rw (z, ne_eqb c 255 (λ x. omega arith))) ∙ w.0.once)

      go : (r ≡ q) ⊎ Memᴰ r rs → (Memᴰ r rs → ⊥) → ⊥
      go (inl z) rest = other (sym (ap (λ (x : Record). x.kind) z) ∙ e)
      go (inr i) rest = rest i

sheet-held : (s : Sheet) (c : ℕ) (rs : List Record) → Unprofiled rs → sheet_after (with_profile s c) rs ≡ with_profile (sheet_after s rs) c
unfolding sheet_after
sheet-held s c [] u = refl
sheet-held s c (r ∷ rs) u =
    ap (λ (t : Sheet). sheet_after t rs) (after-held s c r.kind r.body (u r (Memᴰ.head refl)))
    ∙ sheet-held (after s r.kind r.body) c rs (λ q m. u q (Memᴰ.tail m))

-- ---- the one record among the others

pub sheet-with : (s : Sheet) (before behind : List Record) (c : ℕ) → Unprofiled behind
    → sheet_after s (before ++ (profile c ∷ behind)) ≡ with_profile (sheet_after s (before ++ behind)) c
unfolding sheet_after after
sheet-with s before behind c u =
    sheet-append s before (profile c ∷ behind) ∙ sheet-held (sheet_after s before) c behind u
    ∙ ap (λ (t : Sheet). with_profile t c) (sym (sheet-append s before behind))

-- no other changes the class
pub class-stays : (s : Sheet) (rs : List Record) → Unprofiled rs → (sheet_after s rs).profile ≡ s.profile
class-stays s rs u = ap (λ (t : Sheet). t.profile) (sheet-held s s.profile rs u)
