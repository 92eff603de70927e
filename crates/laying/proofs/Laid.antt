-- What is laid from a sheet is what the program says. Assumes nothing.
use mathlib.Core.Path.{◌≡◌, refl, sym, ap, ◌∙◌}
use mathlib.Core.Logic.{◌↔◌, inl, inr}
use mathlib.Core.List.Memᴰ
use mathlib.Core.List.{List, [], ◌∷◌, Memᴰ}
use mathlib.Core.Bool.{Bool, true, false, cond}
use Prim.Native.Nat.{ℕ, ◌+◌, ◌-◌, ◌^◌, ◌<◌}
use native.Mathlib.Decide.{dec_lt}
use native.Mathlib.Omega.{arith}
use lib.ListN.{get_or, take, length-take, get_or-eq_default}
use lib.Seq.{get_or-take}
use lib.Dec.{eqb, ltb}
use borrow.Author.Tests.{ltb-true, ltb-false, eqb-true}
use Rattle.words.specs.Words.{bit, difference}
use Rattle.words.proofs.Laws.{ones-on}
use Rattle.words.proofs.Bits.{on-single, single-only, on_below, on-difference, difference-off, difference-on}
use Rattle.rows.specs.Edition.{labels}
use Rattle.layout.specs.Key.{inside, outside, Key}
use Rattle.layout.proofs.Keys.{key_below}
use Rattle.rules.specs.Rule.{chosen}
use Rattle.rules.proofs.Labels.{chosen-passes, passes-chosen}
use Rattle.format.proofs.Tests.{untrue, not-both}
use Rattle.program.specs.Program.{Program, in_class, outside_class, names_of, guest_class}
use Rattle.sheet.specs.declared.Sheet.{Sheet}
use Rattle.host.specs.declared.Host.{Host}
use Rattle.host.specs.Lays.{functions_in, built_ins_in, class_in, guest_key_in, all_names, names_in, Lays}
use Rattle.laying.specs.Holds.{Holds, has_byte, Classes}

-- a byte of the labels of the edition
taken : (bytes : List ℕ) (L b l : ℕ) → 0 < b → (eqb (get_or (take L bytes) l 0) b ≡ true) ↔ ((l < L) × (has_byte bytes b l ≡ true))
taken bytes L b l h = (λ e. into e (dec_lt l L), λ q. ap (λ (x : ℕ). eqb x b) (get_or-take L bytes l 0 q.0) ∙ q.1)
  where
    into : eqb (get_or (take L bytes) l 0) b ≡ true → Dec (l < L) → (l < L) × (has_byte bytes b l ≡ true)
    into e (yes i) = (i, sym (ap (λ (x : ℕ). eqb x b) (get_or-take L bytes l 0 i)) ∙ e)
    into e (no i) =
        let none : get_or (take L bytes) l 0 ≡ 0 = get_or-eq_default (take L bytes) 0 (simp length-take (omega (arith, i))) in
        absurd (omega (arith, none, eqb-true (get_or (take L bytes) l 0) b e))

module _ (wide : Bool) (s : Sheet) (w : Host) (f : Holds (has_byte s.types 2) (labels wide) (functions_in wide w))
    (b : Holds (has_byte s.flags 1) (labels wide) (built_ins_in wide w)) (held : Classes 8 s.masks w.classes)
    (class-is : w.guest_class ≡ cond (ltb s.profile 8) s.profile 0) where
  module _ (p : Program) (masks-are : p.sheet.masks ≡ s.masks) where
    -- the names of a class, and those outside it
    in-class : (c n : ℕ) → c < 8 → (bit (class_in w c) n ≡ 1) ↔ ((n < 32) × (in_class p.sheet c n ≡ true))
    unfolding bit
    in-class c n h = rw masks-are (held c h n)

    class-named : (c n : ℕ) → c < 8 → (bit (class_in w c) n ≡ 1) ↔ Memᴰ n (chosen (in_class p.sheet c) 32)
    class-named c n h = (
      λ o. (let q = (in-class c n h).0 o in passes-chosen (in_class p.sheet c) 32 n q.0 q.1),
      λ i. (in-class c n h).1 (chosen-passes (in_class p.sheet c) 32 n i),
    )

    outside-named : (c n : ℕ) → c < 8 → (bit (difference all_names (class_in w c)) n ≡ 1) ↔ Memᴰ n (chosen (outside_class p.sheet c) 32)
    outside-named c n h = (into, from)
      where
        into : bit (difference all_names (class_in w c)) n ≡ 1 → Memᴰ n (chosen (outside_class p.sheet c) 32)
        into o =
            let i = on_below 32 all_names n (omega arith) (on-difference all_names (class_in w c) n o) in
            passes-chosen (outside_class p.sheet c) 32 n i
            (untrue (in_class p.sheet c n) (λ e. difference-off all_names (class_in w c) n o ((in-class c n h).1 (i, e))))

        from : Memᴰ n (chosen (outside_class p.sheet c) 32) → bit (difference all_names (class_in w c)) n ≡ 1
        from i =
            let q = chosen-passes (outside_class p.sheet c) 32 n i in
            elim (difference-on all_names (class_in w c) n (ones-on 32 n q.0)) [
              | inl o ↦ o
              | inr o ↦ absurd (not-both (in_class p.sheet c n) q.1 ((in-class c n h).0 o).1)
            ]

    named : (key n : ℕ) → Key key → (bit (names_in w key) n ≡ 1) ↔ Memᴰ n (names_of p.sheet key)
    unfolding names_of
    named key n k = go (ltb key inside) (ltb key outside) refl refl
      where
        go : (a b : Bool) → ltb key inside ≡ a → ltb key outside ≡ b
            → (bit (cond a (2 ^ key) (cond b (class_in w (key - inside)) (difference all_names (class_in w (key - outside))))) n ≡ 1)
            ↔ Memᴰ n (cond a (key ∷ []) (cond b (chosen (in_class p.sheet (key - inside)) 32) (chosen (outside_class p.sheet (key - outside)) 32)))
        go true b e f = (λ o. Memᴰ.head (single-only key n o), λ i. rw (Memᴰ.eq_of_singleton i) (on-single key))
        go false true e f = class-named (key - inside) n (omega (arith, ltb-false key inside e, ltb-true key outside f))
        go false false e f = outside-named (key - outside) n (omega (arith, ltb-false key outside f, key_below key k))

    guest-keyed : p.sheet.profile ≡ s.profile → guest_key_in w ≡ inside + guest_class p.sheet
    guest-keyed e = let here : w.guest_class ≡ guest_class p.sheet = class-is ∙ ap (λ (c : ℕ). cond (ltb c 8) c 0) (sym e) in ap (λ (c : ℕ). inside + c) here

    pub lays : p.sheet.types ≡ take (labels wide) s.types → p.sheet.flags ≡ take (labels wide) s.flags → p.sheet.profile ≡ s.profile → Lays wide p w
    lays types_are flags-are profile-is =
        record {
          functions = λ l. rw types_are (
              let q = taken s.types (labels wide) 2 l (omega arith) in
              (λ o. q.1 ((f l).0 o), λ e. (f l).1 (q.0 e)));
          built-ins = λ l. rw flags-are (
              let q = taken s.flags (labels wide) 1 l (omega arith) in
              (λ o. q.1 ((b l).0 o), λ e. (b l).1 (q.0 e)));
          names = named;
          guest-key = guest-keyed profile-is;
        }
