-- What the statements of a readable file name: variables below 256, declared labels, names below 32; a scope is a declared label (the top level
-- is label 0). Assumes nothing.
use mathlib.Core.Path.{◌≡◌, refl, sym, subst, ◌∙◌}
use mathlib.Core.Logic.{inl, inr}
use mathlib.Core.List.Memᴰ
use mathlib.Core.List.{List, [], ◌∷◌, ◌++◌, Memᴰ}
use mathlib.Core.Bool.{Bool, true, false, cond, not, ◌&&◌, ◌||◌, true≢false}
use Prim.Native.Nat.{ℕ, zero, suc, ◌+◌, ◌-◌, ◌<◌}
use native.Mathlib.Omega.{arith}
use lib.ListN.{get_or, drop, replicate}
use lib.Dec.{eqb, leb, ltb}
use borrow.Author.Tests.{eqb-true, ne_eqb, eq-eqb, ltb-true, leb-true}
use Rattle.layout.specs.Layout.{Class, name, variable, fields_of, body_length}
use Rattle.format.specs.Sheet.{Sheet, type_of, owner_of, known, declared}
use Rattle.format.specs.Fields.{good, Fits}
use Rattle.format.specs.Records.{Record, field}
use Rattle.format.proofs.Tests.{and_second, or-true}
use Rattle.format.proofs.Fields.{fits-good}
use Rattle.format.proofs.Effect.{not_equal, Variable, variable-of}
use Rattle.format.proofs.Ready.{Made}
use Rattle.rules.specs.Rule.{chosen}
use Rattle.rules.proofs.Labels.{chosen-passes}
use Rattle.program.specs.Statement as say
use Rattle.program.specs.Statement.{statements_of}
use Rattle.layout.specs.Key.{inside, outside, Key}
use Rattle.layout.proofs.Keys.{key-name}
use Rattle.program.specs.Program.{placed, guest_statements, guests_statements, host_statements, names_of, in_class, outside_class, guest_class, guest_three, guests_of}
use Rattle.program.proofs.Held.{guest-key, made-either}

abbrev pub Declared : Sheet → ℕ → Type 0
Declared s l = declared s l ≡ true

-- every name of the key is one of the 32
abbrev pub Keyed : Sheet → ℕ → Type 0
Keyed s key = (n : ℕ) → Memᴰ n (names_of s key) → n < 32

abbrev pub AllBelow : List ℕ → Type 0
AllBelow vs = (v : ℕ) → Memᴰ v vs → v < 256

abbrev pub Stated : Sheet → say.Statement → Type 0
Stated s (say.named v n) = (v < 256) × (n < 32)
Stated s (say.grant v b) = (v < 256) × (b < 256)
Stated s (say.property l n m) = Declared s l × (n < 32) × Declared s m
Stated s (say.held v l) = (v < 256) × Declared s l
Stated s (say.copy k y x) = Declared s k × (y < 256) × (x < 256)
Stated s (say.load k y x key w) = Declared s k × (y < 256) × (x < 256) × Keyed s key × Declared s w
Stated s (say.store k x key a) = Declared s k × (x < 256) × Keyed s key × (a < 256)
Stated s (say.make k y l) = Declared s k × (y < 256) × Declared s l
Stated s (say.make_function k y l q) = Declared s k × (y < 256) × Declared s l × Declared s q
Stated s (say.call k y c t args) = Declared s k × (y < 256) × (c < 256) × (t < 256) × AllBelow args
Stated s (say.new k y c t l args) = Declared s k × (y < 256) × (c < 256) × (t < 256) × Declared s l × AllBelow args
Stated s (say.return k x) = Declared s k × (x < 256)
Stated s (say.throw k x) = Declared s k × (x < 256)
Stated s (say.catch k y) = Declared s k × (y < 256)
Stated s (say.prim k x) = Declared s k × (x < 256)

abbrev pub AllStated : Sheet → List (ℕ × say.Statement) → Type 0
AllStated s [] = Unit {0}
AllStated s (a ∷ ss) = Stated s a.1 × AllStated s ss

pub stated-append : (s : Sheet) (first rest : List (ℕ × say.Statement)) → AllStated s first → AllStated s rest → AllStated s (first ++ rest)
stated-append s [] rest p q = q
stated-append s (a ∷ first) rest p q = (p.0, stated-append s first rest p.1 q)

-- ---- a key

pub key-names : (s : Sheet) (key : ℕ) → Key key → Keyed s key
unfolding names_of
key-names s key k n m = go (ltb key inside) (ltb key outside) refl m
  where
    go : (b c : Bool) → ltb key inside ≡ b
        → Memᴰ n (cond b (key ∷ []) (cond c (chosen (in_class s (key - inside)) 32) (chosen (outside_class s (key - outside)) 32))) → n < 32
    go true c e i = omega (arith, Memᴰ.eq_of_singleton i, key-name key k (ltb-true key inside e))
    go false true e i = (chosen-passes (in_class s (key - inside)) 32 n i).0
    go false false e i = (chosen-passes (outside_class s (key - outside)) 32 n i).0

-- ---- good bytes

module _ (L : ℕ) (s : Sheet) (ps : List (ℕ × Record)) (m : Made L s ps) where
  type-declared : (l t : ℕ) → 0 < t → eqb (type_of s l) t ≡ true → Declared s l
  type-declared l t h e = rw (ne_eqb (type_of s l) 0 (λ z. omega (arith, eqb-true (type_of s l) t e)))

  -- labels 0 to 4 are declared beforehand
  pub start-declared : (l t : ℕ) → l < 5 → 0 < t → type_of s l ≡ t → Declared s l
  start-declared l t h p e = type-declared l t p (eq-eqb _ _ e)

  pub top-declared : Declared s 0
  top-declared = start-declared 0 1 (omega arith) (omega arith) (m.labels.start-type 0 (omega arith))

  pub guest-declared : Declared s 3
  guest-declared = start-declared 3 2 (omega arith) (omega arith) (m.labels.start-type 3 (omega arith))

  variable-below : (v : ℕ) → Variable s v → v < 256
  variable-below v (inl e) = omega arith
  variable-below v (inr h) = (m.variables.variable-range v h).1

  of-variable : (b : ℕ) → (eqb b 0 || known s b) ≡ true → b < 256
  of-variable b e = variable-below b (variable-of s b e)

  of-known : (b : ℕ) → known s b ≡ true → b < 256
  of-known b e = variable-below b (inr (not_equal _ _ e))

  of-global : (b : ℕ) → eqb (owner_of s b) 0 ≡ true → b < 256
  of-global b e = variable-below b (inr (λ z. omega (arith, eqb-true (owner_of s b) 0 e)))

  of-host : (b : ℕ) → (not (eqb b 3) && declared s b) ≡ true → Declared s b
  of-host b e = and_second (not (eqb b 3)) (declared s b) e

  of_function : (b : ℕ) → (leb 5 b && eqb (type_of s b) 2) ≡ true → Declared s b
  of_function b e = type-declared b 2 (omega arith) (and_second (leb 5 b) _ e)

  of_plain : (b : ℕ) → (leb 5 b && eqb (type_of s b) 1) ≡ true → Declared s b
  of_plain b e = type-declared b 1 (omega arith) (and_second (leb 5 b) _ e)

  of-data : (b : ℕ) → (leb 5 b && (eqb (type_of s b) 1 || eqb (type_of s b) 3)) ≡ true → Declared s b
  of-data b e =
      elim (or-true (eqb (type_of s b) 1) _ (and_second (leb 5 b) _ e)) [
        | inl q ↦ type-declared b 1 (omega arith) q
        | inr q ↦ type-declared b 3 (omega arith) q
      ]

  of-scope : (b : ℕ) → (eqb b 0 || (leb 5 b && eqb (type_of s b) 2)) ≡ true → Declared s b
  of-scope b e = elim (or-true (eqb b 0) _ e) [ inl q ↦ subst (Declared s) (sym (eqb-true b 0 q)) top-declared | inr q ↦ of_function b q ]

  of-name : (b : ℕ) → (eqb b 255 || ltb b 32) ≡ true → eqb b 255 ≡ false → b < 32
  of-name b e n = elim (or-true (eqb b 255) _ e) [ inl q ↦ absurd (true≢false (sym q ∙ n)) | inr q ↦ ltb-true b 32 q ]

  of-new : (b : ℕ) → (leb 2 b && leb b 255) ≡ true → b < 256
  of-new b e = omega (arith, leb-true b 255 (and_second (leb 2 b) _ e))

  -- the arguments of a call
  of-variables : (n : ℕ) (vs : List ℕ) → Fits L s (replicate n variable) vs → AllBelow vs
  unfolding Fits good
  of-variables zero [] f v i = absurd (Memᴰ.not-nil i)
  of-variables zero (a ∷ vs) f v i = absurd f
  of-variables (suc n) [] f v i = absurd f
  of-variables (suc n) (a ∷ vs) f v i =
      elim (Memᴰ.cases_cons i) [
        | inl e ↦ omega (arith, of-variable a f.0)
        | inr j ↦ of-variables n vs f.1 v j
      ]

fits-drop : (L : ℕ) (s : Sheet) (n : ℕ) (cs : List Class) (bs : List ℕ) → Fits L s cs bs → Fits L s (drop n cs) (drop n bs)
unfolding Fits
fits-drop L s zero cs bs f = f
fits-drop L s (suc n) [] [] f = f
fits-drop L s (suc n) [] (b ∷ bs) f = absurd f
fits-drop L s (suc n) (c ∷ cs) [] f = absurd f
fits-drop L s (suc n) (c ∷ cs) (b ∷ bs) f = fits-drop L s n cs bs f.1

-- ---- the statements of a record

-- what holds of A where k is j, and of B, holds of what the kind k chooses among them
pub by_kind : (P : List say.Statement → Type 0) (k j : ℕ) (A B : List say.Statement) → (k ≡ j → P A) → P B → P (cond (eqb k j) A B)
by_kind P k j A B first rest = go (eqb k j) refl
  where
    go : (c : Bool) → eqb k j ≡ c → P (cond c A B)
    go true e = first (eqb-true k j e)
    go false e = rest

module _ (L : ℕ) (s : Sheet) (ps : List (ℕ × Record)) (m : Made L s ps) where
  record-stated : (at : ℕ) (r : Record) → Fits L s (fields_of r.kind) r.body → AllStated s (placed at (statements_of r))
  unfolding statements_of good
  record-stated at r fits =
      by_kind P k 5 _ _ (λ e. named (fine 5 e) (eqb (field b 2) 255) refl)
      (by_kind P k 6 _ _ (λ e. let g = fine 6 e in ((of-global L s ps m _ (g 0 (omega arith)), omega arith), tt))
      (by_kind P k 7 _ _ (λ e. let g = fine 7 e in
      ((of-host L s ps m _ (g 0 (omega arith)), ltb-true _ _ (g 1 (omega arith)), of-host L s ps m _ (g 2 (omega arith))), tt))
      (by_kind P k 8 _ _ (λ e. let g = fine 8 e in ((of-global L s ps m _ (g 0 (omega arith)), of-host L s ps m _ (g 1 (omega arith))), tt))
      (by_kind P k 16 _ _ (λ e. let g = fine 16 e in ((scope-at _ (g 0 (omega arith)), var _ (g 1 (omega arith)), var _ (g 2 (omega arith))), tt))
      (by_kind P k 17 _ _ (λ e. let g = fine 17 e in
      ((scope-at _ (g 0 (omega arith)), var _ (g 1 (omega arith)), var _ (g 2 (omega arith)), key-names s _ (g 3 (omega arith)), plain _ (g 4 (omega arith))), tt))
      (by_kind P k 18 _ _ (λ e. let g = fine 18 e in
      ((scope-at _ (g 0 (omega arith)), var _ (g 1 (omega arith)), key-names s _ (g 2 (omega arith)), var _ (g 3 (omega arith))), tt))
      (by_kind P k 19 _ _ (λ e. let g = fine 19 e in ((scope-at _ (g 0 (omega arith)), var _ (g 1 (omega arith)), of-data L s ps m _ (g 2 (omega arith))), tt))
      (by_kind P k 20 _ _ (λ e. let g = fine 20 e in
      ((scope-at _ (g 0 (omega arith)), var _ (g 1 (omega arith)), of_function L s ps m _ (g 2 (omega arith)), plain _ (g 3 (omega arith))), tt))
      (by_kind P k 21 _ _ (λ e. let g = fine 21 e in (
        (
          scope-at _ (g 0 (omega arith)),
          var _ (g 1 (omega arith)),
          var _ (g 2 (omega arith)),
          var _ (g 3 (omega arith)),
          of-variables L s ps m 6 (drop 4 b) (fits-drop L s 4 (fields_of 21) b (moved 21 e)),
        ),
        tt,
      ))
      (by_kind P k 22 _ _ (λ e. let g = fine 22 e in (
        (
          scope-at _ (g 0 (omega arith)),
          var _ (g 1 (omega arith)),
          var _ (g 2 (omega arith)),
          of-known L s ps m _ (g 3 (omega arith)),
          plain _ (g 4 (omega arith)),
          of-variables L s ps m 6 (drop 5 b) (fits-drop L s 5 (fields_of 22) b (moved 22 e)),
        ),
        tt,
      ))
      (by_kind P k 23 _ _ (λ e. let g = fine 23 e in ((scope-at _ (g 0 (omega arith)), var _ (g 1 (omega arith))), tt))
      (by_kind P k 24 _ _ (λ e. let g = fine 24 e in ((scope-at _ (g 0 (omega arith)), var _ (g 1 (omega arith))), tt))
      (by_kind P k 25 _ _ (λ e. let g = fine 25 e in ((scope-at _ (g 0 (omega arith)), var _ (g 1 (omega arith))), tt))
      (by_kind P k 26 _ _ (λ e. let g = fine 26 e in ((scope-at _ (g 0 (omega arith)), var _ (g 1 (omega arith))), tt))
      tt))))))))))))))
    where
      k : ℕ
      k = r.kind

      b : List ℕ
      b = r.body

      P : List say.Statement → Type 0
      P A = AllStated s (placed at A)

      moved : (j : ℕ) → k ≡ j → Fits L s (fields_of j) b
      moved j e = subst (λ (n : ℕ). Fits L s (fields_of n) b) e fits

      fine : (j : ℕ) → k ≡ j → (i : ℕ) → i < body_length j → good L s (get_or (fields_of j) i name) (field b i) ≡ true
      fine j e i h = fits-good L s (fields_of j) b (moved j e) i h

      var : (v : ℕ) → (eqb v 0 || known s v) ≡ true → v < 256
      var v e = of-variable L s ps m v e

      scope-at : (l : ℕ) → (eqb l 0 || (leb 5 l && eqb (type_of s l) 2)) ≡ true → Declared s l
      scope-at l e = of-scope L s ps m l e

      plain : (l : ℕ) → (leb 5 l && eqb (type_of s l) 1) ≡ true → Declared s l
      plain l e = of_plain L s ps m l e

      named : ((i : ℕ) → i < body_length 5 → good L s (get_or (fields_of 5) i name) (field b i) ≡ true) → (c : Bool) → eqb (field b 2) 255 ≡ c
          → P (cond c [] (say.named (field b 0) (field b 2) ∷ []))
      named g true e = tt
      named g false e = ((of-new L s ps m _ (g 0 (omega arith)), of-name L s ps m _ (g 2 (omega arith)) e), tt)

  -- ---- the program

  pub host-stated : (qs : List (ℕ × Record)) → ((at : ℕ) (r : Record) → Memᴰ (at, r) qs → Fits L s (fields_of r.kind) r.body)
      → AllStated s (host_statements qs)
  unfolding host_statements
  host-stated [] h = tt
  host-stated (q ∷ qs) h =
      stated-append s (placed q.0 (statements_of q.1)) (host_statements qs)
      (record-stated q.0 q.1 (h q.0 q.1 (Memᴰ.head refl))) (host-stated qs (λ at r i. h at r (Memᴰ.tail i)))

  pub guest-stated : AllStated s (guests_statements (guests_of s))
  unfolding guests_statements guest_statements
  guest-stated =
      let g = guest-declared L s ps m in
      let b : 1 < 256 = omega arith in
      let key = key-names s (inside + guest_class s) (guest-key s) in
      (made-either (Stated s) (guest_three s) (g, b, g, g) (g, b, g), ((g, b, b, key, g), ((g, b, key, b), ((g, b, b, b, six), ((g, b, b, b, g, six), ((g, b), ((g, b), ((g, b), tt))))))))
    where
      below : (n : ℕ) → AllBelow (replicate n 1)
      below zero v i = absurd (Memᴰ.not-nil i)
      below (suc n) v i = elim (Memᴰ.cases_cons i) [ inl e ↦ omega arith | inr j ↦ below n v j ]

      six : AllBelow (replicate 6 1)
      six = below 6
