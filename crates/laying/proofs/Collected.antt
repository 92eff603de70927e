-- The variables that functions return, collected record by record. Assumes nothing.
use mathlib.Core.Path.{◌≡◌, refl, sym, ap, ap₂, subst, ◌∙◌}
use mathlib.Core.Logic.{◌⊎◌, inl, inr}
use mathlib.Core.List.Memᴰ
use mathlib.Core.List.{List, [], ◌∷◌, ◌++◌, Memᴰ, append-nil}
use Prim.Native.Nat.{ℕ, ◌+◌, ◌≤◌, ◌<◌}
use native.Mathlib.Decide.{ℕ_discrete}
use native.Mathlib.Omega.{arith}
use lib.ListN.{length, get_or, drop}
use lib.Seq.{get_or-take, get_or-drop}
use borrow.Author.Tests.{eqb-true}
use Rattle.layout.specs.Layout.{body_length}
use Rattle.format.specs.Sheet.{type_of}
use Rattle.format.specs.Records.{Record}
use Rattle.format.specs.Reading.{Reading, read_file, Readable, positioned}
use Rattle.format.proofs.Placed.{place-of}
use Rattle.format.proofs.Later.{declared-below}
use Rattle.format.proofs.Ready.{Among, Made}
use Rattle.format.proofs.Readable.{readable-ready}
use Rattle.program.specs.Program.{program_of, program_in}
use Rattle.analysis.proofs.Returned.{returns-handed, handed-returns}
use Rattle.host.specs.declared.handed.Returns.{Returns}
use Rattle.host.specs.Lays.{HandsBack, ReturnsOf, ReturnsNothing}
use Rattle.records.specs.Walk.{Walk}
use Rattle.records.proofs.Walks.{here, body-at, onward, next-done, rest_end}
use Rattle.laying.specs.Marked.{Marked, MarkedAt}

-- the record that says so
abbrev returning : ℕ → ℕ → Record
returning f x = record { kind = 23; body = f ∷ x ∷ [] }

-- the guest returns x from f, or one of the records does
abbrev By : List Record → ℕ → ℕ → Type 0
By rs f x = ((f ≡ 3) × (x ≡ 1)) ⊎ Memᴰ (returning f x) rs

-- the arrays hold what the guest and these records return
pub record Collected (r : Returns) (rs : List Record) : Type 0 where
  pub source : (f x : ℕ) → f < 256 → x < 256 → HandsBack r f x → By rs f x
  pub all : (f x : ℕ) → f < 256 → By rs f x → (x < 256) × HandsBack r f x

-- ---- the guest's return

pub collected-first : {r u : Returns} → ReturnsNothing r → Marked 3 1 r u → Collected u []
collected-first {r} {u} e m = record { source = λ f x h i o. source f x (m.source f x h i o); all = λ f x h. all f x }
  where
    source : (f x : ℕ) → HandsBack r f x ⊎ ((f ≡ 3) × (x ≡ 1)) → By [] f x
    source f x (inl o) = absurd (e f x o)
    source f x (inr q) = inl q

    all : (f x : ℕ) → By [] f x → (x < 256) × HandsBack u f x
    all f x (inl q) = (omega (arith, q.1), rw (q.0, q.1) m.here)
    all f x (inr i) = absurd (Memᴰ.not-nil i)

-- ---- one record more

by-more : (rs : List Record) (front : Record) (f x : ℕ) → By rs f x → By (rs ++ (front ∷ [])) f x
by-more rs front f x (inl q) = inl q
by-more rs front f x (inr i) = inr (Memᴰ.append_left (front ∷ []) i)

by_cases : (rs : List Record) (front : Record) (f x : ℕ) → By (rs ++ (front ∷ [])) f x → By rs f x ⊎ (returning f x ≡ front)
by_cases rs front f x (inl q) = inl (inl q)
by_cases rs front f x (inr i) = elim (Memᴰ.append_cases rs i) [ inl j ↦ inl (inr j) | inr j ↦ inr (Memᴰ.eq_of_singleton j) ]

-- a return
collected-return : {r u : Returns} {rs : List Record} (front : Record) (k v : ℕ) → front ≡ returning k v → v < 256 → Marked k v r u → Collected r rs
    → Collected u (rs ++ (front ∷ []))
collected-return {r} {u} {rs} front k v e small m c =
    record {
      source = λ f x h i o. source f x h i (m.source f x h i o);
      all = λ f x h b. all f x h (by_cases rs front f x b);
    }
  where
    source : (f x : ℕ) → f < 256 → x < 256 → HandsBack r f x ⊎ ((f ≡ k) × (x ≡ v)) → By (rs ++ (front ∷ [])) f x
    source f x h i (inl o) = by-more rs front f x (c.source f x h i o)
    source f x h i (inr q) = inr (Memᴰ.append_right rs (Memᴰ.head (ap₂ returning q.0 q.1 ∙ sym e)))

    all : (f x : ℕ) → f < 256 → By rs f x ⊎ (returning f x ≡ front) → (x < 256) × HandsBack u f x
    all f x h (inl b) = let o = c.all f x h b in (o.0, m.keeps f x h o.0 o.1)
    all f x h (inr q) =
        let p : f ∷ x ∷ [] ≡ k ∷ v ∷ [] = ap (λ (s : Record). s.body) (q ∙ e) in
        let a : f ≡ k = cc in
        let b : x ≡ v = cc in
        (omega arith, rw (a, b) m.here)

-- a record that is none
collected-other : {r : Returns} {rs : List Record} (front : Record) → (front.kind ≡ 23 → ⊥) → Collected r rs → Collected r (rs ++ (front ∷ []))
collected-other {r} {rs} front d c =
    record {
      source = λ f x h i o. by-more rs front f x (c.source f x h i o);
      all = λ f x h b. all f x h (by_cases rs front f x b);
    }
  where
    all : (f x : ℕ) → f < 256 → By rs f x ⊎ (returning f x ≡ front) → (x < 256) × HandsBack r f x
    all f x h (inl b) = c.all f x h b
    all f x h (inr q) = absurd (d (ap (λ (s : Record). s.kind) (sym q)))

-- ---- the record here

two : (b : List ℕ) → length b ≡ 2 → b ≡ get_or b 0 0 ∷ get_or b 1 0 ∷ []
two [] e = absurd (omega arith)
two (x ∷ []) e = absurd (omega arith)
two (x ∷ y ∷ []) e = refl
two (x ∷ y ∷ z ∷ b) e = absurd (omega arith)

module _ {L : ℕ} {file : List ℕ} {at : ℕ} (w : Walk L file at) (h : at < length file) where
  byte : (j : ℕ) → get_or file at 0 ≡ 23 → j < 2 → get_or (here w h).front.body j 0 ≡ get_or file (at + 1 + j) 0
  byte j e i =
      let n : body_length (get_or file at 0) ≡ 2 = ap body_length e in
      ap (λ (b : List ℕ). get_or b j 0) (sym (body-at w h))
      ∙ get_or-take (body_length (get_or file at 0)) (drop (at + 1) file) j 0 (omega arith)
      ∙ get_or-drop (at + 1) file j 0

  return-here : get_or file at 0 ≡ 23 → (here w h).front ≡ returning (get_or file (at + 1) 0) (get_or file (at + 2) 0)
  return-here e =
      let kind : (here w h).front.kind ≡ 23 = sym (here w h).kind ∙ e in
      let size : length (here w h).front.body ≡ 2 = (here w h).sound.1.0 ∙ ap body_length kind in
      let p : at + 1 + 0 ≡ at + 1 = omega arith in
      let q : at + 1 + 1 ≡ at + 2 = omega arith in
      ap₂ (λ (k : ℕ) (b : List ℕ). record { kind = k; body = b }) kind
      (two (here w h).front.body size
      ∙ ap₂ (λ (x y : ℕ). x ∷ y ∷ []) (byte 0 e (omega arith) ∙ ap (λ (i : ℕ). get_or file i 0) p) (byte 1 e (omega arith) ∙ ap (λ (i : ℕ). get_or file i 0) q))

  pub collected-next : {r u : Returns} → get_or file (at + 2) 0 < 256 → MarkedAt file at r u → Collected r w.done → Collected u (onward w h).done
  collected-next {r} {u} small m c = rw (next-done w h (body_length (get_or file at 0)) refl) (go (ℕ_discrete (get_or file at 0) 23))
    where
      go : Dec (get_or file at 0 ≡ 23) → Collected u (w.done ++ ((here w h).front ∷ []))
      go (yes e) = collected-return (here w h).front (get_or file (at + 1) 0) (get_or file (at + 2) 0) (return-here e) small (m.0 e) c
      go (no d) = rw (m.1 d) (collected-other (here w h).front (λ e. d ((here w h).kind ∙ e)) c)

-- ---- the whole file

positioned-in : (at : ℕ) (rs : List Record) (a : ℕ) (r : Record) → Memᴰ (a, r) (positioned at rs) → Memᴰ r rs
positioned-in at rs a r i =
    let p = place-of rs at a r i in
    subst (λ (qs : List Record). Memᴰ r qs) (sym p.all) (Memᴰ.append_right p.before (Memᴰ.head refl))

in-positioned : (at : ℕ) (rs : List Record) (r : Record) → Memᴰ r rs → (a : ℕ) × Memᴰ (a, r) (positioned at rs)
unfolding positioned
in-positioned at [] r i = absurd (Memᴰ.not-nil i)
in-positioned at (q ∷ rs) r i =
    elim (Memᴰ.cases_cons i) [
      | inl e ↦ (at, Memᴰ.head (ap (λ (s : Record). (at, s)) e))
      | inr j ↦ (let p = in-positioned (at + 1 + length q.body) rs r j in (p.0, Memᴰ.tail p.1))
    ]

pub collected-all : {L : ℕ} {file : List ℕ} {at : ℕ} {r : Returns} → 5 ≤ L → L ≤ 256 → Readable L file → (w : Walk L file at) → length file ≤ at
    → Collected r w.done → ReturnsOf (program_in L file) r
unfolding program_of
collected-all {L} {file} {at} {r} five most ok w end c f x is = (λ o. handed-returns L d m f x (into (c.source f x low o.0 o.1)), λ i. c.all f x low (back (returns-handed L d m f x i)))
  where
    d : Reading
    d = read_file L file

    m : Made L d.sheet d.records
    m = (readable-ready L file five ok).made

    low : f < 256
    low = omega (arith, declared-below L d.sheet f m.sized (λ z. omega (arith, eqb-true (type_of d.sheet f) 2 is)))

    records : d.records ≡ positioned 0 w.done
    records = w.whole ∙ ap (λ (rs : List Record). positioned 0 (w.done ++ rs)) (rest_end w end) ∙ ap (positioned 0) (append-nil w.done)

    into : By w.done f x → ((f ≡ 3) × (x ≡ 1)) ⊎ Among 23 (f ∷ x ∷ []) d.records
    into (inl q) = inl q
    into (inr i) = let p = in-positioned 0 w.done (returning f x) i in inr (record { position = p.0; member = rw records p.1 })

    back : ((f ≡ 3) × (x ≡ 1)) ⊎ Among 23 (f ∷ x ∷ []) d.records → By w.done f x
    back (inl q) = inl q
    back (inr a) = inr (positioned-in 0 w.done a.position (returning f x) (rw records at a.member))
