-- One record more among the records: what stays, and what is new. Assumes nothing.
use mathlib.Core.Path.{◌≡◌, refl, ap}
use mathlib.Core.Logic.{◌↔◌, ◌⊎◌, inl, inr}
use mathlib.Core.List.Memᴰ
use mathlib.Core.List.{List, [], ◌∷◌, ◌++◌, Memᴰ}
use Prim.Native.Nat.{ℕ}
use Rattle.format.specs.Records.{Record}
use Rattle.format.proofs.Ready.{Among}

-- ps and behind it, at some position, the record of kind k and body b
abbrev pub followed : List (ℕ × Record) → ℕ → ℕ → List ℕ → List (ℕ × Record)
followed ps at k b = ps ++ ((at, record { kind = k; body = b }) ∷ [])

pub among-more : {j : ℕ} {c : List ℕ} {ps : List (ℕ × Record)} (qs : List (ℕ × Record)) → Among j c ps → Among j c (ps ++ qs)
among-more qs a = record { position = a.position; member = Memᴰ.append_left qs a.member }

pub among-last : (ps : List (ℕ × Record)) (at k : ℕ) (b : List ℕ) → Among k b (followed ps at k b)
among-last ps at k b = record { position = at; member = Memᴰ.append_right ps (Memᴰ.head refl) }

pub among-followed : (ps : List (ℕ × Record)) (at k : ℕ) (b : List ℕ) {j : ℕ} {c : List ℕ} → Among j c (followed ps at k b)
    → Among j c ps ⊎ ((j ≡ k) × (c ≡ b))
among-followed ps at k b {j} {c} a = go (Memᴰ.append_cases ps a.member)
  where
    go : Memᴰ {A = ℕ × Record} (a.position, record { kind = j; body = c }) ps
        ⊎ Memᴰ {A = ℕ × Record} (a.position, record { kind = j; body = c }) ((at, record { kind = k; body = b }) ∷ [])
        → Among j c ps ⊎ ((j ≡ k) × (c ≡ b))
    go (inl m) = inl (record { position = a.position; member = m })
    go (inr m) =
        let e = Memᴰ.eq_of_singleton m in
        inr (ap (λ (p : ℕ × Record). p.1.kind) e, ap (λ (p : ℕ × Record). p.1.body) e)

-- a record of another kind leaves those of kind j as they are
pub among-other : (ps : List (ℕ × Record)) (at k : ℕ) (b : List ℕ) {j : ℕ} (c : List ℕ) → (j ≡ k → ⊥) → Among j c ps ↔ Among j c (followed ps at k b)
among-other ps at k b {j} c h = (among-more _, λ a. go (among-followed ps at k b a))
  where
    go : Among j c ps ⊎ ((j ≡ k) × (c ≡ b)) → Among j c ps
    go (inl m) = m
    go (inr e) = absurd (h e.0)
