-- What functions hand back: word by word, function by function, and what that says of the program. Assumes nothing.
use mathlib.Core.Path.{◌≡◌, refl, sym, ap, ◌∙◌}
use mathlib.Core.Logic.{◌⊎◌, inl, inr}
use mathlib.Core.Bool.{Bool, true, false, cond}
use mathlib.Core.List.{List, Memᴰ}
use Prim.Native.Nat.{ℕ, zero, suc, ◌+◌, ◌*◌, ◌/◌, ◌%◌, ◌^◌, ◌<◌}
use native.Mathlib.Nat.{zero-add}
use native.Mathlib.Omega.{arith}
use lib.ListN.{get_or, replicate}
use lib.Dec.{ltb}
use Rattle.words.specs.Words.{bit}
use Rattle.words.proofs.Bits.{On, on_below, empty-off}
use Rattle.rules.specs.Table.{Table, Has}
use Rattle.program.specs.Program.{Program, is_function, returns_of}
use Rattle.sets.specs.Value.{words_of, value}
use Rattle.sets.specs.declared.Set.{Set}
use Rattle.sets.proofs.Values.{Good, value-lt, value-bit}
use Rattle.uses.specs.Gather.{row_from, Added}
use Rattle.uses.proofs.Unions.{Turn, added-wide}
use Rattle.host.specs.declared.handed.Returns.{Returns}
use Rattle.host.specs.Lays.{returned_word, returns_for, returned, ReturnsOf, ReturnsNothing, handed_back, Handing}

-- ---- no variable yet

zeros : (n i : ℕ) → ◌≡◌ {A = ℕ} (get_or (replicate n 0) i 0) 0
zeros zero i = refl
zeros (suc n) zero = refl
zeros (suc n) (suc i) = zeros n i

-- arrays of zeros
pub no_returns : (r : Returns) → r.first ≡ replicate 256 0 → r.second ≡ replicate 256 0 → r.third ≡ replicate 256 0 → r.fourth ≡ replicate 256 0
    → ReturnsNothing r
no_returns r p q s t f x o =
    let z : get_or (returns_for r f) (4 * (f % 64) + x / 64) 0 ≡ 0 = rw (all (ltb f 64) (ltb f 128) (ltb f 192)) (zeros 256 (4 * (f % 64) + x / 64)) in
    empty-off (x % 64) (rw z at o)
  where
    all : (a b c : Bool) → cond a r.first (cond b r.second (cond c r.third r.fourth)) ≡ replicate 256 0
    all true b c = p
    all false true c = q
    all false false true = s
    all false false false = t

-- ---- the four words of a function

-- the rows from `base` on of a word joined, as `gather_word` does
abbrev pub Step : Table → ℕ → ℕ → ℕ → ℕ → Type 0
Step t base w start r = Added (row_from base) t w start r × (w < 2 ^ 64)

pub handing-words : {t : Table} {start first second third z : ℕ} (r : Returns) (f : ℕ) (four : Set) → four ≡ returned r f → Step t 0 four.a start first
    → Step t 64 four.b first second → Step t 128 four.c second third → Step t 192 four.d third z → Handing r f t start z
handing-words {t} {start} {first} {second} {third} {z} r f four e a b c d =
    record {
      source = λ m h. source m (all.source m h);
      keeps = all.keeps;
      all = λ m k. all.all k.0 m (same k.0 k.1 ∙ k.2) (rw zero-add k.3);
    }
  where
    good : Good four
    good = (a.1, b.1, c.1, d.1)

    all : Added (row_from 0) t (value true four) start z
    all = added-wide {wide = true} 0 four refl good a.0 b.0 c.0 d.0

    ws : List ℕ
    ws = returns_for r f

    word : (q : ℕ) → q < 4 → get_or (words_of four) q 0 ≡ returned_word ws (f % 64) q
    word zero h = ap (λ (s : Set). s.a) e
    word (suc zero) h = ap (λ (s : Set). s.b) e
    word (suc (suc zero)) h = ap (λ (s : Set). s.c) e
    word (suc (suc (suc zero))) h = ap (λ (s : Set). s.d) e
    word (suc (suc (suc (suc q)))) h = absurd (omega arith)

    same : (x : ℕ) → x < 256 → bit (value true four) x ≡ bit (returned_word ws (f % 64) (x / 64)) (x % 64)
    same x i =
        value-bit true four (x / 64) (x % 64) good i (omega arith) (omega arith)
        ∙ ap (λ (w : ℕ). bit w (x % 64)) (word (x / 64) (omega arith))

    source : (m : ℕ) → On start m ⊎ ((x : ℕ) × On (value true four) x × Has t (0 + x) m) → On start m ⊎ handed_back r t f m
    source m (inl h) = inl h
    source m (inr h) =
        let i = on_below 256 (value true four) h.0 (value-lt true four good) h.1 in
        inr (h.0, i, sym (same h.0 i) ∙ h.1, rw zero-add at h.2)

-- a turn that joins what a function hands back
pub turn-handed : {r : Returns} {t : Table} {f all next : ℕ} → Handing r f t all next → Turn (handed_back r) t f all next
turn-handed h = record { source = h.source; keeps = h.keeps; told = h.all }

-- ---- the arrays of a program

-- what the arrays say that a function of p hands back is what its returns do
module _ (p : Program) (r : Returns) (returning : ReturnsOf p r) (t : Table) (f m : ℕ) (is : is_function p.sheet f ≡ true) where
  pub handed-returned : handed_back r t f m → (x : ℕ) × Memᴰ x (returns_of p f) × Has t x m
  handed-returned h = (h.0, (returning f h.0 is).0 (h.1, h.2), h.3)

  pub returned-handed : (x : ℕ) × Memᴰ x (returns_of p f) × Has t x m → handed_back r t f m
  returned-handed h = let g = (returning f h.0 is).1 h.1 in (h.0, g.0, g.1, h.2)
