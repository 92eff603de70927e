-- A use that goes through a set that was told: chains first, then what is found on them. Assumes nothing.
use mathlib.Core.Path.{◌≡◌, refl}
use mathlib.Core.Logic.{inl, inr}
use mathlib.Core.Bool.{Bool, true, false}
use mathlib.Core.List.{List}
use Prim.Native.Nat.{ℕ}
use Rattle.words.proofs.Bits.{On, empty-off}
use Rattle.rules.specs.Table.{Table, Within}
use Rattle.rules.specs.Rule.{Rule, when}
use Rattle.rules.specs.Told.{Told}
use Rattle.program.specs.Program.{Program}
use Rattle.uses.specs.Use.{Apart, table_of}
use Rattle.uses.proofs.Use.{used-for}
use Rattle.kept.specs.Promise.{Slot, Tells, Answer, Tellings}
use Rattle.shared.specs.Apply.{Applies}

-- nothing was held already
pub told-all : {F : Table → ℕ → ℕ → Type 0} {old t : Table} {s r : ℕ} → Answer F old t s 0 r → (l m : ℕ) → On s l → F old l m → On r m
told-all {F} {old} {t} {s} {r} a l m h i = elim (a.all l m h i) [ inl o ↦ o | inr o ↦ absurd (empty-off m o) ]

-- T is what is done with the set `on` that was told for s; S is what is done with s
pub applies-through : {wide : Bool} {o s on : ℕ} {p : Program} {T S : Table → ℕ → ℕ → Type 0} {t u keeps kept left : List ℕ} {grew : Bool} (slot : Slot)
    → Apart wide o → Tellings wide p slot t s 0 on keeps kept
    → ((a : Table) → Within (table_of wide t) a → ((m : ℕ) → On on m → (l : ℕ) × On s l × Tells wide p slot (table_of wide t) l m) → (r l : ℕ) → T a r l → S a r l)
    → ((a : Table) → Within a (table_of wide t) → ((l m : ℕ) → On s l → Tells wide p slot a l m → On on m) → (r l : ℕ) → S a r l → T a r l)
    → Applies wide o p T t kept u left grew → Applies wide o p S t keeps u left grew
applies-through {wide} {o} slot w tell f g a =
    record {
      uses =
          λ old since m. (let q = tell o old since m in
          used-for w (λ c i. f c i q.0.source) (g (table_of wide old) since (told-all q.0)) (a.uses old since q.1));
      memory = λ old since m. a.memory old since (tell o old since m).1;
    }

-- ---- under a test

pub told-when : (L : ℕ) (t : Table) (p : Rule) (b : Bool) (r l : ℕ) → b ≡ true → Told L t p r l → Told L t (when b p) r l
told-when L t p b r l e h = rw e h

pub when-told : (L : ℕ) (t : Table) (p : Rule) (b : Bool) (r l : ℕ) → Told L t (when b p) r l → (b ≡ true) × Told L t p r l
when-told L t p true r l h = (refl, h)
when-told L t p false r l h = absurd h

-- ---- no label

pub none-on : (s l : ℕ) → s ≡ 0 → On s l → ⊥
none-on s l e h = empty-off l (rw e at h)
