-- The class that guests are held to, at the start and as a record gives it. Assumes nothing.
use mathlib.Core.Path.{◌≡◌, refl, sym}
use mathlib.Core.Logic.{◌⊎◌, inl, inr}
use mathlib.Core.List.Memᴰ
use mathlib.Core.List.{List, [], ◌∷◌}
use Prim.Native.Nat.{ℕ, ◌<◌}
use native.Mathlib.Omega.{arith}
use Rattle.layout.specs.Key.{class_count}
use Rattle.format.specs.Sheet.{no_profile, start}
use Rattle.format.specs.Records.{Record}
use Rattle.format.proofs.Ready.{Among, Profile}
use Rattle.format.proofs.Among.{followed, among-last, among-followed, among-other}

pub profile-start : (L : ℕ) → Profile (start L).profile []
unfolding start
profile-start L =
    record {
      profile-range = inr refl;
      profile-record = λ c. ((λ h. let e = h.1 in absurd (omega (arith, h.0))), λ a. absurd (Memᴰ.not-nil a.member));
    }

pub profile-more : {profile : ℕ} (ps : List (ℕ × Record)) (at k : ℕ) (b : List ℕ) → (k ≡ 9 → ⊥) → Profile profile ps → Profile profile (followed ps at k b)
profile-more ps at k b h x =
    record {
      profile-range = x.profile-range;
      profile-record = λ c.
          let o = among-other ps at k b (c ∷ []) (λ e. h (sym e)) in
          ((λ e. o.0 ((x.profile-record c).0 e)), λ a. (x.profile-record c).1 (o.1 a));
    }

-- the one record: before it there was none
pub profile-given : (ps : List (ℕ × Record)) (at profile c : ℕ) → c < class_count → profile ≡ no_profile → Profile profile ps → Profile c (followed ps at 9 (c ∷ []))
profile-given ps at profile c h none x =
    record {
      profile-range = inl h;
      profile-record = λ d. ((λ e. rw (sym e.1) (among-last ps at 9 (c ∷ []))), λ a. cases d (among-followed ps at 9 (c ∷ []) a));
    }
  where
    cases : (d : ℕ) → Among 9 (d ∷ []) ps ⊎ (◌≡◌ {A = ℕ} 9 9 × ◌≡◌ {A = List ℕ} (d ∷ []) (c ∷ [])) → (d < 8) × (c ≡ d)
    cases d (inl a) = let e = (x.profile-record d).1 a in absurd (omega (arith, e.0, e.1))
    cases d (inr q) = let e : d ≡ c = (let f = q.1 in cc) in (omega arith, sym e)
