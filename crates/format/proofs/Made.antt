-- The sheet of the start is made by no record, and each well-formed record, put behind those that made a sheet, makes the next.
-- Assumes nothing.
use mathlib.Core.Path.{◌≡◌, refl, ap}
use mathlib.Core.Logic.{◌⊎◌, inl, inr}
use mathlib.Core.Bool.{true}
use mathlib.Core.List.Memᴰ
use mathlib.Core.List.{List, [], ◌∷◌, ◌++◌, append_assoc, append-nil, Memᴰ}
use Prim.Native.Nat.{ℕ, ◌+◌, ◌*◌, ◌-◌, ◌<◌, ◌≤◌}
use native.Mathlib.Omega.{arith}
use lib.ListN.{length, get_or, replicate, length-append, length-replicate, get_or-replicate}
use Rattle.layout.specs.Layout.{name, variable, fields_of, body_length}
use Rattle.format.specs.Sheet.{Sheet, start}
use Rattle.format.specs.Fields.{good, Fits}
use Rattle.format.specs.Records.{Record, WellFormed, after}
use Rattle.format.specs.Reading.{sheet_after, AllWellFormed, positioned}
use Rattle.format.proofs.Fields.{fits-length, fits-good}
use Rattle.format.proofs.Effect.{Effect, gives-mask, declares-label, forbids, defines, declares-variable, holds-guests, leaves-sheet, effect, Variable, variable-of}
use Rattle.format.proofs.Later.{Sized, Extends, effect-extends, fits-stays, declared-below, function-room}
use Rattle.format.proofs.Ready.{AllFit, start_types, start_flags, Held, Made}
use Rattle.format.proofs.Among.{followed}
use Rattle.format.proofs.Labels.{labels-start, labels-more, labels-declared}
use Rattle.format.proofs.Functions.{start_defined, functions-start, functions_more, functions-defined}
use Rattle.format.proofs.Variables.{variables-start, variables-more, variables-declared}
use Rattle.format.proofs.Masks.{masks-start, masks-more, masks-given}
use Rattle.format.proofs.Forbidden.{forbidden-start, forbidden-more, forbidden-added}
use Rattle.format.proofs.Profile.{profile-start, profile-more, profile-given}

-- ---- the start

padded-length : (xs : List ℕ) (L : ℕ) → length xs ≡ 5 → 5 ≤ L → length (xs ++ replicate (L - 5) 0) ≡ L
padded-length xs L e h = omega (arith, length-append xs (replicate (L - 5) 0), length-replicate {A = ℕ} (L - 5) 0)

pub start-sized : (L : ℕ) → 5 ≤ L → Sized L (start L)
unfolding start
start-sized L h =
    record {
      types-length = padded-length start_types L refl h;
      flags-length = padded-length start_flags L refl h;
      defined-length = padded-length start_defined L refl h;
      formals-length = length-replicate {A = ℕ} (7 * L) 1;
      masks-length = length-replicate {A = ℕ} 32 0;
      owners-length = length-replicate {A = ℕ} 256 1;
      names-length = length-replicate {A = ℕ} 256 255;
    }

pub made-start : (L : ℕ) → 5 ≤ L → Made L (start L) []
made-start L h =
    record {
      sized = start-sized L h;
      all_fit = λ at r m. absurd (Memᴰ.not-nil m);
      labels = labels-start L;
      functions = functions-start L h;
      variables = variables-start L;
      masks = masks-start L;
      forbidden = forbidden-start L;
      profile = profile-start L;
    }

-- ---- one record more

all_fit_more : (L : ℕ) (s s' : Sheet) (ps : List (ℕ × Record)) (at : ℕ) (r : Record) → Extends s s' → AllFit L s ps
    → (0 < body_length r.kind) → Fits L s (fields_of r.kind) r.body → AllFit L s' (ps ++ ((at, r) ∷ []))
all_fit_more L s s' ps at r x old known fits j q m = go (Memᴰ.append_cases ps m)
  where
    go : Memᴰ {A = ℕ × Record} (j, q) ps ⊎ Memᴰ {A = ℕ × Record} (j, q) ((at, r) ∷ [])
        → (0 < body_length q.kind) × Fits L s' (fields_of q.kind) q.body
    go (inl n) = ((old j q n).0, fits-stays L s s' x _ _ (old j q n).1)
    go (inr n) =
        let e : q ≡ r = ap (λ (p : ℕ × Record). p.1) (Memᴰ.eq_of_singleton n) in
        rw e (known, fits-stays L s s' x _ _ fits)

-- the seven variables of a function record are 0 or declared
seven-held : (L : ℕ) (s : Sheet) (vs : List ℕ) → Fits L s (replicate 7 variable) vs → (j : ℕ) → j < 7 → Held s.owners (get_or vs j 0)
unfolding good
seven-held L s vs f j h = go (variable-of s (get_or vs j 0) fine)
  where
    fine : good L s variable (get_or vs j 0) ≡ true
    fine = rw (get_or-replicate 7 j variable name h) at (fits-good L s (replicate 7 variable) vs f j h)

    go : Variable s (get_or vs j 0) → Held s.owners (get_or vs j 0)
    go (inl e) = inl (omega arith)
    go (inr n) = inr n

made-record : {L : ℕ} {s : Sheet} {k : ℕ} {b : List ℕ} {s' : Sheet} (ps : List (ℕ × Record)) (at : ℕ) → Made L s ps
    → Sized L s' → AllFit L s' (followed ps at k b) → Extends s s' → Effect L s k b s' → Made L s' (followed ps at k b)
made-record {L} {s} {k} {b} {s'} ps at m size fit x (gives-mask n a hn odd e) =
    record {
      sized = size;
      all_fit = fit;
      labels = labels-more _ m.labels;
      functions = functions_more _ _ _ _ ps _ x.owners-kept m.functions;
      variables = variables-more _ _ _ _ ps _ x.types-kept m.variables;
      masks = masks-given _ ps at n a m.masks (omega (arith, m.sized.masks-length)) odd;
      forbidden = forbidden-more ps at 1 _ (λ z. omega arith) m.forbidden;
      profile = profile-more ps at 1 _ (λ z. omega arith) m.profile;
    }
made-record {L} {s} {k} {b} {s'} ps at m size fit x (declares-label l t f h5 hL h1 h3 hf e) =
    record {
      sized = size;
      all_fit = fit;
      labels = labels-declared _ _ ps at l t f m.labels (omega (arith, m.sized.types-length)) (omega (arith, m.sized.flags-length)) h5 h3;
      functions = functions_more _ _ _ _ ps _ x.owners-kept m.functions;
      variables = variables-more _ _ _ _ ps _ x.types-kept m.variables;
      masks = masks-more _ m.masks;
      forbidden = forbidden-more ps at 2 _ (λ z. omega arith) m.forbidden;
      profile = profile-more ps at 2 _ (λ z. omega arith) m.profile;
    }
made-record {L} {s} {k} {b} {s'} ps at m size fit x (forbids l d) =
    record {
      sized = size;
      all_fit = fit;
      labels = labels-more _ m.labels;
      functions = functions_more _ _ _ _ ps _ x.owners-kept m.functions;
      variables = variables-more _ _ _ _ ps _ x.types-kept m.variables;
      masks = masks-more _ m.masks;
      forbidden = forbidden-added L _ ps at l (declared-below L s l m.sized d) m.forbidden;
      profile = profile-more ps at 3 _ (λ z. omega arith) m.profile;
    }
made-record {L} {s} {k} {b} {s'} ps at m size fit x (defines l vs f g e) =
    record {
      sized = size;
      all_fit = fit;
      labels = labels-more _ m.labels;
      functions =
          functions-defined _ _ _ ps at l vs m.functions f.from-five (function-room L s l m.sized f)
          (fits-length L s _ vs g) (seven-held L s vs g);
      variables = variables-more _ _ _ _ ps _ x.types-kept m.variables;
      masks = masks-more _ m.masks;
      forbidden = forbidden-more ps at 4 _ (λ z. omega arith) m.forbidden;
      profile = profile-more ps at 4 _ (λ z. omega arith) m.profile;
    }
made-record {L} {s} {k} {b} {s'} ps at m size fit x (declares-variable v o n h2 h255 ho hn e) =
    record {
      sized = size;
      all_fit = fit;
      labels = labels-more _ m.labels;
      functions = functions_more _ _ _ _ ps _ x.owners-kept m.functions;
      variables =
          variables-declared _ _ _ ps at v o n m.variables (omega (arith, m.sized.owners-length))
          (omega (arith, m.sized.names-length)) h2 (omega arith) ho hn;
      masks = masks-more _ m.masks;
      forbidden = forbidden-more ps at 5 _ (λ z. omega arith) m.forbidden;
      profile = profile-more ps at 5 _ (λ z. omega arith) m.profile;
    }
made-record {L} {s} {k} {b} {s'} ps at m size fit x (holds-guests c h e) =
    record {
      sized = size;
      all_fit = fit;
      labels = labels-more _ m.labels;
      functions = functions_more _ _ _ _ ps _ x.owners-kept m.functions;
      variables = variables-more _ _ _ _ ps _ x.types-kept m.variables;
      masks = masks-more _ m.masks;
      forbidden = forbidden-more ps at 9 _ (λ z. omega arith) m.forbidden;
      profile = profile-given ps at s.profile c h e m.profile;
    }
made-record {L} {s} {k} {b} {s'} ps at m size fit x (leaves-sheet j c p q) =
    record {
      sized = size;
      all_fit = fit;
      labels = labels-more _ m.labels;
      functions = functions_more _ _ _ _ ps _ x.owners-kept m.functions;
      variables = variables-more _ _ _ _ ps _ x.types-kept m.variables;
      masks = masks-more _ m.masks;
      forbidden = forbidden-more ps at j c p m.forbidden;
      profile = profile-more ps at j c q m.profile;
    }

pub made-next : (L : ℕ) (s : Sheet) (ps : List (ℕ × Record)) (at : ℕ) (r : Record) → Made L s ps → WellFormed L s r
    → Made L (after s r.kind r.body) (ps ++ ((at, r) ∷ []))
made-next L s ps at r m w =
    let e = effect L s r w in
    let x = effect-extends e in
    let fit = all_fit_more L s (after s r.kind r.body) ps at r x m.all_fit w.kind-known w.fits in
    made-record ps at m (x.sizes-kept L m.sized) fit x e

pub made_all : (L : ℕ) (s : Sheet) (ps : List (ℕ × Record)) (at : ℕ) (rs : List Record) → Made L s ps → AllWellFormed L s rs
    → Made L (sheet_after s rs) (ps ++ positioned at rs)
unfolding sheet_after AllWellFormed positioned
made_all L s ps at [] m w = rw (append-nil ps) m
made_all L s ps at (r ∷ rs) m w =
    let after_one : Sheet = after s r.kind r.body in
    let e : (ps ++ ((at, r) ∷ [])) ++ positioned (at + 1 + length r.body) rs ≡ ps ++ ((at, r) ∷ positioned (at + 1 + length r.body) rs) =
    append_assoc ps ((at, r) ∷ []) (positioned (at + 1 + length r.body) rs) in
    rw e at (made_all L after_one (ps ++ ((at, r) ∷ [])) (at + 1 + length r.body) rs (made-next L s ps at r m w.0) w.1)
