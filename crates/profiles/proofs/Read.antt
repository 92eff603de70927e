-- A file with the record and the file without it are read as the same records but for that one, the sheets differ in the class alone, and what the
-- host says is the same. Assumes nothing.
use mathlib.Core.Path.{◌≡◌, refl, sym, ap, subst, ◌∙◌}
use mathlib.Core.Logic.{inl, inr}
use mathlib.Core.List.{List, [], ◌∷◌, ◌++◌, Memᴰ}
use mathlib.Core.Bool.{false}
use Prim.Native.Nat.{ℕ, ◌+◌, ◌≤◌, ◌<◌}
use native.Mathlib.Omega.{arith}
use lib.ListN.{length, length-append}
use borrow.Author.Tests.{lt-ltb}
use Rattle.layout.specs.Layout.{fields_of}
use Rattle.format.specs.Sheet.{Sheet, start, with_profile}
use Rattle.format.specs.Fields.{good, Fits}
use Rattle.format.specs.Records.{Record, WellFormed, misnamed, twice, after}
use Rattle.format.specs.Reading.{Reading, read_file, Readable, lacking, longest, written, sheet_after, AllWellFormed, positioned}
use Rattle.format.proofs.Written.{just}
use Rattle.format.proofs.File.{Complete, complete-read}
use Rattle.format.proofs.Placed.{written-append, well-formed-append, sheet-append}
use Rattle.format.proofs.Readable.{readable-ready}
use Rattle.program.specs.Statement as say
use Rattle.program.specs.Statement.{statements_of}
use Rattle.program.specs.Program.{host_statements}
use Rattle.toplevel.proofs.Bare.{bare, said, bare-host}
use Rattle.profiles.specs.Profiles.{profile, Free}
use Rattle.profiles.proofs.Records.{Unprofiled, all_held, sheet-with, class-stays}

-- ---- files without the record: no class is on the sheet

module _ (L : ℕ) (five : 5 ≤ L) (xs : List ℕ) (ok : Readable L xs) where
  pub free-unheld : Free L xs → (read_file L xs).sheet.profile ≡ 255
  free-unheld free =
      let p = (readable-ready L xs five ok).made.profile in
      elim p.profile-range [
        | inl h ↦ (let a = (p.profile-record (read_file L xs).sheet.profile).0 (h, refl) in absurd (free a.position _ a.member refl))
        | inr e ↦ e
      ]

  pub unheld-free : (read_file L xs).sheet.profile ≡ 255 → Free L xs
  unfolding Fits
  unheld-free none at r m e =
      let made = (readable-ready L xs five ok).made in
      go r.body (subst (λ (k : ℕ). Memᴰ (at, record { kind = k; body = r.body }) (read_file L xs).records) e m)
      (subst (λ (k : ℕ). Fits L (read_file L xs).sheet (fields_of k) r.body) e (made.all_fit at r m).1)
    where
      go : (b : List ℕ) → Memᴰ (at, record { kind = 9; body = b }) (read_file L xs).records → Fits L (read_file L xs).sheet (fields_of 9) b → ⊥
      go [] i f = f
      go (c ∷ []) i f =
          let h = ((readable-ready L xs five ok).made.profile.profile-record c).1 (record { position = at; member = i }) in
          omega (arith, none, h.0, h.1)
      go (c ∷ d ∷ b) i f = f.1

-- ---- both readings

-- d is what is read without the record, e with it
pub record Beside (d e : Reading) (c : ℕ) : Type 0 where
  pub class : c < 8
  pub unheld : d.sheet.profile ≡ 255
  pub sheet : e.sheet ≡ with_profile d.sheet c
  pub host : bare (host_statements e.records) ≡ bare (host_statements d.records)

-- the records before the one and behind it, as they are read without it
pub record Around (L : ℕ) (before behind : List Record) (c : ℕ) : Type 0 where
  pub class : c < 8
  pub first : AllWellFormed L (start L) before
  pub second : AllWellFormed L (sheet_after (start L) before) behind
  pub unheld : (sheet_after (start L) before).profile ≡ 255
  pub unprofiled : Unprofiled behind
  pub short : length (written (before ++ (profile c ∷ behind))) ≤ longest
  pub complete : lacking (sheet_after (start L) (before ++ behind)).types (sheet_after (start L) (before ++ behind)).defined ≡ false

-- what records say does not depend on where they stand
said-anywhere : (a b : ℕ) (rs : List Record) → said (positioned a rs) ≡ said (positioned b rs)
unfolding said positioned
said-anywhere a b [] = refl
said-anywhere a b (r ∷ rs) = ap (λ (ss : List say.Statement). statements_of r ++ ss) (said-anywhere (a + 1 + length r.body) (b + 1 + length r.body) rs)

-- and this one says nothing
said-with : (c a b : ℕ) (rs qs : List Record) → said (positioned a (rs ++ (profile c ∷ qs))) ≡ said (positioned b (rs ++ qs))
unfolding said positioned statements_of
said-with c a b [] qs = said-anywhere (a + 1 + 1) b qs
said-with c a b (r ∷ rs) qs =
    ap (λ (ss : List say.Statement). statements_of r ++ ss) (said-with c (a + 1 + length r.body) (b + 1 + length r.body) rs qs)

module _ (L : ℕ) (before behind : List Record) (c : ℕ) (w : Around L before behind c) where
  abbrev made : Sheet
  made = sheet_after (start L) before

  -- it may stand there
  record-well-formed : WellFormed L made (profile c)
  unfolding Fits good misnamed twice
  record-well-formed =
      record { kind-known = omega arith; fits = (lt-ltb c 8 w.class, tt); well-named = refl; once = rw w.unheld }

  shorter : length (written (before ++ behind)) ≤ longest
  unfolding written
  shorter =
      omega (
        arith,
        w.short,
        ap length (written-append before behind),
        ap length (written-append before (profile c ∷ behind)),
        length-append (written before) (written behind),
        length-append (written before) (9 ∷ c ∷ written behind),
      )

  pub complete-without : Complete L (written (before ++ behind))
  complete-without =
      record {
        records = before ++ behind;
        bytes = refl;
        short = shorter;
        well-formed = (well-formed-append L (start L) before behind).1 (w.first, w.second);
        complete = w.complete;
      }

  pub complete-with : Complete L (written (before ++ (profile c ∷ behind)))
  unfolding AllWellFormed after
  complete-with =
      record {
        records = before ++ (profile c ∷ behind);
        bytes = refl;
        short = w.short;
        well-formed = (well-formed-append L (start L) before (profile c ∷ behind)).1
            (w.first, (record-well-formed, all_held L made made.profile c behind w.unprofiled w.second));
        complete = subst (λ (s : Sheet). lacking s.types s.defined ≡ false) (sym (sheet-with (start L) before behind c w.unprofiled)) w.complete;
      }

  pub beside : Beside (read_file L (written (before ++ behind))) (read_file L (written (before ++ (profile c ∷ behind)))) c
  unfolding complete-without complete-with
  beside =
      subst (λ (d : Reading). Beside d (read_file L (written (before ++ (profile c ∷ behind)))) c)
      (sym (complete-read L (written (before ++ behind)) complete-without))
      (subst (λ (e : Reading). Beside (just (start L) 0 (before ++ behind) 0) e c)
      (sym (complete-read L (written (before ++ (profile c ∷ behind))) complete-with))
      (record {
        class = w.class;
        unheld = ap (λ (s : Sheet). s.profile) (sheet-append (start L) before behind) ∙ class-stays made behind w.unprofiled ∙ w.unheld;
        sheet = sheet-with (start L) before behind c w.unprofiled;
        host = bare-host (positioned 0 (before ++ (profile c ∷ behind))) ∙ said-with c 0 0 before behind ∙ sym (bare-host (positioned 0 (before ++ behind)));
      }))
