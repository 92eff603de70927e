-- What it changes that guests are held to a class of names. Assumes nothing.
use mathlib.Core.Path.{◌≡◌, sym, ap, subst}
use mathlib.Core.List.{List, [], ◌∷◌, ◌++◌}
use Prim.Native.Nat.{ℕ, ◌≤◌}
use Rattle.format.specs.Reading.{Reading, read_file, Readable, written}
use Rattle.format.proofs.File.{complete-read}
use Rattle.program.specs.Program.{program_of, program_in}
use Rattle.program.proofs.Names.{every-name-inside}
use Rattle.profiles.specs.Profiles.{profile, Free, free_guest, Held, Profiles}
use Rattle.profiles.proofs.Read.{free-unheld, complete-without, complete-with, beside}
use Rattle.profiles.proofs.Found.{Parted, taken_out, put_in}
use Rattle.profiles.proofs.Guest.{free-guest}
use Rattle.profiles.proofs.Beside.{beside-held}

-- without the record the guest is document 01's
unheld : (L : ℕ) → 5 ≤ L → (xs : List ℕ) → Readable L xs → Free L xs → (program_in L xs).guests ≡ free_guest (read_file L xs).sheet ∷ []
unfolding program_of
unheld L five xs ok free = free-guest (read_file L xs).sheet (free-unheld L five xs ok free) (every-name-inside L xs five ok)

parted-held : (L : ℕ) → 5 ≤ L → (ys xs : List ℕ) (c : ℕ) → Parted L ys xs c → Held L ys xs c
parted-held L five ys xs c p =
    let without = written (p.before ++ p.behind) in
    let with_it = written (p.before ++ (profile c ∷ p.behind)) in
    subst (λ (zs : List ℕ). Held L zs xs c) (sym p.without)
    (subst (λ (zs : List ℕ). Held L without zs c) (sym p.with_it)
    (beside-held L five without with_it c
    (ap (λ (d : Reading). d.refusal) (complete-read L with_it (complete-with L p.before p.behind c p.around)))
    (ap (λ (d : Reading). d.refusal) (complete-read L without (complete-without L p.before p.behind c p.around)))
    (beside L p.before p.behind c p.around)))

pub profiles : (L : ℕ) → 5 ≤ L → Profiles L
profiles L five =
    record {
      without = unheld L five;
      taken_out = λ xs ok at c m. parted-held L five _ _ c (taken_out L xs ok at c m);
      put_in = λ before behind c whole class short ok free. parted-held L five _ _ c (put_in L five before behind c class whole short ok free);
    }
