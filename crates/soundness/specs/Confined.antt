-- What demand 3 promises of a program's runs, and what it asks of a table. Assumes nothing.
use Rattle.std.specs.Prelude.{◌≡◌, ℕ}
use mathlib.Core.List.{List, Memᴰ}
use Rattle.words.specs.Words.{bit}
use Rattle.rules.specs.Table.{Table, Has}
use Rattle.program.specs.Program.{Program, Guest}
use Rattle.machine.specs.State.{labels_held}
use Rattle.machine.specs.Step.{Move, run}
use Rattle.machine.specs.Start.{start}

-- "after every finite list of steps of the handset machine from its start .. the guest holds no object of a forbidden label"
abbrev pub Confined : Program → Type 0
Confined p =
    (moves : List Move) (g : Guest) → Memᴰ g p.guests → (l : ℕ) → Memᴰ l (labels_held (run p moves (start p)) g.bag)
    → bit g.forbidden l ≡ 1 → ⊥

-- the row of a guest's bag holds no label that is forbidden to the guest
abbrev pub NoneForbidden : Program → Table → Type 0
NoneForbidden p t = (g : Guest) → Memᴰ g p.guests → (l : ℕ) → Has t g.bag l → bit g.forbidden l ≡ 1 → ⊥
