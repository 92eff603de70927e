-- The search: each turn adds only what the rules tell. Assumes nothing.
use mathlib.Core.Path.{refl, ◌∙◌}
use Rattle.rows.specs.Edition.{labels}
use Rattle.format.proofs.File.{readable-read}
use Rattle.turns.proofs.Turning.{steps-none, steps_on}
use Rattle.turns.proofs.search_on.Goals.{in-Some+then-use_found, in-Some+else-use_found, in_default+then-is_empty+else-is_last, in_default+else-is_empty}
use Rattle.turns.proofs.search_on.Goals as goal

pub returns-then-passes-lt-FIRST : goal.returns-then-passes-lt-FIRST
returns-then-passes-lt-FIRST c known = steps-none

pub enter_all-requires : goal.enter_all-requires
enter_all-requires c =
    let a = c.args in
    (c.requires.1, (readable-read (labels a.wide) a.file.now c.requires.1).short, c.none-index.ensures (labels a.wide) a.file.now)

pub turns-init : goal.turns-init
turns-init c = (refl, λ known. steps-none)

pub turns-preserved : goal.turns-preserved
turns-preserved c =
    let inv = c.turns.invariant in
    elim c.match-next_noted.branch [
      | in-Some+then-use_found w ↦ rw (w.t-is, w.keeps-is) (w.use_found.ensures.t_len_unchanged ∙ inv.0, λ known. steps_on (inv.1 known) (w.use_found.ensures.steps_for known))
      | in-Some+else-use_found w ↦ rw (w.t-is, w.keeps-is) (w.use_found.ensures.t_len_unchanged ∙ inv.0, λ known. steps_on (inv.1 known) (w.use_found.ensures.steps_for known))
      | in_default+then-is_empty+else-is_last w ↦ rw (w.t-is, w.keeps-is) inv
      | in_default+else-is_empty w ↦ rw (w.t-is, w.keeps-is) inv
    ]
