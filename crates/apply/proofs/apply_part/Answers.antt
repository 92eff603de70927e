-- A part of a use, which a load alone has. Assumes nothing.
use borrow.Author.Rules.{rules}
use mathlib.Core.Path.{refl}
use Rattle.uses.specs.Use.{start}
use Rattle.apply.proofs.Saying.{said-part, bounds}
use Rattle.apply.proofs.apply_part.Goals as goal

pub load_part-requires : goal.load_part-requires
load_part-requires c = let b = bounds _ c.in-Load.is c.requires.1 in search rules

pub returns-in-Load : goal.returns-in-Load
returns-in-Load c = record { reached = λ p lays. said-part p (search rules) c.in-Load.is refl (c.load_part.ensures.reached p _ lays); t_len_unchanged = c.load_part.ensures.t_len_unchanged }

pub returns-in_default : goal.returns-in_default
returns-in_default c = record { reached = λ p lays. start; t_len_unchanged = refl }
