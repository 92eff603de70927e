-- The rows of the labels of one word: the loop takes the labels one by one. Assumes nothing.
use Rattle.sets.specs.Value.{value}
use Rattle.uses.specs.Use.{table_of}
use Rattle.uses.specs.Gather.{row_from}
use Rattle.uses.proofs.Unions.{Adding}
use Rattle.uses.proofs.gather_word.Given as goal

abbrev pub invariant-loop-l : goal.invariant-loop-l
invariant-loop-l l = Adding (row_from l.base) (table_of l.wide l.t) l.w (value l.wide l.initial.all) l.l-iterator.rest (value l.wide l.all)
