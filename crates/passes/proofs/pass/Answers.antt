-- One pass: the lines, then the records. Assumes nothing.
use borrow.Author.Rules.{rules}
use Rattle.passes.proofs.Whole.{applies-pass}
use Rattle.passes.proofs.pass.Goals as goal

pub host_rules-b-requires : goal.host_rules-b-requires
host_rules-b-requires c =
    (record { room = search rules; apart = c.requires.0.apart }, c.requires.1)

pub returns : goal.returns
returns c =
    λ known. applies-pass c.args.file.now c.requires.0.apart (c.lines-a.ensures _ known)
    (c.host_rules-b.ensures _ known.serves)
