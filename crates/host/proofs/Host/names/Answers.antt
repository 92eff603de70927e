-- The names of a key: the name itself, the word of its class, or all names without that. Assumes nothing.
use mathlib.Core.Path.{refl}
use native.Mathlib.Omega.{arith}
use borrow.Author.Rules.{rules}
use borrow.Author.Tests.{lt-ltb, le-ltb}
use Rattle.layout.specs.Key.{inside, outside}
use Rattle.layout.proofs.Keys.{key-name, key_below}
use Rattle.host.proofs.Host.names.Goals as goal

pub single-requires : goal.single-requires
single-requires c = omega (arith, key-name c.args.key c.requires (search rules), c.from.ensures)

pub returns-then-key-lt-INSIDE : goal.returns-then-key-lt-INSIDE
returns-then-key-lt-INSIDE c = rw (lt-ltb c.args.key inside (search rules), ← c.from.ensures) c.single.ensures

pub returns-then-key-lt-OUTSIDE : goal.returns-then-key-lt-OUTSIDE
returns-then-key-lt-OUTSIDE c =
    rw (le-ltb c.args.key inside (search rules), lt-ltb c.args.key outside (search rules), c.from-then-key-lt-OUTSIDE.ensures) refl

pub bounds-self-from-2 : goal.bounds-self-from-2
bounds-self-from-2 c = omega (arith, key_below c.args.key c.requires, c.from-2.ensures)

pub returns : goal.returns
returns c =
    let h = c.if-key-lt-OUTSIDE.false in
    rw (le-ltb c.args.key inside (omega arith), le-ltb c.args.key outside h, ← c.from-2.ensures) c.without.ensures
