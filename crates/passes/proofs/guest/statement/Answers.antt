-- The guest's statements, by their numbers. Assumes nothing.
use borrow.Author.Rules.{rules}
use mathlib.Core.Path.{refl}
use Rattle.rows.specs.declared.Var.{Var}
use Rattle.rows.specs.declared.Label.{Label}
use Rattle.passes.specs.Order.{the_site}
use Rattle.records.specs.declared.Statement.TheVariants.{Load, Store, Call, New, Return, Throw, Catch}
use Rattle.passes.proofs.Guests.{said_at, three_labels, last_one}
use Rattle.passes.proofs.guest.statement.Goals as goal

abbrev bag : Var
bag = the_site.result

abbrev label : Label
label = the_site.scope

pub returns-in-0 : goal.returns-in-0
returns-in-0 c = said_at 0 c.made.result c.in-0.is (record { rule = λ p. c.made.ensures.result_value p c.args.key; bounded = c.made.ensures.in_bounds })

pub returns-in-1 : goal.returns-in-1
returns-in-1 c =
    let a = c.args in
    said_at 1 (Load bag bag a.key label) c.in-1.is (record { rule = λ p. refl; bounded = λ wide. (c.requires.0, three_labels wide) })

pub returns-in-2 : goal.returns-in-2
returns-in-2 c =
    let a = c.args in
    said_at 2 (Store bag a.key bag) c.in-2.is (record { rule = λ p. refl; bounded = λ wide. c.requires.0 })

pub returns-in-3 : goal.returns-in-3
returns-in-3 c = rw c.guest_site.ensures (said_at 3 (Call the_site) c.in-3.is (record { rule = λ p. refl; bounded = λ wide. three_labels wide }))

pub returns-in-4 : goal.returns-in-4
returns-in-4 c = rw c.guest_site-in-4.ensures (said_at 4 (New the_site label) c.in-4.is (record { rule = λ p. refl; bounded = λ wide. (three_labels wide, three_labels wide) }))

pub returns-in-5 : goal.returns-in-5
returns-in-5 c = said_at 5 Return c.in-5.is (record { rule = λ p. refl; bounded = λ wide. tt })

pub returns-in-6 : goal.returns-in-6
returns-in-6 c = said_at 6 (Throw label bag) c.in-6.is (record { rule = λ p. refl; bounded = λ wide. three_labels wide })

pub returns-in_default : goal.returns-in_default
returns-in_default c =
    let e = last_one c.args.i c.requires.1 (search rules) (search rules) (search rules) (search rules) (search rules) (search rules) (search rules) in
    said_at 7 (Catch label bag) e (record { rule = λ p. refl; bounded = λ wide. three_labels wide })
