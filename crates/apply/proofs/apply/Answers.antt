-- One use of the rules of a statement, by its variant. Assumes nothing.
use borrow.Author.Rules.{rules}
use mathlib.Core.Path.{refl}
use Rattle.apply.proofs.Saying.{said, said_plain, said-nothing, said-return, bounds}
use Rattle.apply.proofs.apply.Goals as goal

pub name_variable-requires : goal.name_variable-requires
name_variable-requires c = let b = bounds _ c.in-Named.is c.requires.1 in search rules

pub set_property-requires : goal.set_property-requires
set_property-requires c = let b = bounds _ c.in-Property.is c.requires.1 in search rules

pub give_label-requires : goal.give_label-requires
give_label-requires c = let b = bounds _ c.in-Held.is c.requires.1 in search rules

pub load-requires : goal.load-requires
load-requires c = let b = bounds _ c.in-Load.is c.requires.1 in search rules

pub store-requires : goal.store-requires
store-requires c = let b = bounds _ c.in-Store.is c.requires.1 in search rules

pub give_label-requires-in-Make : goal.give_label-requires-in-Make
give_label-requires-in-Make c = let b = bounds _ c.in-Make.is c.requires.1 in search rules

pub make_function-requires : goal.make_function-requires
make_function-requires c = let b = bounds _ c.in-MakeFunction.is c.requires.1 in search rules

pub call-requires : goal.call-requires
call-requires c = let b = bounds _ c.in-Call.is c.requires.1 in search rules

pub make_new-requires : goal.make_new-requires
make_new-requires c = let b = bounds _ c.in-New.is c.requires.1 in search rules

pub throw-requires : goal.throw-requires
throw-requires c = let b = bounds _ c.in-Throw.is c.requires.1 in search rules

pub catch-requires : goal.catch-requires
catch-requires c = let b = bounds _ c.in-Catch.is c.requires.1 in search rules

pub convert-requires : goal.convert-requires
convert-requires c = let b = bounds _ c.in-Convert.is c.requires.1 in search rules

pub returns-in-Nothing : goal.returns-in-Nothing
returns-in-Nothing c p serves = said-nothing c.in-Nothing.is

pub returns-in-Named : goal.returns-in-Named
returns-in-Named c p serves = said_plain (search rules) c.in-Named.is refl c.name_variable.ensures

pub returns-in-Grant : goal.returns-in-Grant
returns-in-Grant c p serves = said_plain (search rules) c.in-Grant.is refl c.grant.ensures

pub returns-in-Property : goal.returns-in-Property
returns-in-Property c p serves = said_plain (search rules) c.in-Property.is refl c.set_property.ensures

pub returns-in-Held : goal.returns-in-Held
returns-in-Held c p serves = said_plain (search rules) c.in-Held.is refl c.give_label.ensures

pub returns-in-Copy : goal.returns-in-Copy
returns-in-Copy c p serves = said_plain (search rules) c.in-Copy.is refl c.copy.ensures

pub returns-in-Load : goal.returns-in-Load
returns-in-Load c p serves = said (search rules) c.in-Load.is refl (c.load.ensures p serves.lays)

pub returns-in-Store : goal.returns-in-Store
returns-in-Store c p serves = said (search rules) c.in-Store.is refl (c.store.ensures p serves.lays)

pub returns-in-Make : goal.returns-in-Make
returns-in-Make c p serves = said_plain (search rules) c.in-Make.is refl c.give_label-in-Make.ensures

pub returns-in-MakeFunction : goal.returns-in-MakeFunction
returns-in-MakeFunction c p serves = said_plain (search rules) c.in-MakeFunction.is refl c.make_function.ensures

pub returns-in-Call : goal.returns-in-Call
returns-in-Call c p serves = said (search rules) c.in-Call.is refl (c.call.ensures p serves)

pub returns-in-New : goal.returns-in-New
returns-in-New c p serves = said (search rules) c.in-New.is refl (c.make_new.ensures p serves)

pub returns-in-Return : goal.returns-in-Return
returns-in-Return c p serves = said-return c.in-Return.is

pub returns-in-Throw : goal.returns-in-Throw
returns-in-Throw c p serves = said_plain (search rules) c.in-Throw.is refl c.throw.ensures

pub returns-in-Catch : goal.returns-in-Catch
returns-in-Catch c p serves = said_plain (search rules) c.in-Catch.is refl c.catch.ensures

pub returns-in-Convert : goal.returns-in-Convert
returns-in-Convert c p serves = said (search rules) c.in-Convert.is refl (c.convert.ensures p serves.lays serves.formals-of)
