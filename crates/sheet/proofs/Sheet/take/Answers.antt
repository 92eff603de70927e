-- `sheet::Sheet::take` meets its contract: good fields give each kind's own method the length and the places that it asks for. Assumes nothing.
use mathlib.Core.Path.{◌≡◌, sym, ap, ◌∙◌}
use Rattle.layout.specs.Kinds.{number_of}
use Rattle.sheet.proofs.Laws.{cut-length}
use Rattle.sheet.proofs.Bodies.{name_body, label-body, forbid-body, function-body, variable-body, profile-body}
use Rattle.sheet.proofs.Sheet.take.Goals as goal

pub take_name-requires : goal.take_name-requires
take_name-requires c =
    let e : c.args.kind ≡ 1 = sym c.in-Some-Name.ensures ∙ ap number_of c.in-Some-Name.field-0-is in
    name_body _ _ _ (rw e at c.requires)

pub take_label-requires : goal.take_label-requires
take_label-requires c =
    let e : c.args.kind ≡ 2 = sym c.in-Some-Label.ensures ∙ ap number_of c.in-Some-Label.field-0-is in
    label-body _ _ _ (rw e at c.requires)

pub take_forbid-requires : goal.take_forbid-requires
take_forbid-requires c =
    let e : c.args.kind ≡ 3 = sym c.in-Some-Forbid.ensures ∙ ap number_of c.in-Some-Forbid.field-0-is in
    forbid-body _ _ _ (cut-length _ _) (rw e at c.requires)

pub take_function-requires : goal.take_function-requires
take_function-requires c =
    let e : c.args.kind ≡ 4 = sym c.in-Some-Function.ensures ∙ ap number_of c.in-Some-Function.field-0-is in
    function-body _ _ _ (cut-length _ _) (rw e at c.requires)

pub take_variable-requires : goal.take_variable-requires
take_variable-requires c =
    let e : c.args.kind ≡ 5 = sym c.in-Some-Variable.ensures ∙ ap number_of c.in-Some-Variable.field-0-is in
    variable-body _ _ _ (rw e at c.requires)

pub take_profile-requires : goal.take_profile-requires
take_profile-requires c =
    let e : c.args.kind ≡ 9 = sym c.in-Some-Profile.ensures ∙ ap number_of c.in-Some-Profile.field-0-is in
    profile-body _ _ _ (rw e at c.requires)
