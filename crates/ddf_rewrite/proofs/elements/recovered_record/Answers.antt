use Rattle.std.proofs.Common.{◌≡◌, ◌∙◌, IfOk, ap, subst}
use Rattle.std.specs.Option.{option_copied}
use Rattle.ddf_config_records.specs.Building.{element_over}
use Rattle.ddf_config_records.specs.Elements.{CanBeElement}
use Rattle.ddf_config_records.specs.ElementValue.{ElementValue}
use Rattle.ddf_config_records.proofs.ElementRecords.{allowed}
use Rattle.ddf_rewrite.specs.Elements.{recovered_record}
use Rattle.ddf_rewrite.proofs.Altered.{element_named}
use Rattle.ddf_rewrite.proofs.elements.recovered_record.Goals as goal

pub over-requires-clause-size : goal.over-requires-clause-size
over-requires-clause-size c =
    let can : CanBeElement c.args.geometry.now c.held.inside.element.now = rw (← c.held.view_is) at (c.requires.own c.in-Some.held.now (ap option_copied c.in-Some.is)) in
    can.size

pub over-requires-clause-few : goal.over-requires-clause-few
over-requires-clause-few c = rw c.fields_of-element.ensures (allowed c.args.geometry.now c.args.leader.now c.requires.leader.is_element)

pub over-requires-clause-few_before : goal.over-requires-clause-few_before
over-requires-clause-few_before c =
    let can : CanBeElement c.args.geometry.now c.held.inside.element.now = rw (← c.held.view_is) at (c.requires.own c.in-Some.held.now (ap option_copied c.in-Some.is)) in
    allowed c.args.geometry.now c.held.inside.element.now can.is_element

pub over-requires-in-None-clause-few : goal.over-requires-in-None-clause-few
over-requires-in-None-clause-few c = rw c.fields_of-element.ensures (allowed c.args.geometry.now c.args.leader.now c.requires.leader.is_element)

pub over-requires-in-None-clause-few_before : goal.over-requires-in-None-clause-few_before
over-requires-in-None-clause-few_before c = allowed c.args.geometry.now c.args.leader.now c.requires.leader.is_element

pub returns-in-Some : goal.returns-in-Some
unfolding recovered_record
returns-in-Some c =
    let geometry = c.args.geometry.now in
    let own = c.held.inside.element.now in
    let over : IfOk c.over.result (λ element. element ≡ element_over geometry own c.args.leader.now) =
    subst (λ (x : ElementValue). IfOk c.over.result (λ element. element ≡ x)) (ap (element_over geometry own) c.fields_of-element.ensures ∙ element_named geometry own c.args.leader.now) c.over.ensures.exact in
    rw (c.in-Some.is, ← c.held.view_is) over
