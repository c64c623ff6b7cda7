use Rattle.std.proofs.Common.{ap}
use Rattle.std.specs.Option.{option_copied}
use Rattle.ddf_config_records.specs.Elements.{CanBeElement}
use Rattle.ddf_config_records.proofs.ElementRecords.{allowed}
use Rattle.ddf_rewrite.proofs.elements.created_over.Goals as goal

pub over-requires-clause-size : goal.over-requires-clause-size
over-requires-clause-size c =
    let can : CanBeElement c.args.geometry.now c.held.inside.element.now = rw (← c.held.view_is) at (c.requires.own c.in-Some.held.now (ap option_copied c.in-Some.is)) in
    can.size

pub over-requires-clause-few_before : goal.over-requires-clause-few_before
over-requires-clause-few_before c =
    let can : CanBeElement c.args.geometry.now c.held.inside.element.now = rw (← c.held.view_is) at (c.requires.own c.in-Some.held.now (ap option_copied c.in-Some.is)) in
    allowed c.args.geometry.now c.held.inside.element.now can.is_element

pub returns-in-Some : goal.returns-in-Some
returns-in-Some c = rw (c.in-Some.is, ← c.held.view_is) c.over.ensures.exact
