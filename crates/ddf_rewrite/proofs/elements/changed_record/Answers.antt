use Rattle.std.proofs.Common.{ap}
use Rattle.std.specs.Option.{option_copied}
use Rattle.ddf_config_records.specs.Elements.{CanBeElement}
use Rattle.ddf_config_records.proofs.ElementRecords.{allowed}
use Rattle.ddf_rewrite.specs.Elements.{altered, changed_record}
use Rattle.ddf_rewrite.proofs.Altered.{altered_few, over_named}
use Rattle.ddf_rewrite.proofs.elements.changed_record.Goals as goal

pub changed_over-requires-clause-leader : goal.changed_over-requires-clause-leader
changed_over-requires-clause-leader c = rw (← c.held.view_is) at (c.requires.leader c.in-Some.held.now (ap option_copied c.in-Some.is))

pub changed_over-requires-clause-few : goal.changed_over-requires-clause-few
changed_over-requires-clause-few c =
    let geometry = c.args.header.now.geometry in
    let leader = c.held.inside.element.now in
    let can : CanBeElement geometry leader = rw (← c.held.view_is) at (c.requires.leader c.in-Some.held.now (ap option_copied c.in-Some.is)) in
    rw c.altered-element.ensures
    (altered_few geometry.max_members c.args.issue.now.config.now c.args.issue.now.timestamp c.args.wanted.now leader (allowed geometry leader can.is_element) c.requires.few)

pub returns-in-Some-clause-exact : goal.returns-in-Some-clause-exact
unfolding changed_record
returns-in-Some-clause-exact c =
    let next = altered c.args.issue.now.config.now c.args.issue.now.timestamp c.args.wanted.now c.held.inside.element.now in
    rw (c.in-Some.is, ← c.held.view_is, ← over_named c.args.header.now.geometry (option_copied c.args.own) c.held.inside.element.now next, ← c.altered-element.ensures) c.changed_over.ensures
