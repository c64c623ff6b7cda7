use Rattle.std.proofs.Common.{◌≡◌, ◌∙◌, true, false, sym, ap}
use Rattle.ddf_config_records.specs.ElementValue.{ElementValue}
use Rattle.ddf_view.specs.Differ.{same_record}
use Rattle.ddf_rewrite.specs.Elements.{planned}
use Rattle.ddf_rewrite.proofs.Altered.{changes_named, named, stays_named}
use Rattle.ddf_rewrite.proofs.elements.altered.Goals as goal

pub returns-then-same_record : goal.returns-then-same_record
returns-then-same_record c =
    let config = c.args.issue.now.config.now in
    let wanted = c.args.wanted.now in
    let leader = c.args.leader.now in
    let next : c.planned-next.result ≡ planned config wanted (named leader) = c.planned-next.ensures ∙ ap (planned config wanted) c.fields_of.ensures in
    let same : same_record leader (planned config wanted (named leader)) ≡ true = sym (ap (same_record leader) next) ∙ sym c.same_record.ensures ∙ c.if-same_record.true in
    c.fields_of-then-same_record.ensures ∙ stays_named config c.args.issue.now.timestamp wanted leader same

pub returns-else-same_record : goal.returns-else-same_record
returns-else-same_record c =
    let config = c.args.issue.now.config.now in
    let wanted = c.args.wanted.now in
    let leader = c.args.leader.now in
    let next : c.planned-next.result ≡ planned config wanted (named leader) = c.planned-next.ensures ∙ ap (planned config wanted) c.fields_of.ensures in
    let differs : same_record leader (planned config wanted (named leader)) ≡ false = sym (ap (same_record leader) next) ∙ sym c.same_record.ensures ∙ c.if-same_record.false in
    c.stamped.ensures ∙ ap (λ (element : ElementValue). record element { timestamp = c.args.issue.now.timestamp; sequence = config.sequence }) next ∙ changes_named config c.args.issue.now.timestamp wanted leader differs
