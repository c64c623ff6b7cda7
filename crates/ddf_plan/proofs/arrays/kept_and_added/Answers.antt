use Rattle.std.proofs.Common.{◌≡◌, ◌∙◌, ap}
use Rattle.ddf_config.specs.Entries.{changed_entries}
use Rattle.ddf_plan.specs.Members.{members_after}
use Rattle.ddf_plan.specs.Arrays.{kept_array}
use Rattle.ddf_plan.specs.Standing.{takes_revertible}
use Rattle.ddf_plan.proofs.Afters.{guid_stays_new}
use Rattle.ddf_plan.proofs.arrays.kept_and_added.Goals as goal

pub with_added-requires : goal.with_added-requires
with_added-requires c =
    rw c.in_ok-kept.ensures
    (guid_stays_new c.args.change.now (kept_array (takes_revertible c.args.config.now c.args.change.now) c.args.members.now.entries c.args.change.now) c.args.config.now.arrays c.requires.fresh)

pub returns : goal.returns
returns c =
    let config = c.args.config.now in
    let change = c.args.change.now in
    let kept : c.in_ok-kept.kept.entries ≡ changed_entries (kept_array (takes_revertible config change) (members_after config change) change) config.arrays =
    c.in_ok-kept.ensures ∙ ap (λ members. changed_entries (kept_array (takes_revertible config change) members change) config.arrays) c.requires.members in
    rw kept at c.with_added.ensures
