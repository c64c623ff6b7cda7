use Rattle.std.proofs.Common.{◌∙◌, List, Option, ap, filter_map}
use Rattle.ddf_copy.specs.declared.newest_copy.Newest.{Newest}
use Rattle.ddf_group_commands.specs.Requests.{linux_member}
use Rattle.ddf_group_commands.proofs.linux.linux_members.Goals as goal

pub returns : goal.returns
returns c =
    c.in_ok-members.ensures
    ∙ ap (λ (newest : List (Option Newest)). filter_map (linux_member newest) c.seats.result.now) c.newest.ensures
    ∙ ap (filter_map (linux_member c.args.group.now.newest)) c.seats.ensures
