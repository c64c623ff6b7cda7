use Rattle.ddf_history_steps.proofs.MembersKept.{members_kept}
use Rattle.ddf_command.proofs.laws.a_calls_changes_keep_members.Goals as goal

pub returns : goal.returns
returns c = λ group past now readable found changes timestamp steps are done ends. members_kept group past now readable found changes timestamp steps are done ends
