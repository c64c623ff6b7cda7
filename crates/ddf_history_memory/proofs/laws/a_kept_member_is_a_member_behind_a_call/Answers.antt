use Rattle.ddf_history_memory.proofs.Members.{stays_current, stays_member, stays_missing}
use Rattle.ddf_history_memory.proofs.laws.a_kept_member_is_a_member_behind_a_call.Goals as goal

pub returns-clause-member : goal.returns-clause-member
returns-clause-member c = λ group past now new readable found asked timestamp steps done are ends history told slot there plugged stays.
    stays_member group past now readable found asked timestamp steps done are ends new history told slot there plugged stays

pub returns-clause-current : goal.returns-clause-current
returns-clause-current c = λ group past now readable found asked timestamp steps done are ends slot stays.
    stays_current group past now readable found asked timestamp steps done are ends slot stays

pub returns-clause-missing : goal.returns-clause-missing
returns-clause-missing c = λ group past now readable found asked timestamp steps done are ends slot missing.
    stays_missing group past now readable found asked timestamp steps done are ends slot missing
