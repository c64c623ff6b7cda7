-- How commands that aren't done answer.
use Rattle.std.specs.Prelude.{◌≡◌}
use Rattle.ddf_config.specs.declared.refusal.Refusal.TheVariants.{NoGroup, SeveralGroups}
use Rattle.ddf_plan.specs.declared.fault.PlanFault.{PlanFault}
use Rattle.ddf_plan.specs.declared.fault.PlanFault.TheVariants as plans
use Rattle.ddf_group.specs.declared.answer.Assembly.{Assembly}
use Rattle.ddf_group.specs.declared.answer.Assembly.TheVariants as faults
use Rattle.ddf_text.specs.Conflicts.{conflict_line, split_line}
use Rattle.ddf_text.specs.Refusal.{disk_fault_line, refusal_line}
use Rattle.ddf_answer.specs.Call.{Answer}
use Rattle.ddf_answer.specs.Tells.{ClosesWith, EndsWith}
use Rattle.ddf_answer.specs.declared.failure.Failure.{Failure}
use Rattle.ddf_answer.specs.declared.failure.Failure.TheVariants.{Conflict, Disk, Memory, Refused, Split}

-- why there is no group to work on
abbrev pub failure_of : Assembly → Failure
failure_of faults.NoGroup = Refused NoGroup
failure_of (faults.SeveralGroups first second) = Refused (SeveralGroups first second)
failure_of (faults.Conflict i j sequence differ) = Conflict i j sequence differ
failure_of (faults.Split i j) = Split i j
failure_of faults.Memory = Memory

-- why a change of the group isn't asked for
abbrev pub failure_of_plan : PlanFault → Failure
failure_of_plan (plans.Refused refusal) = Refused refusal
failure_of_plan plans.Memory = Memory

-- what is told of a failure, and with which status: once a disk was written no memory is taken
abbrev pub IsToldFailure : Failure → Answer → Type 0
IsToldFailure (Refused refusal) answer = EndsWith 1 (refusal_line refusal) answer
IsToldFailure (Disk slot) answer = ClosesWith 3 (disk_fault_line slot) answer
IsToldFailure (Conflict i j sequence differ) answer = EndsWith 4 (conflict_line i j sequence differ) answer
IsToldFailure (Split i j) answer = EndsWith 4 (split_line i j) answer
IsToldFailure Memory answer = (answer.status ≡ 5) × (answer.tells → answer.new.taken ≡ answer.old.taken)
