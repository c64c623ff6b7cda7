use Rattle.ddf_disk_commands.proofs.ExamineEnds.{examine_ends}
use Rattle.ddf_disk_commands.proofs.examining.examine.Goals as goal

pub returns-clause-ends : goal.returns-clause-ends
returns-clause-ends g c = examine_ends _ _ c.print_slots.ensures.examined c.print_slots.ensures.stream c.print_slots.ensures.reads
