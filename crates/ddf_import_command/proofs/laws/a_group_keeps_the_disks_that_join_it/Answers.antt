use Rattle.ddf_answer.specs.Call.{work_of}
use Rattle.ddf_import_command.proofs.Known.{keeps_joining}
use Rattle.ddf_import_command.proofs.laws.a_group_keeps_the_disks_that_join_it.Goals as goal

pub returns : goal.returns
returns g c = λ old new named other timestamp outcome native joined told imported is_group is_joined none seen.
    keeps_joining (work_of g.B.Bay.tells (g.B.Bay.disks old) (g.B.Bay.disks new)) told named other timestamp outcome native joined imported is_group is_joined none seen
