use Rattle.ddf_history_behind.proofs.Absent.{disks_current}
use Rattle.ddf_history_behind.proofs.laws.what_is_absent_is_a_current_member.Goals as goal

pub returns : goal.returns
returns g c = λ bay left named found is. disks_current (g.B.Bay.disks bay) left named found is
