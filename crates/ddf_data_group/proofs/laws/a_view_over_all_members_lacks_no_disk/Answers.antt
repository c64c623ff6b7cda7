use Rattle.ddf_data_group.proofs.Readied.{none_absent}
use Rattle.ddf_data_group.proofs.laws.a_view_over_all_members_lacks_no_disk.Goals as goal

pub returns : goal.returns
returns c = λ config guid seats volume array view found seated. none_absent config guid seats volume view array found seated
