use Rattle.ddf_steps.proofs.Common.{written_past}
use Rattle.ddf_data_disks.proofs.laws.a_copy_is_written_at_or_past_its_floor.Goals as goal

pub returns : goal.returns
returns c = written_past
