use Rattle.ddf_data_group.proofs.Moving.{moving}
use Rattle.ddf_data_group.proofs.laws.a_position_on_another_disk_keeps_the_data.Goals as goal

pub returns : goal.returns
returns c = λ members seats element position reference start before after image allowed are is may kept. moving members seats element position reference start before after image allowed are is may kept
