use Rattle.ddf_stage_records.proofs.Aside.{written_aside}
use Rattle.ddf_stage_records.proofs.laws.records_lie_aside_of_the_desk.Goals as goal

pub returns : goal.returns
returns c = written_aside
