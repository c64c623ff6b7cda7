use Rattle.ddf_data_group.proofs.Clearly.{below_floor}
use Rattle.ddf_data_group.proofs.laws.a_cell_lies_below_a_floor.Goals as goal

pub returns : goal.returns
returns c = λ seats array volume element position sector slot lba over lies. below_floor seats array volume over element position sector slot lba lies
