use Rattle.ddf_data_life.proofs.Calls.{cut_on, ends_on}
use Rattle.ddf_data_life.proofs.laws.a_call_goes_on_in_its_history_of_data.Goals as goal

pub returns-clause-ends : goal.returns-clause-ends
returns-clause-ends c = λ group old call all well told. ends_on group old all call well told

pub returns-clause-cut : goal.returns-clause-cut
returns-clause-cut c = λ group old call all well image cut was_left is_cut told. cut_on group old all image cut is_cut call well was_left told
