use Rattle.ddf_data_life.proofs.Young.{ends_ours, finds_young, found_data}
use Rattle.ddf_data_life.proofs.laws.a_group_that_was_found_whole_goes_on_with_its_data.Goals as goal

pub returns-clause-begins : goal.returns-clause-begins
returns-clause-begins c = λ group bay found begins told settled plugged. found_data group bay found begins told settled plugged

pub returns-clause-finds : goal.returns-clause-finds
returns-clause-finds c = λ group old exit all leads well told left every_slot failed newest read found is_found absent. finds_young group old all exit well told left every_slot failed leads newest found is_found absent

pub returns-clause-ends : goal.returns-clause-ends
returns-clause-ends c = λ group old call all well told. ends_ours group old all call well told
