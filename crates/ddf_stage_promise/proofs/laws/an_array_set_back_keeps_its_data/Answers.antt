use Rattle.ddf_stage_promise.proofs.Rewinding.{back_keeps, back_none}
use Rattle.ddf_stage_promise.proofs.laws.an_array_set_back_keeps_its_data.Goals as goal

pub returns-clause-keeps : goal.returns-clause-keeps
returns-clause-keeps c = back_keeps

pub returns-clause-none : goal.returns-clause-none
returns-clause-none c = back_none
