use Rattle.ddf_stage_promise.proofs.Steps.{plain_keeps, staged_keeps}
use Rattle.ddf_stage_promise.proofs.laws.where_no_gate_stands_open_the_data_are_plain.Goals as goal

pub returns-clause-plain : goal.returns-clause-plain
returns-clause-plain c = plain_keeps

pub returns-clause-staged : goal.returns-clause-staged
returns-clause-staged c = staged_keeps
