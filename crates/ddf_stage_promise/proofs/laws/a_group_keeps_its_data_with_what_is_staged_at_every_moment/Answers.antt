use Rattle.ddf_stage_promise.proofs.Histories.{history_keeps}
use Rattle.ddf_stage_promise.proofs.laws.a_group_keeps_its_data_with_what_is_staged_at_every_moment.Goals as goal

pub returns : goal.returns
returns c = history_keeps
