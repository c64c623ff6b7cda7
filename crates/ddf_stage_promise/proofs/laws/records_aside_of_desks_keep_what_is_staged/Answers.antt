use Rattle.ddf_stage_promise.proofs.Steps.{records_keep, records_show}
use Rattle.ddf_stage_promise.proofs.laws.records_aside_of_desks_keep_what_is_staged.Goals as goal

pub returns-clause-keeps : goal.returns-clause-keeps
returns-clause-keeps c = λ group footing small past before image promises are same kept. records_keep group footing small past before image are same promises kept

pub returns-clause-shows : goal.returns-clause-shows
returns-clause-shows c = λ group footing small past before image promises are same kept shows. records_show group footing small past before image are same promises kept shows
