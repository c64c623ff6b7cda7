use Rattle.ddf_stage_promise.proofs.Steps.{shown_keep, shown_show}
use Rattle.ddf_stage_promise.proofs.laws.what_desks_show_is_all_that_counts.Goals as goal

pub returns-clause-keeps : goal.returns-clause-keeps
returns-clause-keeps c = λ group footing small past before image promises are low kept shown. shown_keep group footing small past before image are low promises kept shown

pub returns-clause-shows : goal.returns-clause-shows
returns-clause-shows c = λ group footing small past before image promises are low kept shown shows. shown_show group footing small past before image are low promises kept shown shows
