use Rattle.ddf_stage_promise.proofs.Deleting.{deleted_keeps, deleted_shows}
use Rattle.ddf_stage_promise.proofs.laws.deleting_an_array_keeps_what_is_staged.Goals as goal

pub returns-clause-keeps : goal.returns-clause-keeps
returns-clause-keeps c = λ group footing small past image promises are kept one number last since gone sequence rises known counts viewed.
    deleted_keeps group footing small past image are promises kept one number last since gone sequence rises known counts viewed

pub returns-clause-shows : goal.returns-clause-shows
returns-clause-shows c = λ group footing small past image promises are kept one number last since gone sequence rises known counts viewed.
    deleted_shows group footing small past image are promises kept one number last since gone sequence rises known counts viewed
