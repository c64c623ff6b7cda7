use Rattle.ddf_stage_promise.proofs.Losing.{lost_keeps, lost_shows}
use Rattle.ddf_stage_promise.proofs.laws.counting_disks_as_lost_keeps_what_is_staged.Goals as goal

pub returns-clause-keeps : goal.returns-clause-keeps
returns-clause-keeps c = λ group footing small past image promises are kept number last since references sequence rises known next_known counts.
    lost_keeps group footing small past image are promises kept number last since references sequence rises known next_known counts

pub returns-clause-shows : goal.returns-clause-shows
returns-clause-shows c = λ group footing small past image promises are kept number last since references sequence rises known next_known counts shows.
    lost_shows group footing small past image are promises kept number last since references sequence rises known next_known counts shows
