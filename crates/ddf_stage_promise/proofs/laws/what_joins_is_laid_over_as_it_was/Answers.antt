use Rattle.ddf_stage_promise.proofs.Bringing.{brought_keeps, brought_shows}
use Rattle.ddf_stage_promise.proofs.laws.what_joins_is_laid_over_as_it_was.Goals as goal

pub returns-clause-keeps : goal.returns-clause-keeps
returns-clause-keeps c = λ group former footing counts counted past theirs config joining next image is_join all_brought have promises kept m n since its_count count lost stay guid allowed one after promised is.
    brought_keeps group former footing counts counted past theirs config joining next image is_join all_brought have promises kept m n since its_count count lost stay guid allowed one after promised is

pub returns-clause-shows : goal.returns-clause-shows
returns-clause-shows c = λ group former footing counts counted past theirs config joining next image is_join all_brought have none m since its_count shows.
    brought_shows group former footing counts counted past theirs config joining next image is_join all_brought have none m since its_count shows
