use Rattle.ddf_uncut_group.proofs.PlainNewest.{newest_after, newest_behind, newest_labelled, newest_seated, newest_without}
use Rattle.ddf_uncut_group.proofs.plain.newest_copies_stay_plain.Goals as goal

pub returns-clause-labelled : goal.returns-clause-labelled
returns-clause-labelled c = λ revision stamp sizes. newest_labelled revision stamp sizes

pub returns-clause-after : goal.returns-clause-after
returns-clause-after c = λ sizes group step have are. newest_after sizes group step have are

pub returns-clause-without : goal.returns-clause-without
returns-clause-without c = λ sizes newest left have. newest_without sizes newest left have

pub returns-clause-seats : goal.returns-clause-seats
returns-clause-seats c = λ sizes group have. newest_seated sizes group have

pub returns-clause-behind : goal.returns-clause-behind
returns-clause-behind c = λ sizes group changes timestamp steps have is. newest_behind sizes group changes timestamp steps have is
