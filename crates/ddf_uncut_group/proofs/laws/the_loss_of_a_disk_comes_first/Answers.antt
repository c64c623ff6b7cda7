use Rattle.ddf_uncut_group.specs.Without.{without_seat}
use Rattle.ddf_uncut_group.proofs.LostGroup.{seats_lost, told_lost}
use Rattle.ddf_uncut_group.proofs.LostHeld.{lost_settled, loss_first}
use Rattle.ddf_uncut_group.proofs.LostSteps.{readied_lost}
use Rattle.ddf_uncut_group.proofs.UnpluggedTold.{told_without}
use Rattle.ddf_uncut_group.proofs.laws.the_loss_of_a_disk_comes_first.Goals as goal

pub returns-clause-readied : goal.returns-clause-readied
returns-clause-readied c = λ group place seat changes timestamp told is_seat two time free.
    readied_lost (without_seat group seat) (told_without group told place seat is_seat two) timestamp changes time free

pub returns-clause-first : goal.returns-clause-first
returns-clause-first c = λ group place seat changes timestamp steps told is_seat two time is.
    let first = loss_first group told place seat is_seat two timestamp time changes steps is in
    (first.rest, first.are, first.behind, first.free)

pub returns-clause-told : goal.returns-clause-told
returns-clause-told c = λ group place seat timestamp told is_seat two time free. told_lost (without_seat group seat) (told_without group told place seat is_seat two) timestamp time free

pub returns-clause-seats : goal.returns-clause-seats
returns-clause-seats c = λ group place seat timestamp told is_seat two. seats_lost (without_seat group seat) (told_without group told place seat is_seat two) timestamp

pub returns-clause-held : goal.returns-clause-held
returns-clause-held c = λ sizes old new left group place seat timestamp settled is_seat two time free written.
    lost_settled group settled.is_told place seat is_seat two timestamp time free sizes old new left settled written
