use Rattle.std.proofs.Common.{[]}
use Rattle.ddf_uncut_group.proofs.LostHeld.{held_without}
use Rattle.ddf_uncut_group.proofs.LostSteps.{not_stray}
use Rattle.ddf_uncut_group.proofs.UnpluggedGroup.{found_without}
use Rattle.ddf_uncut_group.proofs.UnpluggedTold.{told_without}
use Rattle.ddf_uncut_group.specs.Without.{without_seat}
use Rattle.ddf_uncut_group.proofs.laws.a_group_is_found_without_a_disk.Goals as goal

pub returns-clause-held : goal.returns-clause-held
returns-clause-held c = λ sizes image left group seat settled. held_without sizes image left group seat settled

pub returns-clause-found : goal.returns-clause-found
returns-clause-found c = λ group place seat told is_seat two. found_without group told place seat is_seat two

pub returns-clause-not_stray : goal.returns-clause-not_stray
returns-clause-not_stray c = λ group place seat told is_seat two. not_stray (without_seat group seat) (told_without group told place seat is_seat two) 0 []
