use Rattle.ddf_history.specs.Groups.{groups}
use Rattle.ddf_history.proofs.Sound.{groups_are_sound}
use Rattle.ddf_history.proofs.Starting.{founded_kept, found_kept}
use Rattle.ddf_history.proofs.laws.a_history_starts_with_a_group.Goals as goal

pub returns-clause-founded : goal.returns-clause-founded
returns-clause-founded c = λ group past scene config start founded. founded_kept (groups group) (groups_are_sound group) past scene config start founded

pub returns-clause-found : goal.returns-clause-found
returns-clause-found c = λ group past scene config start found. found_kept (groups group) (groups_are_sound group) past scene config start found
