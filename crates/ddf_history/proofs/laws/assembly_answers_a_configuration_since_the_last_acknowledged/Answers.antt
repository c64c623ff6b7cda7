use Rattle.ddf_history.specs.Groups.{groups}
use Rattle.ddf_history.proofs.Sound.{groups_are_sound}
use Rattle.ddf_history.proofs.Assembling.{promised}
use Rattle.ddf_history.proofs.laws.assembly_answers_a_configuration_since_the_last_acknowledged.Goals as goal

pub returns : goal.returns
returns c = λ group past scene readable answer kept may member is. promised (groups group) (groups_are_sound group) past scene kept readable may member answer is
