use Rattle.ddf_history.specs.Groups.{groups}
use Rattle.ddf_history.proofs.Sound.{groups_are_sound}
use Rattle.ddf_history.proofs.Turns.{join_last}
use Rattle.ddf_history.proofs.laws.disks_of_other_groups_that_are_written_last_join_last.Goals as goal

pub returns : goal.returns
returns c = λ group past before after number config seats new kept may written last show. join_last (groups group) (groups_are_sound group) past before after kept number config seats new may written last show
