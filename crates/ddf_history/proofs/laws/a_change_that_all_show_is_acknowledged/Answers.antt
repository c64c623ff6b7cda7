use Rattle.ddf_history.specs.Groups.{groups}
use Rattle.ddf_history.proofs.Sound.{groups_are_sound}
use Rattle.ddf_history.proofs.Cutting.{acknowledged_kept}
use Rattle.ddf_history.proofs.laws.a_change_that_all_show_is_acknowledged.Goals as goal

pub returns : goal.returns
returns c = λ group past scene number config kept at all. acknowledged_kept (groups group) (groups_are_sound group) past scene kept number config at all
