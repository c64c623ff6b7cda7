use Rattle.ddf_history.specs.Answer.Answer.{Is}
use Rattle.ddf_history.specs.Groups.{groups}
use Rattle.ddf_history.proofs.Sound.{groups_are_sound}
use Rattle.ddf_history.proofs.Assembling.{promised}
use Rattle.ddf_stage_promise.proofs.Returned.{read_over}
use Rattle.ddf_stage_promise.proofs.laws.a_read_over_what_is_staged_returns_what_was_acknowledged.Goals as goal

pub returns : goal.returns
returns c = λ group footing small past scene readable config kept may member is image promises keeps lost stay counts does seats few guid allowed volume named view known old new block bytes given.
    let since = promised (groups group) (groups_are_sound group) past scene kept readable may member (Is config) is in
    read_over group footing small past since.0 config since.1 image promises keeps lost stay counts (does since.0 since.1) seats few guid allowed volume named view known old new block bytes given
