use Rattle.ddf_history.specs.Answer.Answer.{Is}
use Rattle.ddf_history.specs.Groups.{groups}
use Rattle.ddf_history.proofs.Sound.{groups_are_sound}
use Rattle.ddf_history.proofs.Assembling.{promised}
use Rattle.ddf_data_history.proofs.Returned.{read_since}
use Rattle.ddf_data_history.proofs.laws.a_read_returns_what_was_acknowledged.Goals as goal

pub returns : goal.returns
returns c = λ group floor small past scene readable config kept may member is image promises keeps seats few guid allowed volume named view known old new block bytes given.
    let since = promised (groups group) (groups_are_sound group) past scene kept readable may member (Is config) is in
    read_since group floor small past since.0 config since.1 image promises keeps seats few guid allowed volume named view known old new block bytes given
