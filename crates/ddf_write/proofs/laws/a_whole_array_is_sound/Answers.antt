use Rattle.ddf_write.proofs.WrittenValues.{sound_after}
use Rattle.ddf_write.proofs.laws.a_whole_array_is_sound.Goals as goal

pub returns : goal.returns
returns c = λ is_absent array marked image whole are redundant. sound_after is_absent array marked image whole are redundant
