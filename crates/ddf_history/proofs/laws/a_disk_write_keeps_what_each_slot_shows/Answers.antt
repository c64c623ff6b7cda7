use Rattle.ddf_history.specs.Groups.{groups}
use Rattle.ddf_history.proofs.Sound.{groups_are_sound}
use Rattle.ddf_history.proofs.Writing.{written_kept}
use Rattle.ddf_history.proofs.laws.a_disk_write_keeps_what_each_slot_shows.Goals as goal

pub returns : goal.returns
returns c = λ group past before after number config seats new kept may written last gives. written_kept (groups group) (groups_are_sound group) past before after kept number config seats new may written last gives
