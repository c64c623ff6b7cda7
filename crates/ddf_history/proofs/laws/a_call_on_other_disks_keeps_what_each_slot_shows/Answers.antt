use Rattle.ddf_history.specs.Groups.{groups}
use Rattle.ddf_history.proofs.Sound.{groups_are_sound}
use Rattle.ddf_history.proofs.Aside.{aside_kept}
use Rattle.ddf_history.proofs.laws.a_call_on_other_disks_keeps_what_each_slot_shows.Goals as goal

pub returns : goal.returns
returns c = λ group past before after kept aside. aside_kept (groups group) (groups_are_sound group) past before after kept aside
