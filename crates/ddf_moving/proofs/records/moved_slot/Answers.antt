use Rattle.ddf_config_records.proofs.Sound.{room_from_sound}
use Rattle.ddf_moving.proofs.records.moved_slot.Goals as goal

pub element_slot-requires : goal.element_slot-requires
element_slot-requires c = room_from_sound c.args.like.now c.requires.sound
