use Rattle.ddf_history_memory.proofs.Slots.{left_gone}
use Rattle.ddf_history_memory.proofs.laws.no_plugged_slot_is_left_out.Goals as goal

pub returns : goal.returns
returns c = λ group old exit readable found changes done well taken told. left_gone old exit well told readable taken.every_slot taken.failed
