use Rattle.ddf_history_steps.proofs.SlotsKept.{ends_slots}
use Rattle.ddf_history_steps.proofs.laws.a_call_keeps_the_slots.Goals as goal

pub returns : goal.returns
returns c = λ group past now readable found changes done ends. ends_slots group past readable found changes done now ends
