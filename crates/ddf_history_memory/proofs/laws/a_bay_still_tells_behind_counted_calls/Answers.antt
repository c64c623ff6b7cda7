use Rattle.ddf_history_memory.proofs.Slots.{still_tells}
use Rattle.ddf_history_memory.proofs.laws.a_bay_still_tells_behind_counted_calls.Goals as goal

pub returns : goal.returns
returns c = λ old exit most well counted below early. still_tells old exit well most counted below early
