use Rattle.ddf_data_calls.proofs.Begun.{begun_keeps}
use Rattle.ddf_data_calls.proofs.laws.a_created_array_may_have_any_bytes.Goals as goal

pub returns : goal.returns
returns c = λ group past now readable found guid array timestamp steps are done floor image promises sectors kept.
    begun_keeps group past now readable found guid array timestamp steps are done floor image sectors promises kept
