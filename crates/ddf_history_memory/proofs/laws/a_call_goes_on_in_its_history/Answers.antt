use Rattle.ddf_history_memory.proofs.Calls.{leaves_cut, leaves_history}
use Rattle.ddf_history_memory.proofs.laws.a_call_goes_on_in_its_history.Goals as goal

pub returns-clause-ends : goal.returns-clause-ends
returns-clause-ends c = λ group past old exit readable found changes done history member well taken told.
    leaves_history group past old exit readable found changes done history member well taken told

pub returns-clause-cut : goal.returns-clause-cut
returns-clause-cut c = λ group past old exit cut readable found changes done image history member well taken was_left is_cut.
    leaves_cut group past old exit readable found changes done history member well taken was_left.0 cut image was_left is_cut
