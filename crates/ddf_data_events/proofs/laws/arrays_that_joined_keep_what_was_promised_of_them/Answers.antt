use Rattle.std.proofs.Common.{Bool, subst}
use Rattle.ddf_history_steps.specs.Going.{Ends}
use Rattle.ddf_history_steps.specs.Kept.{is_read}
use Rattle.ddf_data_events.specs.Calls.{joins_in}
use Rattle.ddf_data_events.proofs.Bays.{AreBays}
use Rattle.ddf_data_events.proofs.JoinPromised.{keeps_at}
use Rattle.ddf_data_events.proofs.laws.arrays_that_joined_keep_what_was_promised_of_them.Goals as goal

pub returns : goal.returns
returns g c = λ told group old all call done new same_bay same_floor ends theirs wholly guid array allowed there promised.
    let are : AreBays g.B.Bay.disks = g.met.B.Bay.told in
    keeps_at told g.B.Bay.disks g.S.Source.tells g.S.Source.input group are old all call new same_bay same_floor
    (subst (λ (whole : Bool). Ends group old.past (is_read call.join.imported.first.left) call.join.group (joins_in told g.B.Bay.disks g.S.Source.tells g.S.Source.input group call) whole new.past) done ends)
    theirs wholly guid allowed array promised there
