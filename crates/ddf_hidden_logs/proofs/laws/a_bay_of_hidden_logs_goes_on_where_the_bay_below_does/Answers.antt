use Rattle.ddf_hidden_logs.specs.HiddenBays.{inner_of, masks_of}
use Rattle.ddf_hidden_logs.proofs.Again.{one_left, same_left, shown_left}
use Rattle.ddf_hidden_logs.proofs.laws.a_bay_of_hidden_logs_goes_on_where_the_bay_below_does.Goals as goal

pub returns-clause-stopped : goal.returns-clause-stopped
returns-clause-stopped g c = λ old new same below image left.
    same_left (masks_of old) (masks_of new) (g.B.Bay.disks (inner_of old)).may_hold (g.B.Bay.disks (inner_of new)).may_hold same below image left

pub returns-clause-cut : goal.returns-clause-cut
returns-clause-cut g c = λ old new same image only left stays. one_left (masks_of old) (masks_of new) (g.B.Bay.disks (inner_of new)).may_hold same image only left stays

pub returns-clause-shown : goal.returns-clause-shown
returns-clause-shown g c = λ old new below image left.
    shown_left (masks_of old) (masks_of new) (g.B.Bay.disks (inner_of old)).may_hold (g.B.Bay.disks (inner_of new)).may_hold below image left
