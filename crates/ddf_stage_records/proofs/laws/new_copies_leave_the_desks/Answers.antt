use Rattle.ddf_stage_records.proofs.Slots.{desk_stays}
use Rattle.ddf_stage_records.proofs.laws.new_copies_leave_the_desks.Goals as goal

pub returns : goal.returns
returns g c = λ slots seat updates image may counted left place slot lba l at desk from below.
    desk_stays (g.B.Bay.disks c.args.bay.now) slots seat updates image left may counted place slot lba l at desk from below
