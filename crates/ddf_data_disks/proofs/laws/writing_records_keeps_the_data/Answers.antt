use Rattle.ddf_data_disks.proofs.Records.{recovery_keeps, step_keeps}
use Rattle.ddf_data_disks.proofs.laws.writing_records_keeps_the_data.Goals as goal

pub returns-clause-step : goal.returns-clause-step
returns-clause-step g c = λ group past floor small promises slots seat updates image held may lie all are left.
    step_keeps group past floor small promises (g.B.Bay.disks c.args.bay.now) slots seat updates image held may lie all are left

pub returns-clause-recovery : goal.returns-clause-recovery
returns-clause-recovery g c = λ group past floor small promises seats slots seat updates image held may lie all are left.
    recovery_keeps group past floor small promises (g.B.Bay.disks c.args.bay.now) seats slots seat updates image held may lie all are left
