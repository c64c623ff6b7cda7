use Rattle.ddf_write.proofs.WriteLeaves.{settled_write}
use Rattle.ddf_write.proofs.laws.a_settled_write_is_in_every_image.Goals as goal

pub returns-clause-cells : goal.returns-clause-cells
returns-clause-cells g c = λ volume start sectors image known apart whole settled left written.
    settled_write volume known apart whole (g.B.Bay.disks c.args.bay.now).may_hold (g.B.Bay.disks c.args.bay.now).held image settled left start sectors ⊥ written

pub returns-clause-parity : goal.returns-clause-parity
returns-clause-parity g c = λ volume start sectors image known apart whole settled left written.
    settled_write volume known apart whole (g.B.Bay.disks c.args.bay.now).may_hold (g.B.Bay.disks c.args.bay.now).held image settled left start sectors Unit written
