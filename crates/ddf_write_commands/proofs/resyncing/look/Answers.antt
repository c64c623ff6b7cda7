use Rattle.ddf_write_commands.proofs.Looked.{look_ended}
use Rattle.ddf_write_commands.proofs.resyncing.look.Goals as goal

pub returns-in-Err-clause-failed : goal.returns-in-Err-clause-failed
returns-in-Err-clause-failed g c =
    let old = g.B.Bay.disks c.args.bay.now in
    let new = g.B.Bay.disks c.needs_of_resync.new.bay in
    rw c.failure_of.ensures (look_ended old new c.args.plan.now.view c.requires.accepted c.in-Err.fault c.in-Err.ensures.fault)
