use Rattle.std.proofs.Common.{subst}
use Rattle.ddf_write.specs.declared.beside.LookFault.{LookFault}
use Rattle.ddf_write.specs.Looking.{IsLookFault}
use Rattle.ddf_write_commands.specs.Plans.{unmarked_view}
use Rattle.ddf_write_commands.proofs.WriteLooked.{look_unseen}
use Rattle.ddf_write_commands.proofs.writing.look.Goals as goal

pub look_beside-requires-clause-fits : goal.look_beside-requires-clause-fits
look_beside-requires-clause-fits g c = rw c.unmarked_view.ensures c.requires.fits

pub look_beside-requires-clause-trusted : goal.look_beside-requires-clause-trusted
look_beside-requires-clause-trusted g c = rw c.unmarked_view.ensures c.requires.trusted

pub returns-in-Ok-clause-beside : goal.returns-in-Ok-clause-beside
returns-in-Ok-clause-beside g c = rw c.unmarked_view.ensures at c.in-Ok.ensures.beside

pub returns-in-Ok-clause-values : goal.returns-in-Ok-clause-values
returns-in-Ok-clause-values g c = rw c.unmarked_view.ensures at c.in-Ok.ensures.values

pub returns-in-Err-Volume-clause-unseen : goal.returns-in-Err-Volume-clause-unseen
returns-in-Err-Volume-clause-unseen g c =
    let old = g.B.Bay.disks c.args.bay.now in
    let new = g.B.Bay.disks c.look_beside.new.bay in
    let plain = unmarked_view c.args.plan.now in
    let fault = subst (λ (one : LookFault). IsLookFault old new plain c.args.start c.args.count one) c.in-Err-Volume.field-0-is (rw c.unmarked_view.ensures at c.in-Err-Volume.ensures.fault) in
    rw c.failure_of.ensures (look_unseen old new plain c.args.start c.args.count c.requires.accepted c.in-Err-Volume.fault fault)

pub returns-in-Ok-clause-idle : goal.returns-in-Ok-clause-idle
returns-in-Ok-clause-idle g c = rw c.unmarked_view.ensures at c.look_beside.ensures.idle

pub returns-in-Err-Volume-clause-idle : goal.returns-in-Err-Volume-clause-idle
returns-in-Err-Volume-clause-idle g c = rw c.unmarked_view.ensures at c.look_beside.ensures.idle

pub returns-in-Err-Memory-clause-idle : goal.returns-in-Err-Memory-clause-idle
returns-in-Err-Memory-clause-idle g c = rw c.unmarked_view.ensures at c.look_beside.ensures.idle
