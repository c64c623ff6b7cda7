use Rattle.std.proofs.Common.{◌∙◌, Err, subst, sym}
use Rattle.std.proofs.lemmas.Result.{err_from_is_err_and, on_ok_weaker}
use Rattle.ddf_recovery.specs.Recovery.{config_recovered}
use Rattle.ddf_answer.specs.declared.failure.Failure.{Failure}
use Rattle.ddf_read_commands.proofs.ArrayUse.{named_is}
use Rattle.ddf_group_commands.proofs.Outcomes.{read_still}
use Rattle.ddf_write_commands.specs.Resync.{HasResyncedBlocks, resync_behind}
use Rattle.ddf_write_commands.proofs.Arrays.{goes_then}
use Rattle.ddf_write_commands.proofs.Looked.{behind_look, goes_looked, look_failed}
use Rattle.ddf_write_commands.proofs.PlanKept.{fits_there}
use Rattle.ddf_write_commands.proofs.PlanMade.{resync_accepted}
use Rattle.ddf_write_commands.proofs.resyncing.resync_array.Goals as goal

pub look-requires-clause-known : goal.look-requires-clause-known
look-requires-clause-known g c = c.requires.planned.1.is_for.known

pub look-requires-clause-fits : goal.look-requires-clause-fits
look-requires-clause-fits g c =
    let is = c.requires.planned.1 in
    let config = config_recovered c.args.group.now in
    fits_there resync_behind config c.args.group.now.seats is.entry c.args.plan.now is.is_for (named_is config.arrays c.requires.planned.0 is.entry is.is_named) (g.B.Bay.disks c.args.bay.now).sizes c.requires.from.seats

pub look-requires-clause-accepted : goal.look-requires-clause-accepted
look-requires-clause-accepted g c = resync_accepted (config_recovered c.args.group.now) c.args.group.now.seats c.requires.planned.0 c.args.plan.now c.requires.planned.1

pub returns-in_err-look-clause-done : goal.returns-in_err-look-clause-done
returns-in_err-look-clause-done g c =
    let old = g.B.Bay.disks c.args.bay.now in
    let looked = g.B.Bay.disks c.look.new.bay in
    let failed = err_from_is_err_and c.from_residual.result c.from_residual.ensures.1 in
    let unread = c.in_err-look.ensures.failed in
    rw (failed.1, failed.2)
    (subst (λ (failure : Failure). HasResyncedBlocks g.B.Bay.tells old looked c.args.group.now c.args.plan.now c.args.timestamp (Err failure)) (sym unread.is)
    (look_failed g.B.Bay.tells old looked c.in_err-look.ensures.reads c.args.group.now c.args.plan.now c.args.timestamp c.args.ready.now c.requires.was c.requires.planned.0 c.requires.planned.1 c.requires.from unread.slot unread.none_left))

pub returns-in_err-look-clause-goes : goal.returns-in_err-look-clause-goes
returns-in_err-look-clause-goes g c = goes_looked (g.B.Bay.disks c.args.bay.now) (g.B.Bay.disks c.look.new.bay) c.in_err-look.ensures.reads

pub resync_between-requires-clause-from : goal.resync_between-requires-clause-from
resync_between-requires-clause-from g c =
    let reads = c.in_ok-look.ensures.reads.reads in
    read_still (g.B.Bay.disks c.args.bay.now) (g.B.Bay.disks c.look.new.bay) reads.same_sizes reads.same_held g.B.Bay.tells c.args.group.now c.requires.from

pub returns-clause-done : goal.returns-clause-done
returns-clause-done g c =
    behind_look g.B.Bay.tells (g.B.Bay.disks c.args.bay.now) (g.B.Bay.disks c.look.new.bay) c.in_ok-look.ensures.reads c.args.group.now c.args.plan.now c.args.timestamp c.args.ready.now c.requires.was
    (g.B.Bay.disks c.resync_between.new.bay) c.resync_between.result c.resync_between.ensures.done

pub returns-clause-unfailed : goal.returns-clause-unfailed
returns-clause-unfailed g c = on_ok_weaker c.resync_between.result (λ same. same ∙ c.in_ok-look.ensures.reads.same_writes) c.resync_between.ensures.unfailed

pub returns-clause-goes : goal.returns-clause-goes
returns-clause-goes g c =
    goes_then (g.B.Bay.disks c.args.bay.now) (g.B.Bay.disks c.look.new.bay) (g.B.Bay.disks c.resync_between.new.bay)
    (goes_looked (g.B.Bay.disks c.args.bay.now) (g.B.Bay.disks c.look.new.bay) c.in_ok-look.ensures.reads) c.resync_between.ensures.goes
