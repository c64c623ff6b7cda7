use Rattle.std.proofs.Common.{◌∙◌, ℕ, List, subst, sym}
use Rattle.std.proofs.lemmas.Result.{err_from_is_err_and, on_ok_weaker}
use Rattle.ddf_bay.specs.Told.{IsTold}
use Rattle.ddf_config.specs.Seats.{SeatsFit}
use Rattle.ddf_recovery.specs.Recovery.{config_recovered}
use Rattle.ddf_read_commands.proofs.ArrayUse.{named_is}
use Rattle.ddf_write_commands.specs.Resync.{resync_behind}
use Rattle.ddf_write_commands.proofs.PlanKept.{apart_there, fits_there, none_trusted}
use Rattle.ddf_write_commands.proofs.ResyncBlocks.{blocks_closed, blocks_not_opened, blocks_stopped, can_close}
use Rattle.ddf_write_commands.proofs.ResyncWorks.{resync_costs}
use Rattle.ddf_write_commands.proofs.resyncing.resync_between.Goals as goal

pub returns-in_err-open_blocks-clause-done : goal.returns-in_err-open_blocks-clause-done
returns-in_err-open_blocks-clause-done g c =
    let failed = err_from_is_err_and c.from_residual.result c.from_residual.ensures.1 in
    let tells_old : IsTold (g.B.Bay.disks c.args.bay.now) = g.met.B.Bay.told c.args.bay.now in
    let tells_opened : IsTold (g.B.Bay.disks c.open_blocks.new.bay) = g.met.B.Bay.told c.open_blocks.new.bay in
    rw (failed.1, failed.2)
    (blocks_not_opened g.B.Bay.tells (g.B.Bay.disks c.args.bay.now) c.args.group.now c.args.plan.now c.args.timestamp c.args.ready.now c.requires.from c.requires.was c.requires.planned c.requires.floored (g.B.Bay.disks c.open_blocks.new.bay) c.in_err-open_blocks.field-0.0 c.open_blocks.ensures.costs c.in_err-open_blocks.ensures.failed c.in_err-open_blocks.ensures.beside c.in_err-open_blocks.ensures.keeps c.open_blocks.ensures.leaves tells_old tells_opened)

pub resync_blocks-requires-clause-apart : goal.resync_blocks-requires-clause-apart
resync_blocks-requires-clause-apart g c =
    let is = c.requires.planned.1 in
    let config = config_recovered c.args.group.now in
    apart_there resync_behind config c.args.group.now.seats is.entry c.args.plan.now is.is_for (named_is config.arrays c.requires.planned.0 is.entry is.is_named) c.requires.members c.requires.from.assembled.slots_rise

pub resync_blocks-requires-clause-fits : goal.resync_blocks-requires-clause-fits
resync_blocks-requires-clause-fits g c =
    let is = c.requires.planned.1 in
    let config = config_recovered c.args.group.now in
    let opened = g.B.Bay.disks c.open_blocks.new.bay in
    fits_there resync_behind config c.args.group.now.seats is.entry c.args.plan.now is.is_for (named_is config.arrays c.requires.planned.0 is.entry is.is_named) opened.sizes
    (subst (λ (sizes : List ℕ). SeatsFit sizes c.args.group.now.seats) (sym c.open_blocks.ensures.same_sizes) c.requires.from.seats)

pub resync_blocks-requires-clause-marked : goal.resync_blocks-requires-clause-marked
resync_blocks-requires-clause-marked g c =
    let is = c.requires.planned.1 in
    let config = config_recovered c.args.group.now in
    none_trusted resync_behind config c.args.group.now.seats is.entry c.args.plan.now is.is_for (named_is config.arrays c.requires.planned.0 is.entry is.is_named)

pub close_blocks-requires : goal.close_blocks-requires
close_blocks-requires g c =
    let opens = c.in_ok-open_blocks.ensures in
    let opened = g.B.Bay.disks c.open_blocks.new.bay in
    let behind = g.B.Bay.disks c.resync_blocks.new.bay in
    let works = c.resync_blocks.ensures in
    let tells_opened : IsTold (g.B.Bay.disks c.open_blocks.new.bay) = g.met.B.Bay.told c.open_blocks.new.bay in
    let tells_behind : IsTold (g.B.Bay.disks c.resync_blocks.new.bay) = g.met.B.Bay.told c.resync_blocks.new.bay in
    let back = g.met.B.Bay.told_before c.open_blocks.new.bay c.resync_blocks.new.bay (works.goes.goes_on c.resync_blocks.new.bay (g.met.B.Bay.leads c.resync_blocks.new.bay)) in
    let costs = resync_costs g.B.Bay.tells c.args.plan.now.view opened behind works.asked works.sectors works.idle in
    can_close g.B.Bay.tells (g.B.Bay.disks c.args.bay.now) c.args.group.now c.args.plan.now c.args.timestamp c.args.ready.now c.requires.from c.requires.was c.requires.planned c.requires.floored opened c.open_blocks.new.group c.open_blocks.new.ready opens.opened opens.costs opens.left opens.beside opens.leaves opens.goes_on opens.same_sizes opens.reads opens.writes_rise tells_opened behind tells_behind back works.any_moment works.left works.held works.goes costs works.agreed c.in-Ok.ensures.resynced c.in-Ok.ensures.settled

pub returns-in-Ok-clause-done : goal.returns-in-Ok-clause-done
returns-in-Ok-clause-done g c =
    let opens = c.in_ok-open_blocks.ensures in
    let opened = g.B.Bay.disks c.open_blocks.new.bay in
    let behind = g.B.Bay.disks c.resync_blocks.new.bay in
    let works = c.resync_blocks.ensures in
    let tells_opened : IsTold (g.B.Bay.disks c.open_blocks.new.bay) = g.met.B.Bay.told c.open_blocks.new.bay in
    let tells_behind : IsTold (g.B.Bay.disks c.resync_blocks.new.bay) = g.met.B.Bay.told c.resync_blocks.new.bay in
    let back = g.met.B.Bay.told_before c.open_blocks.new.bay c.resync_blocks.new.bay (works.goes.goes_on c.resync_blocks.new.bay (g.met.B.Bay.leads c.resync_blocks.new.bay)) in
    let costs = resync_costs g.B.Bay.tells c.args.plan.now.view opened behind works.asked works.sectors works.idle in
    let tells_new : IsTold (g.B.Bay.disks c.close_blocks.new.bay) = g.met.B.Bay.told c.close_blocks.new.bay in
    blocks_closed g.B.Bay.tells (g.B.Bay.disks c.args.bay.now) c.args.group.now c.args.plan.now c.args.timestamp c.args.ready.now c.requires.from c.requires.was c.requires.planned c.requires.floored opened c.open_blocks.new.group c.open_blocks.new.ready opens.opened opens.costs opens.left opens.beside opens.leaves opens.goes_on opens.same_sizes opens.reads opens.writes_rise tells_opened behind tells_behind back works.any_moment works.left works.held works.goes costs works.agreed c.in-Ok.ensures.resynced c.in-Ok.ensures.settled
    (g.B.Bay.disks c.close_blocks.new.bay) tells_new (g.met.B.Bay.told_before c.resync_blocks.new.bay c.close_blocks.new.bay (c.close_blocks.ensures.goes_on c.close_blocks.new.bay (g.met.B.Bay.leads c.close_blocks.new.bay)))
    c.close_blocks.ensures.beside c.close_blocks.ensures.leaves c.close_blocks.ensures.reads c.close_blocks.ensures.costs c.close_blocks.result c.close_blocks.ensures.closed c.close_blocks.ensures.commits

pub returns-in-Ok-clause-unfailed : goal.returns-in-Ok-clause-unfailed
returns-in-Ok-clause-unfailed g c =
    on_ok_weaker c.close_blocks.result (λ same. same ∙ c.in-Ok.ensures.unfailed ∙ c.in_ok-open_blocks.ensures.unfailed) c.close_blocks.ensures.unfailed

pub returns-in-Err-clause-done : goal.returns-in-Err-clause-done
returns-in-Err-clause-done g c =
    let opens = c.in_ok-open_blocks.ensures in
    let opened = g.B.Bay.disks c.open_blocks.new.bay in
    let behind = g.B.Bay.disks c.resync_blocks.new.bay in
    let works = c.resync_blocks.ensures in
    let tells_opened : IsTold (g.B.Bay.disks c.open_blocks.new.bay) = g.met.B.Bay.told c.open_blocks.new.bay in
    let tells_behind : IsTold (g.B.Bay.disks c.resync_blocks.new.bay) = g.met.B.Bay.told c.resync_blocks.new.bay in
    let back = g.met.B.Bay.told_before c.open_blocks.new.bay c.resync_blocks.new.bay (works.goes.goes_on c.resync_blocks.new.bay (g.met.B.Bay.leads c.resync_blocks.new.bay)) in
    let costs = resync_costs g.B.Bay.tells c.args.plan.now.view opened behind works.asked works.sectors works.idle in
    rw c.failure_of.ensures
    (blocks_stopped g.B.Bay.tells (g.B.Bay.disks c.args.bay.now) c.args.group.now c.args.plan.now c.args.timestamp c.args.ready.now c.requires.from c.requires.was c.requires.planned c.requires.floored opened c.open_blocks.new.group c.open_blocks.new.ready opens.opened opens.costs opens.left opens.beside opens.leaves opens.goes_on opens.same_sizes opens.reads opens.writes_rise tells_opened behind tells_behind back works.any_moment works.left works.held works.goes costs works.agreed c.in-Err.fault c.in-Err.ensures.fault)
