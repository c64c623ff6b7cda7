use Rattle.std.proofs.Common.{◌∙◌, inl, inr, refl, subst, ap, Bool, Ok, Err}
use Rattle.std.proofs.lemmas.Result.{err_from_is_err_and}
use Rattle.std.specs.Prelude.{is_ok}
use Rattle.ddf_config.specs.Configuration.{Configuration}
use Rattle.ddf_primary.specs.Cells.{depth_of}
use Rattle.ddf_recovery.specs.Ready.{ReadyValue}
use Rattle.ddf_rebuild_command.specs.Standing.{GoesNext, IsNextWritten}
use Rattle.ddf_rebuild_command.proofs.BackRan.{can_still, filled_run, not_filled, recovery_asks, return_asks, room_asks}
use Rattle.ddf_rebuild_command.proofs.copying.copy_position.Goals as goal

pub fill_room-requires-clause-stands : goal.fill_room-requires-clause-stands
fill_room-requires-clause-stands g c = c.in_ok-recover_group.ensures.opened.stands

pub fill_room-requires-clause-fills : goal.fill_room-requires-clause-fills
fill_room-requires-clause-fills g c =
    can_still (g.B.Bay.disks c.args.bay.now).sizes (g.B.Bay.disks c.recover_group.new.bay).sizes c.recover_group.ensures.goes.goes.same_sizes c.args.group.now.seats c.recover_group.new.group.seats
    c.in_ok-recover_group.ensures.opened.same_seats c.args.plan.now.view c.args.plan.now.target c.args.plan.now.slot c.args.plan.now.start c.args.ready.now c.recover_group.new.ready c.recover_group.ensures.left c.requires.fills

pub write_step-requires : goal.write_step-requires
write_step-requires g c = c.in_ok-fill_room.ensures.filled.stands

pub returns-in_err-recover_group-clause-run : goal.returns-in_err-recover_group-clause-run
returns-in_err-recover_group-clause-run g c =
    let failed = err_from_is_err_and c.from_residual.result c.from_residual.ensures.1 in
    rw (failed.1, failed.2) (inl (record { failure = c.in_err-recover_group.field-0.0; is = refl; opens = c.recover_group.ensures.goes; failed = c.in_err-recover_group.ensures.failed }))

pub returns-in_err-fill_room-clause-run : goal.returns-in_err-fill_room-clause-run
returns-in_err-fill_room-clause-run g c =
    let failed = err_from_is_err_and c.from_residual-in_err-fill_room.result c.from_residual-in_err-fill_room.ensures.1 in
    rw (failed.1, failed.2) (inr (inl (not_filled g.B.Bay.disks g.B.Bay.tells (g.B.Bay.disks c.args.bay.now) (g.B.Bay.disks c.fill_room.new.bay) c.args.plan.now c.args.group.now c.args.ready.now c.recover_group.new.bay
    c.recover_group.ensures.goes c.recover_group.new.group c.recover_group.new.ready c.recover_group.ensures.left c.in_ok-recover_group.ensures.opened c.fill_room.ensures.copying c.in_err-fill_room.field-0.0
    c.in_err-fill_room.ensures.failed)))

pub returns-in_err-write_step-clause-run : goal.returns-in_err-write_step-clause-run
returns-in_err-write_step-clause-run g c =
    let failed = err_from_is_err_and c.from_residual-in_err-write_step.result c.from_residual-in_err-write_step.ensures.1 in
    rw (failed.1, failed.2) (inr (inr (filled_run g.B.Bay.disks g.B.Bay.tells (g.B.Bay.disks c.args.bay.now) (g.B.Bay.disks c.write_step.new.bay) c.args.plan.now c.args.group.now c.args.ready.now c.recover_group.new.bay
    c.recover_group.ensures.goes c.recover_group.new.group c.recover_group.new.ready c.recover_group.ensures.left c.in_ok-recover_group.ensures.opened c.fill_room.new.bay c.fill_room.ensures.copying
    c.in_ok-fill_room.ensures.filled (Err c.in_err-write_step.field-0.0) (subst (λ (b : Bool). GoesNext g.B.Bay.tells (g.B.Bay.disks c.fill_room.new.bay) (g.B.Bay.disks c.write_step.new.bay) c.recover_group.new.group c.recover_group.new.ready b)
    (ap is_ok c.in_err-write_step.was) c.write_step.ensures.goes) c.in_err-write_step.ensures.failed)))

pub returns-clause-run : goal.returns-clause-run
returns-clause-run g c =
    let is_next = subst (λ (one : ReadyValue). IsNextWritten g.B.Bay.tells (g.B.Bay.disks c.fill_room.new.bay) (g.B.Bay.disks c.write_step.new.bay) c.recover_group.new.group one c.write_step.new.group c.write_step.new.ready)
    c.recover_group.ensures.left c.in_ok-write_step.ensures.written in
    inr (inr (filled_run g.B.Bay.disks g.B.Bay.tells (g.B.Bay.disks c.args.bay.now) (g.B.Bay.disks c.write_step.new.bay) c.args.plan.now c.args.group.now c.args.ready.now c.recover_group.new.bay
    c.recover_group.ensures.goes c.recover_group.new.group c.recover_group.new.ready c.recover_group.ensures.left c.in_ok-recover_group.ensures.opened c.fill_room.new.bay c.fill_room.ensures.copying
    c.in_ok-fill_room.ensures.filled (Ok c.behind-group.inside.sequence) (subst (λ (b : Bool). GoesNext g.B.Bay.tells (g.B.Bay.disks c.fill_room.new.bay) (g.B.Bay.disks c.write_step.new.bay) c.recover_group.new.group c.recover_group.new.ready b)
    (ap is_ok c.in_ok-write_step.was) c.write_step.ensures.goes) (c.write_step.new.group, c.write_step.new.ready, is_next, ap (λ (config : Configuration). config.sequence) (c.behind-group.view_is ∙ c.config.ensures))))

pub returns-in_err-recover_group-clause-asks : goal.returns-in_err-recover_group-clause-asks
returns-in_err-recover_group-clause-asks g c part at = recovery_asks c.args.ready.now (depth_of part.shape) c.recover_group.ensures.asks

pub returns-in_err-fill_room-clause-asks : goal.returns-in_err-fill_room-clause-asks
returns-in_err-fill_room-clause-asks g c part at = room_asks c.args.ready.now (depth_of part.shape) c.recover_group.ensures.asks (c.fill_room.ensures.asks part at)

pub returns-in_err-write_step-clause-asks : goal.returns-in_err-write_step-clause-asks
returns-in_err-write_step-clause-asks g c part at =
    return_asks c.args.ready.now (depth_of part.shape) c.recover_group.ensures.asks c.recover_group.new.ready c.recover_group.ensures.left (c.fill_room.ensures.asks part at) c.write_step.ensures.asks

pub returns-clause-asks : goal.returns-clause-asks
returns-clause-asks g c part at =
    return_asks c.args.ready.now (depth_of part.shape) c.recover_group.ensures.asks c.recover_group.new.ready c.recover_group.ensures.left (c.fill_room.ensures.asks part at) c.write_step.ensures.asks
