use Rattle.std.proofs.Common.{true, false, refl, subst, sym}
use Rattle.std.proofs.lemmas.Bool.{false≢true}
use Rattle.ddf_array.proofs.Fits.{view_fits}
use Rattle.ddf_answer.specs.declared.failure.Failure.{Failure}
use Rattle.ddf_bay.specs.Told.{IsTold}
use Rattle.ddf_rebuild_command.specs.BackRun.{IsCopyFault}
use Rattle.ddf_rebuild_command.proofs.RoomRun.{FillsRoom, room_fault, room_filled, room_goes}
use Rattle.ddf_rebuild_command.proofs.copying.fill_room.Goals as goal

pub copyback-requires-clause-fits : goal.copyback-requires-clause-fits
copyback-requires-clause-fits g c =
    let can = c.requires.fills in
    view_fits can.config can.guid c.args.group.now.seats c.args.plan.now.view (g.B.Bay.disks c.args.bay.now).sizes can.is_view can.fit

pub returns-in-Ok-clause-copying : goal.returns-in-Ok-clause-copying
returns-in-Ok-clause-copying g c =
    let old = g.B.Bay.disks c.args.bay.now in
    let new = g.B.Bay.disks c.copyback.new.bay in
    let plan = c.args.plan.now in
    let can = c.requires.fills in
    let asks = c.copyback.ensures.asks can.aside.part can.aside.is_part in
    let room : FillsRoom g.B.Bay.tells old new plan.view plan.target plan.slot plan.start true = record {
      goes = record { goes_on = asks.goes_on; same_sizes = asks.same_sizes; reads_rise = asks.reads_rise; writes_rise = asks.writes_rise };
      told = g.met.B.Bay.told_before c.args.bay.now c.copyback.new.bay (asks.goes_on c.copyback.new.bay (g.met.B.Bay.leads c.copyback.new.bay));
      any_moment = c.copyback.ensures.any_moment;
      left = c.copyback.ensures.left;
      held = c.copyback.ensures.held;
      stays = λ told so. c.in-Ok.ensures.settled told;
      wanted = λ told so. c.in-Ok.ensures.now told;
      was_given = λ told so. c.in-Ok.ensures.given told;
    } in
    room_goes g.B.Bay.tells old new plan.view plan.target plan.slot plan.start c.args.group.now c.args.ready.now can c.requires.stands true room

pub returns-in-Ok-clause-filled : goal.returns-in-Ok-clause-filled
returns-in-Ok-clause-filled g c =
    let old = g.B.Bay.disks c.args.bay.now in
    let new = g.B.Bay.disks c.copyback.new.bay in
    let plan = c.args.plan.now in
    let can = c.requires.fills in
    let asks = c.copyback.ensures.asks can.aside.part can.aside.is_part in
    let room : FillsRoom g.B.Bay.tells old new plan.view plan.target plan.slot plan.start true = record {
      goes = record { goes_on = asks.goes_on; same_sizes = asks.same_sizes; reads_rise = asks.reads_rise; writes_rise = asks.writes_rise };
      told = g.met.B.Bay.told_before c.args.bay.now c.copyback.new.bay (asks.goes_on c.copyback.new.bay (g.met.B.Bay.leads c.copyback.new.bay));
      any_moment = c.copyback.ensures.any_moment;
      left = c.copyback.ensures.left;
      held = c.copyback.ensures.held;
      stays = λ told so. c.in-Ok.ensures.settled told;
      wanted = λ told so. c.in-Ok.ensures.now told;
      was_given = λ told so. c.in-Ok.ensures.given told;
    } in
    let tells_old : IsTold (g.B.Bay.disks c.args.bay.now) = g.met.B.Bay.told c.args.bay.now in
    let tells_new : IsTold (g.B.Bay.disks c.copyback.new.bay) = g.met.B.Bay.told c.copyback.new.bay in
    room_filled g.B.Bay.tells old new plan.view plan.target plan.slot plan.start c.args.group.now c.args.ready.now can c.requires.stands true room refl tells_old tells_new

pub returns-in-Err-clause-copying : goal.returns-in-Err-clause-copying
returns-in-Err-clause-copying g c =
    let old = g.B.Bay.disks c.args.bay.now in
    let new = g.B.Bay.disks c.copyback.new.bay in
    let plan = c.args.plan.now in
    let can = c.requires.fills in
    let asks = c.copyback.ensures.asks can.aside.part can.aside.is_part in
    let room : FillsRoom g.B.Bay.tells old new plan.view plan.target plan.slot plan.start false = record {
      goes = record { goes_on = asks.goes_on; same_sizes = asks.same_sizes; reads_rise = asks.reads_rise; writes_rise = asks.writes_rise };
      told = g.met.B.Bay.told_before c.args.bay.now c.copyback.new.bay (asks.goes_on c.copyback.new.bay (g.met.B.Bay.leads c.copyback.new.bay));
      any_moment = c.copyback.ensures.any_moment;
      left = c.copyback.ensures.left;
      held = c.copyback.ensures.held;
      stays = λ told so. absurd (false≢true so);
      wanted = λ told so. absurd (false≢true so);
      was_given = λ told so. absurd (false≢true so);
    } in
    room_goes g.B.Bay.tells old new plan.view plan.target plan.slot plan.start c.args.group.now c.args.ready.now can c.requires.stands false room

pub returns-in-Err-clause-failed : goal.returns-in-Err-clause-failed
returns-in-Err-clause-failed g c =
    let old = g.B.Bay.disks c.args.bay.now in
    let new = g.B.Bay.disks c.copyback.new.bay in
    let plan = c.args.plan.now in
    let can = c.requires.fills in
    let asks = c.copyback.ensures.asks can.aside.part can.aside.is_part in
    let room : FillsRoom g.B.Bay.tells old new plan.view plan.target plan.slot plan.start false = record {
      goes = record { goes_on = asks.goes_on; same_sizes = asks.same_sizes; reads_rise = asks.reads_rise; writes_rise = asks.writes_rise };
      told = g.met.B.Bay.told_before c.args.bay.now c.copyback.new.bay (asks.goes_on c.copyback.new.bay (g.met.B.Bay.leads c.copyback.new.bay));
      any_moment = c.copyback.ensures.any_moment;
      left = c.copyback.ensures.left;
      held = c.copyback.ensures.held;
      stays = λ told so. absurd (false≢true so);
      wanted = λ told so. absurd (false≢true so);
      was_given = λ told so. absurd (false≢true so);
    } in
    subst (λ (failure : Failure). IsCopyFault g.B.Bay.tells old new plan.view plan.target plan.slot plan.start c.args.group.now c.args.ready.now failure) (sym c.failure_of.ensures)
    (room_fault g.B.Bay.tells old new plan.view plan.target plan.slot plan.start c.args.group.now c.args.ready.now can c.requires.stands false room c.in-Err.fault c.in-Err.ensures.fault)
