use Rattle.std.proofs.Common.{◌∙◌, ◌+◌, [], ◌∷◌, true, false, refl, subst, sym, arith}
use Rattle.std.proofs.lemmas.Bool.{false≢true}
use Rattle.std.proofs.lemmas.Result.{IfErr-weaker, on_ok_weaker}
use Rattle.std.specs.Prelude.{is_ok}
use Rattle.ddf_array.proofs.Fits.{view_fits}
use Rattle.ddf_cells.proofs.Writes.{asks_then}
use Rattle.ddf_rebuild.specs.Rebuilding.{sectors_of}
use Rattle.ddf_update.specs.Prepared.{all_sectors}
use Rattle.ddf_recovery.specs.Committed.{next_updates}
use Rattle.ddf_steps.specs.Committed.{slots_of}
use Rattle.ddf_answer.specs.declared.failure.Failure.{Failure}
use Rattle.ddf_bay.specs.Told.{IsTold}
use Rattle.ddf_rebuild_command.specs.Filled.{IsFillFault, rounds_in}
use Rattle.ddf_rebuild_command.specs.Standing.{IsSlotFault}
use Rattle.ddf_rebuild_command.proofs.Costs.{asks_most}
use Rattle.ddf_rebuild_command.proofs.NextRound.{round_fault, round_filled, round_goes, rows_failed, rows_fault, stands_behind}
use Rattle.ddf_rebuild_command.proofs.OneRound.{FillsRows}
use Rattle.ddf_rebuild_command.proofs.filling.fill_round.Goals as goal

pub rebuild_rows-requires-clause-fits : goal.rebuild_rows-requires-clause-fits
rebuild_rows-requires-clause-fits g c =
    let can = c.requires.fills.1 in
    view_fits can.config can.guid c.args.group.now.seats c.args.filling.now.view (g.B.Bay.disks c.args.bay.now).sizes can.is_view can.fit

pub write_step-requires : goal.write_step-requires
write_step-requires g c =
    let old = g.B.Bay.disks c.args.bay.now in
    let middle = g.B.Bay.disks c.rebuild_rows.new.bay in
    let filling = c.args.filling.now in
    let can = c.requires.fills.1 in
    let asks = c.rebuild_rows.ensures.asks can.is_out.part can.is_out.is_target.is_part in
    let rows : FillsRows g.B.Bay.tells old middle filling.view filling.target c.args.from c.args.row true = record {
      goes = record { goes_on = asks.goes_on; same_sizes = asks.same_sizes; reads_rise = asks.reads_rise; writes_rise = asks.writes_rise };
      told = g.met.B.Bay.told_before c.args.bay.now c.rebuild_rows.new.bay (asks.goes_on c.rebuild_rows.new.bay (g.met.B.Bay.leads c.rebuild_rows.new.bay));
      any_moment = c.rebuild_rows.ensures.any_moment;
      left = c.rebuild_rows.ensures.left;
      held = c.rebuild_rows.ensures.held;
      stays = λ told so. c.in-Ok.ensures.settled told;
      rebuilt = λ told so. c.in-Ok.ensures.now told;
      was_given = λ told so. c.in-Ok.ensures.given told;
    } in
    stands_behind g.B.Bay.tells old middle filling.view filling.target c.args.from c.args.row c.requires.fills.0 c.args.group.now can c.args.ready.now.recovery true rows refl c.args.ready.now.steps c.requires.many c.requires.stands

pub returns-in-Ok-clause-goes : goal.returns-in-Ok-clause-goes
returns-in-Ok-clause-goes g c =
    let old = g.B.Bay.disks c.args.bay.now in
    let middle = g.B.Bay.disks c.rebuild_rows.new.bay in
    let filling = c.args.filling.now in
    let can = c.requires.fills.1 in
    let asks = c.rebuild_rows.ensures.asks can.is_out.part can.is_out.is_target.is_part in
    let rows : FillsRows g.B.Bay.tells old middle filling.view filling.target c.args.from c.args.row true = record {
      goes = record { goes_on = asks.goes_on; same_sizes = asks.same_sizes; reads_rise = asks.reads_rise; writes_rise = asks.writes_rise };
      told = g.met.B.Bay.told_before c.args.bay.now c.rebuild_rows.new.bay (asks.goes_on c.rebuild_rows.new.bay (g.met.B.Bay.leads c.rebuild_rows.new.bay));
      any_moment = c.rebuild_rows.ensures.any_moment;
      left = c.rebuild_rows.ensures.left;
      held = c.rebuild_rows.ensures.held;
      stays = λ told so. c.in-Ok.ensures.settled told;
      rebuilt = λ told so. c.in-Ok.ensures.now told;
      was_given = λ told so. c.in-Ok.ensures.given told;
    } in
    let new = g.B.Bay.disks c.write_step.new.bay in
    let tells_old : IsTold (g.B.Bay.disks c.args.bay.now) = g.met.B.Bay.told c.args.bay.now in
    let tells_middle : IsTold (g.B.Bay.disks c.rebuild_rows.new.bay) = g.met.B.Bay.told c.rebuild_rows.new.bay in
    let tells_new : IsTold (g.B.Bay.disks c.write_step.new.bay) = g.met.B.Bay.told c.write_step.new.bay in
    round_goes g.B.Bay.tells old middle filling.view filling.target c.args.from c.args.row c.requires.fills.0 c.args.group.now can c.args.ready.now.recovery true rows refl tells_old tells_middle new tells_new (is_ok c.write_step.result) c.args.ready.now.steps c.requires.many c.requires.stands c.write_step.ensures.goes

pub returns-in-Ok-clause-filled : goal.returns-in-Ok-clause-filled
returns-in-Ok-clause-filled g c =
    let old = g.B.Bay.disks c.args.bay.now in
    let middle = g.B.Bay.disks c.rebuild_rows.new.bay in
    let filling = c.args.filling.now in
    let can = c.requires.fills.1 in
    let asks = c.rebuild_rows.ensures.asks can.is_out.part can.is_out.is_target.is_part in
    let rows : FillsRows g.B.Bay.tells old middle filling.view filling.target c.args.from c.args.row true = record {
      goes = record { goes_on = asks.goes_on; same_sizes = asks.same_sizes; reads_rise = asks.reads_rise; writes_rise = asks.writes_rise };
      told = g.met.B.Bay.told_before c.args.bay.now c.rebuild_rows.new.bay (asks.goes_on c.rebuild_rows.new.bay (g.met.B.Bay.leads c.rebuild_rows.new.bay));
      any_moment = c.rebuild_rows.ensures.any_moment;
      left = c.rebuild_rows.ensures.left;
      held = c.rebuild_rows.ensures.held;
      stays = λ told so. c.in-Ok.ensures.settled told;
      rebuilt = λ told so. c.in-Ok.ensures.now told;
      was_given = λ told so. c.in-Ok.ensures.given told;
    } in
    let new = g.B.Bay.disks c.write_step.new.bay in
    let tells_old : IsTold (g.B.Bay.disks c.args.bay.now) = g.met.B.Bay.told c.args.bay.now in
    let tells_middle : IsTold (g.B.Bay.disks c.rebuild_rows.new.bay) = g.met.B.Bay.told c.rebuild_rows.new.bay in
    let tells_new : IsTold (g.B.Bay.disks c.write_step.new.bay) = g.met.B.Bay.told c.write_step.new.bay in
    on_ok_weaker c.write_step.result
    (λ written. round_filled g.B.Bay.tells old middle filling.view filling.target c.args.from c.args.row c.requires.fills.0 c.args.group.now can c.args.ready.now.recovery true rows refl tells_old tells_middle new tells_new (is_ok c.write_step.result) c.args.ready.now.steps c.requires.many c.requires.stands c.write_step.ensures.goes c.write_step.new.group c.write_step.new.ready
    written)
    c.write_step.ensures.written

pub returns-in-Ok-clause-failed : goal.returns-in-Ok-clause-failed
returns-in-Ok-clause-failed g c =
    let old = g.B.Bay.disks c.args.bay.now in
    let middle = g.B.Bay.disks c.rebuild_rows.new.bay in
    let filling = c.args.filling.now in
    let can = c.requires.fills.1 in
    let asks = c.rebuild_rows.ensures.asks can.is_out.part can.is_out.is_target.is_part in
    let rows : FillsRows g.B.Bay.tells old middle filling.view filling.target c.args.from c.args.row true = record {
      goes = record { goes_on = asks.goes_on; same_sizes = asks.same_sizes; reads_rise = asks.reads_rise; writes_rise = asks.writes_rise };
      told = g.met.B.Bay.told_before c.args.bay.now c.rebuild_rows.new.bay (asks.goes_on c.rebuild_rows.new.bay (g.met.B.Bay.leads c.rebuild_rows.new.bay));
      any_moment = c.rebuild_rows.ensures.any_moment;
      left = c.rebuild_rows.ensures.left;
      held = c.rebuild_rows.ensures.held;
      stays = λ told so. c.in-Ok.ensures.settled told;
      rebuilt = λ told so. c.in-Ok.ensures.now told;
      was_given = λ told so. c.in-Ok.ensures.given told;
    } in
    let new = g.B.Bay.disks c.write_step.new.bay in
    let tells_old : IsTold (g.B.Bay.disks c.args.bay.now) = g.met.B.Bay.told c.args.bay.now in
    let tells_middle : IsTold (g.B.Bay.disks c.rebuild_rows.new.bay) = g.met.B.Bay.told c.rebuild_rows.new.bay in
    let tells_new : IsTold (g.B.Bay.disks c.write_step.new.bay) = g.met.B.Bay.told c.write_step.new.bay in
    IfErr-weaker c.write_step.result (IsSlotFault middle new (slots_of c.args.group.now.seats))
    (IsFillFault g.B.Bay.tells old new filling.view filling.target c.args.from (rounds_in (c.args.row ∷ []) c.args.ready.now.steps) c.args.group.now c.args.ready.now c.args.row)
    (λ failure fault. round_fault g.B.Bay.tells old middle filling.view filling.target c.args.from c.args.row c.requires.fills.0 c.args.group.now can c.args.ready.now.recovery true rows refl tells_old tells_middle new tells_new (is_ok c.write_step.result) c.args.ready.now.steps c.requires.many c.requires.stands c.write_step.ensures.goes failure fault)
    c.write_step.ensures.failed

pub returns-in-Err-clause-goes : goal.returns-in-Err-clause-goes
returns-in-Err-clause-goes g c =
    let old = g.B.Bay.disks c.args.bay.now in
    let middle = g.B.Bay.disks c.rebuild_rows.new.bay in
    let filling = c.args.filling.now in
    let can = c.requires.fills.1 in
    let asks = c.rebuild_rows.ensures.asks can.is_out.part can.is_out.is_target.is_part in
    let rows : FillsRows g.B.Bay.tells old middle filling.view filling.target c.args.from c.args.row false = record {
      goes = record { goes_on = asks.goes_on; same_sizes = asks.same_sizes; reads_rise = asks.reads_rise; writes_rise = asks.writes_rise };
      told = g.met.B.Bay.told_before c.args.bay.now c.rebuild_rows.new.bay (asks.goes_on c.rebuild_rows.new.bay (g.met.B.Bay.leads c.rebuild_rows.new.bay));
      any_moment = c.rebuild_rows.ensures.any_moment;
      left = c.rebuild_rows.ensures.left;
      held = c.rebuild_rows.ensures.held;
      stays = λ told so. absurd (false≢true so);
      rebuilt = λ told so. absurd (false≢true so);
      was_given = λ told so. absurd (false≢true so);
    } in
    rows_failed g.B.Bay.tells old middle filling.view filling.target c.args.from c.args.row c.requires.fills.0 c.args.group.now can c.args.ready.now.recovery false rows c.args.ready.now.steps c.requires.many c.requires.stands

pub returns-in-Err-clause-failed : goal.returns-in-Err-clause-failed
returns-in-Err-clause-failed g c =
    let old = g.B.Bay.disks c.args.bay.now in
    let middle = g.B.Bay.disks c.rebuild_rows.new.bay in
    let filling = c.args.filling.now in
    let can = c.requires.fills.1 in
    let asks = c.rebuild_rows.ensures.asks can.is_out.part can.is_out.is_target.is_part in
    let rows : FillsRows g.B.Bay.tells old middle filling.view filling.target c.args.from c.args.row false = record {
      goes = record { goes_on = asks.goes_on; same_sizes = asks.same_sizes; reads_rise = asks.reads_rise; writes_rise = asks.writes_rise };
      told = g.met.B.Bay.told_before c.args.bay.now c.rebuild_rows.new.bay (asks.goes_on c.rebuild_rows.new.bay (g.met.B.Bay.leads c.rebuild_rows.new.bay));
      any_moment = c.rebuild_rows.ensures.any_moment;
      left = c.rebuild_rows.ensures.left;
      held = c.rebuild_rows.ensures.held;
      stays = λ told so. absurd (false≢true so);
      rebuilt = λ told so. absurd (false≢true so);
      was_given = λ told so. absurd (false≢true so);
    } in
    subst (λ (failure : Failure). IsFillFault g.B.Bay.tells old middle filling.view filling.target c.args.from (rounds_in (c.args.row ∷ []) c.args.ready.now.steps) c.args.group.now c.args.ready.now c.args.row failure)
    (sym c.failure_of.ensures)
    (rows_fault g.B.Bay.tells old middle filling.view filling.target c.args.from c.args.row c.requires.fills.0 c.args.group.now can c.args.ready.now.recovery false rows c.args.ready.now.steps c.requires.many c.requires.stands c.in-Err.fault c.in-Err.ensures.fault)

pub returns-in-Ok-clause-asks : goal.returns-in-Ok-clause-asks
returns-in-Ok-clause-asks g c part at =
    asks_then (sectors_of part.shape c.args.from c.args.row + all_sectors (next_updates c.args.ready.now)) (omega arith) (c.rebuild_rows.ensures.asks part at) c.write_step.ensures.asks

pub returns-in-Err-clause-asks : goal.returns-in-Err-clause-asks
returns-in-Err-clause-asks g c part at =
    asks_most (sectors_of part.shape c.args.from c.args.row + all_sectors (next_updates c.args.ready.now)) (omega arith) (c.rebuild_rows.ensures.asks part at)

pub returns-in-Ok-clause-unfailed : goal.returns-in-Ok-clause-unfailed
returns-in-Ok-clause-unfailed g c = on_ok_weaker c.write_step.result (λ same. same ∙ c.in-Ok.ensures.unfailed) c.write_step.ensures.unfailed
