use Rattle.std.proofs.Common.{◌∙◌, refl, subst, sym}
use Rattle.std.proofs.lemmas.Result.{err_from_is_err_and}
use Rattle.ddf_bytes.specs.Stamps.{timestamp_of}
use Rattle.ddf_bay.proofs.Looks.{reads_then}
use Rattle.ddf_array.specs.Volume.{Volume}
use Rattle.ddf_recovery.specs.Ready.{readied}
use Rattle.ddf_history_steps.proofs.Floored.{group_floored}
use Rattle.ddf_answer.specs.Call.{input_of, work_of}
use Rattle.ddf_group_commands.proofs.Outcomes.{group_read, read_still}
use Rattle.ddf_write_commands.specs.Payload.{ArePiecesOf, pieces_of}
use Rattle.ddf_write_commands.specs.Write.{looking, write_behind, write_refusals, write_request}
use Rattle.ddf_write_commands.proofs.BesideKept.{kept_values, lies_there, parity_plain, pieces_there, unmarked_fits, unmarked_taken, unmarked_trusted}
use Rattle.ddf_write_commands.proofs.OnePlan.{same_volume}
use Rattle.ddf_write_commands.proofs.PlanKept.{planned, steps_are}
use Rattle.ddf_write_commands.proofs.PlanWritten.{few_behind}
use Rattle.ddf_write_commands.proofs.Since.{none_come, not_planned, not_ready, unwritten_come}
use Rattle.ddf_write_commands.proofs.Staying.{current_recovered}
use Rattle.ddf_write_commands.proofs.WriteCalls.{looked_calls, written_calls}
use Rattle.ddf_write_commands.proofs.WriteTaken.{come}
use Rattle.ddf_write_commands.proofs.WriteCame.{payload_came, unfit_as, unfit_came, unfit_looked}
use Rattle.ddf_write_commands.proofs.WriteLooked.{look_calls, look_came, look_since}
use Rattle.ddf_write_commands.proofs.writing.written.Goals as goal

pub returns-in_err-group-clause-written : goal.returns-in_err-group-clause-written
returns-in_err-group-clause-written g c =
    let failed = err_from_is_err_and c.from_residual.result c.from_residual.ensures.1 in
    let work = work_of g.B.Bay.tells (g.B.Bay.disks c.args.bay.now) (g.B.Bay.disks c.read_group.new.bay) in
    rw (failed.1, failed.2)
    (unfit_as work (input_of g.S.Source.tells (g.S.Source.input c.args.source.now) (g.S.Source.input c.args.source.now)) c.args.named (timestamp_of c.args.stamp.now) c.args.name.now c.args.start c.args.count c.in_err-group.field-0.0
    (unfit_came work (input_of g.S.Source.tells (g.S.Source.input c.args.source.now) (g.S.Source.input c.args.source.now)) c.args.named (timestamp_of c.args.stamp.now) c.args.name.now c.args.start c.args.count refl c.read_group.ensures.reads c.in_err-group.field-0.0
    (none_come (looking c.args.start c.args.count) work c.args.named (timestamp_of c.args.stamp.now) c.args.name.now (write_request c.args.name.now c.args.start c.args.count) c.read_group.ensures.reads c.in_err-group.field-0.0 c.in_err-group.ensures.read) c.in_err-group.ensures.read.calls))

pub returns-in_err-plan-clause-written : goal.returns-in_err-plan-clause-written
returns-in_err-plan-clause-written g c =
    let failed = err_from_is_err_and c.from_residual-in_err-plan.result c.from_residual-in_err-plan.ensures.1 in
    let work = work_of g.B.Bay.tells (g.B.Bay.disks c.args.bay.now) (g.B.Bay.disks c.read_group.new.bay) in
    rw (failed.1, failed.2)
    (unfit_as work (input_of g.S.Source.tells (g.S.Source.input c.args.source.now) (g.S.Source.input c.args.source.now)) c.args.named (timestamp_of c.args.stamp.now) c.args.name.now c.args.start c.args.count c.in_err-plan.field-0.0
    (unfit_came work (input_of g.S.Source.tells (g.S.Source.input c.args.source.now) (g.S.Source.input c.args.source.now)) c.args.named (timestamp_of c.args.stamp.now) c.args.name.now c.args.start c.args.count refl c.read_group.ensures.reads c.in_err-plan.field-0.0
    (unwritten_come (looking c.args.start c.args.count) work c.args.named (timestamp_of c.args.stamp.now) c.args.name.now (write_request c.args.name.now c.args.start c.args.count) c.read_group.ensures.reads c.in_ok-group.group c.in_err-plan.field-0.0 c.in_ok-group.ensures.read (not_planned (looking c.args.start c.args.count) work c.args.named (timestamp_of c.args.stamp.now) c.args.name.now (write_request c.args.name.now c.args.start c.args.count) c.read_group.ensures.reads (write_refusals c.args.start c.args.count) write_behind c.in_ok-group.group c.in_err-plan.field-0.0 refl c.in_err-plan.ensures)) c.in_ok-group.ensures.read.calls))

pub returns-in_err-ready-clause-written : goal.returns-in_err-ready-clause-written
returns-in_err-ready-clause-written g c =
    let failed = err_from_is_err_and c.from_residual-in_err-ready.result c.from_residual-in_err-ready.ensures.1 in
    let work = work_of g.B.Bay.tells (g.B.Bay.disks c.args.bay.now) (g.B.Bay.disks c.read_group.new.bay) in
    rw (failed.1, failed.2)
    (unfit_as work (input_of g.S.Source.tells (g.S.Source.input c.args.source.now) (g.S.Source.input c.args.source.now)) c.args.named (timestamp_of c.args.stamp.now) c.args.name.now c.args.start c.args.count c.in_err-ready.field-0.0
    (unfit_came work (input_of g.S.Source.tells (g.S.Source.input c.args.source.now) (g.S.Source.input c.args.source.now)) c.args.named (timestamp_of c.args.stamp.now) c.args.name.now c.args.start c.args.count refl c.read_group.ensures.reads c.in_err-ready.field-0.0
    (unwritten_come (looking c.args.start c.args.count) work c.args.named (timestamp_of c.args.stamp.now) c.args.name.now (write_request c.args.name.now c.args.start c.args.count) c.read_group.ensures.reads c.in_ok-group.group c.in_err-ready.field-0.0 c.in_ok-group.ensures.read (not_ready (looking c.args.start c.args.count) work c.args.named (timestamp_of c.args.stamp.now) c.args.name.now (write_request c.args.name.now c.args.start c.args.count) c.read_group.ensures.reads c.in_ok-group.group c.in_err-ready.field-0.0 (readied c.in_ok-group.group c.in_ok-plan.plan.changes (timestamp_of c.args.stamp.now)) (steps_are c.in_ok-group.group (write_refusals c.args.start c.args.count) write_behind c.args.name.now c.in_ok-plan.plan (timestamp_of c.args.stamp.now) c.in_ok-plan.ensures (few_behind c.in_ok-plan.ensures.entry)) (rw c.timestamp-timestamp.ensures at c.in_err-ready.ensures.refused))) c.in_ok-group.ensures.read.calls))

pub look-requires-clause-fits : goal.look-requires-clause-fits
look-requires-clause-fits g c =
    let middle = g.B.Bay.disks c.read_group.new.bay in
    let from = read_still (g.B.Bay.disks c.args.bay.now) middle c.read_group.ensures.reads.same_sizes c.read_group.ensures.reads.same_held g.B.Bay.tells c.in_ok-group.group c.in_ok-group.ensures.from in
    unmarked_fits c.args.start c.args.count c.in_ok-group.group c.args.name.now c.in_ok-plan.plan c.in_ok-plan.ensures middle.sizes from.seats

pub look-requires-clause-trusted : goal.look-requires-clause-trusted
look-requires-clause-trusted g c = unmarked_trusted c.args.start c.args.count c.in_ok-group.group c.args.name.now c.in_ok-plan.plan c.in_ok-plan.ensures

pub look-requires-clause-accepted : goal.look-requires-clause-accepted
look-requires-clause-accepted g c = unmarked_taken c.args.start c.args.count c.in_ok-group.group c.args.name.now c.in_ok-plan.plan c.in_ok-plan.ensures

pub returns-in_err-beside-clause-written : goal.returns-in_err-beside-clause-written
returns-in_err-beside-clause-written g c =
    let failed = err_from_is_err_and c.from_residual-in_err-beside.result c.from_residual-in_err-beside.ensures.1 in
    let old = g.B.Bay.disks c.args.bay.now in
    let middle = g.B.Bay.disks c.read_group.new.bay in
    let looked = g.B.Bay.disks c.look.new.bay in
    let work = work_of g.B.Bay.tells old looked in
    let input = input_of g.S.Source.tells (g.S.Source.input c.args.source.now) (g.S.Source.input c.args.source.now) in
    let timestamp = timestamp_of c.args.stamp.now in
    let is = c.in_ok-plan.ensures in
    let made = planned c.in_ok-group.group (write_refusals c.args.start c.args.count) write_behind c.args.name.now c.in_ok-plan.plan timestamp is (few_behind is.entry) c.in_ok-ready.ready (rw c.timestamp-timestamp.ensures at c.in_ok-ready.ensures.was) in
    let from = read_still old middle c.read_group.ensures.reads.same_sizes c.read_group.ensures.reads.same_held g.B.Bay.tells c.in_ok-group.group c.in_ok-group.ensures.from in
    rw (failed.1, failed.2)
    (unfit_as work input c.args.named timestamp c.args.name.now c.args.start c.args.count c.in_err-beside.field-0.0
    (unfit_looked work input c.args.named timestamp c.args.name.now c.args.start c.args.count refl (reads_then c.read_group.ensures.reads c.look.ensures.reads.reads) c.in_err-beside.field-0.0
    (look_came g.B.Bay.tells old middle looked c.read_group.ensures.reads c.read_group.ensures.reads_rise c.read_group.ensures.writes_rise c.look.ensures.reads c.args.named timestamp c.args.name.now c.args.start c.args.count c.in_ok-group.group
    c.in_ok-group.ensures.read made.planned c.in_ok-plan.plan is made.volume_is from c.in_err-beside.field-0.0 c.in_err-beside.ensures.unseen)
    (look_calls g.B.Bay.tells old middle looked c.read_group.ensures.reads c.read_group.ensures.reads_rise c.read_group.ensures.writes_rise c.look.ensures.reads c.args.named timestamp c.args.name.now c.args.start c.args.count c.in_ok-group.group
    c.in_ok-group.ensures.read made.planned c.in_ok-plan.plan is made.volume_is from c.in_err-beside.field-0.0 c.in_err-beside.ensures.unseen
    (looked_calls g.B.Bay.tells old middle looked c.read_group.ensures.reads.same_sizes c.look.ensures.reads.reads.same_sizes c.in_ok-group.ensures.read.calls timestamp c.args.name.now c.args.start c.args.count c.in_ok-group.group made.planned
    c.in_ok-plan.plan.view made.volume_is (λ none. c.look.ensures.idle (parity_plain c.args.start c.args.count c.in_ok-group.group c.args.name.now c.in_ok-plan.plan is none))))))

pub read_first-requires : goal.read_first-requires
read_first-requires g c = c.in_ok-beside.ensures.beside.some

pub returns-in_err-room-clause-written : goal.returns-in_err-room-clause-written
returns-in_err-room-clause-written g c =
    let failed = err_from_is_err_and c.from_residual-in_err-room.result c.from_residual-in_err-room.ensures.1 in
    let old = g.B.Bay.disks c.args.bay.now in
    let middle = g.B.Bay.disks c.read_group.new.bay in
    let looked = g.B.Bay.disks c.look.new.bay in
    let work = work_of g.B.Bay.tells old looked in
    let input = input_of g.S.Source.tells (g.S.Source.input c.args.source.now) (g.S.Source.input c.read_first.new.source) in
    let timestamp = timestamp_of c.args.stamp.now in
    let is = c.in_ok-plan.ensures in
    let made = planned c.in_ok-group.group (write_refusals c.args.start c.args.count) write_behind c.args.name.now c.in_ok-plan.plan timestamp is (few_behind is.entry) c.in_ok-ready.ready (rw c.timestamp-timestamp.ensures at c.in_ok-ready.ensures.was) in
    let pieces = pieces_of c.in_ok-beside.beside in
    let are = subst (λ (v : Volume). ArePiecesOf v c.args.start c.args.count pieces) (sym made.volume_is) (pieces_there c.args.start c.args.count c.in_ok-group.group c.args.name.now c.in_ok-plan.plan is c.in_ok-beside.beside c.in_ok-beside.ensures.beside) in
    rw (failed.1, failed.2)
    (payload_came work input c.args.named timestamp c.args.name.now c.args.start c.args.count c.in_ok-group.group made.planned pieces are
    (look_since g.B.Bay.tells old middle looked c.read_group.ensures.reads c.read_group.ensures.reads_rise c.read_group.ensures.writes_rise c.look.ensures.reads c.args.named timestamp c.args.name.now c.args.start c.args.count c.in_ok-group.group
    c.in_ok-group.ensures.read made.planned) (reads_then c.read_group.ensures.reads c.look.ensures.reads.reads)
    (looked_calls g.B.Bay.tells old middle looked c.read_group.ensures.reads.same_sizes c.look.ensures.reads.reads.same_sizes c.in_ok-group.ensures.read.calls timestamp c.args.name.now c.args.start c.args.count c.in_ok-group.group made.planned
    c.in_ok-plan.plan.view made.volume_is (λ none. c.look.ensures.idle (parity_plain c.args.start c.args.count c.in_ok-group.group c.args.name.now c.in_ok-plan.plan is none)))
    c.in_err-room.field-0.0 c.in_err-room.ensures.fault)

pub write_array-requires-clause-from : goal.write_array-requires-clause-from
write_array-requires-clause-from g c =
    let middle = g.B.Bay.disks c.read_group.new.bay in
    let from = read_still (g.B.Bay.disks c.args.bay.now) middle c.read_group.ensures.reads.same_sizes c.read_group.ensures.reads.same_held g.B.Bay.tells c.in_ok-group.group c.in_ok-group.ensures.from in
    read_still middle (g.B.Bay.disks c.look.new.bay) c.look.ensures.reads.reads.same_sizes c.look.ensures.reads.reads.same_held g.B.Bay.tells c.in_ok-group.group from

pub write_array-requires-clause-planned : goal.write_array-requires-clause-planned
write_array-requires-clause-planned g c = (c.args.name.now, c.in_ok-plan.ensures)

pub write_array-requires-clause-lies : goal.write_array-requires-clause-lies
write_array-requires-clause-lies g c = lies_there c.args.start c.args.count c.in_ok-group.group c.args.name.now c.in_ok-plan.plan c.in_ok-plan.ensures c.in_ok-beside.beside c.in_ok-beside.ensures.beside

pub write_array-requires-clause-members : goal.write_array-requires-clause-members
write_array-requires-clause-members g c = λ place seat at.
    let work = work_of g.B.Bay.tells (g.B.Bay.disks c.args.bay.now) (g.B.Bay.disks c.read_group.new.bay) in
    let read = c.in_ok-group.ensures.read in
    current_recovered read.newest c.args.named c.in_ok-group.group (group_read work c.args.named c.in_ok-group.group read) c.in_ok-group.ensures.from.assembled place seat at

pub write_array-requires-clause-floored : goal.write_array-requires-clause-floored
write_array-requires-clause-floored g c =
    let work = work_of g.B.Bay.tells (g.B.Bay.disks c.args.bay.now) (g.B.Bay.disks c.read_group.new.bay) in
    let read = c.in_ok-group.ensures.read in
    group_floored read.newest c.args.named c.in_ok-group.group (group_read work c.args.named c.in_ok-group.group read)

pub returns-clause-written : goal.returns-clause-written
returns-clause-written g c =
    let word = c.args.name.now in
    let timestamp = timestamp_of c.args.stamp.now in
    let old = g.B.Bay.disks c.args.bay.now in
    let middle = g.B.Bay.disks c.read_group.new.bay in
    let looked = g.B.Bay.disks c.look.new.bay in
    let new = g.B.Bay.disks c.write_array.new.bay in
    let group = c.in_ok-group.group in
    let plan = c.in_ok-plan.plan in
    let is = c.in_ok-plan.ensures in
    let beside = c.in_ok-beside.beside in
    let read = c.in_ok-group.ensures.read in
    let made = planned group (write_refusals c.args.start c.args.count) write_behind word plan timestamp is (few_behind is.entry) c.in_ok-ready.ready (rw c.timestamp-timestamp.ensures at c.in_ok-ready.ensures.was) in
    let from = read_still old middle c.read_group.ensures.reads.same_sizes c.read_group.ensures.reads.same_held g.B.Bay.tells group c.in_ok-group.ensures.from in
    let floored = group_floored read.newest c.args.named group (group_read (work_of g.B.Bay.tells old middle) c.args.named group read) in
    come g.S.Source.tells (g.S.Source.input c.args.source.now) (g.S.Source.input c.read_first.new.source) (g.S.Source.input c.write_array.new.source) (pieces_of beside) c.in_ok-beside.ensures.beside.some c.args.count c.in_ok-room.room.items
    c.in_ok-room.ensures.read g.B.Bay.tells old middle looked new c.read_group.ensures.reads c.read_group.ensures.reads_rise c.read_group.ensures.writes_rise c.look.ensures.reads c.args.named timestamp word c.args.start group read plan is made
    (pieces_there c.args.start c.args.count group word plan is beside c.in_ok-beside.ensures.beside) beside.kept
    (λ told any_plan image written sure.
    kept_values c.args.start c.args.count group word plan is g.B.Bay.tells middle looked new from floored c.look.ensures.reads.never_falls c.write_array.ensures.goes.reads_rise beside.kept c.in_ok-beside.ensures.values timestamp any_plan
    (same_volume group timestamp word (write_request word c.args.start c.args.count) any_plan made.planned ∙ made.volume_is) told image written sure)
    c.write_array.ensures.goes c.write_array.ensures.done.0 c.write_array.result (rw (c.timestamp-timestamp.ensures, c.deref_mut.ensures.value) at c.write_array.ensures.done.1) c.write_array.ensures.unfailed
    (written_calls g.B.Bay.tells old middle looked c.read_group.ensures.reads.same_sizes c.look.ensures.reads.reads.same_sizes read.calls timestamp word c.args.start c.args.count group made.planned
    plan.view made.volume_is (λ none. c.look.ensures.idle (parity_plain c.args.start c.args.count group word plan is none))
    new beside.each (λ none. ((lies_there c.args.start c.args.count group word plan is beside c.in_ok-beside.ensures.beside).plain none).0) c.write_array.ensures.calls)
