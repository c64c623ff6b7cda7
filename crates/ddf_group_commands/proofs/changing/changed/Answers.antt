use Rattle.std.proofs.Common.{◌≡◌, ◌∙◌, ap}
use Rattle.std.proofs.lemmas.Result.{err_from_is_err_and}
use Rattle.ddf_request.specs.Request.{request_of}
use Rattle.ddf_answer.specs.Call.{work_of}
use Rattle.ddf_group_commands.specs.Requests.{at_most_one, linux_members}
use Rattle.ddf_group_commands.proofs.Outcomes.{group_read, has_wished, linux_asked, memory_wished, none_wished, not_wished, read_still}
use Rattle.ddf_group_commands.proofs.Requested.{one_at_most, request_asked, wish_is}
use Rattle.ddf_group_commands.proofs.SeatReferences.{group_small}
use Rattle.ddf_group_commands.proofs.changing.changed.Goals as goal

pub returns-in_err-group-clause-changed : goal.returns-in_err-group-clause-changed
returns-in_err-group-clause-changed g c =
    let failed = err_from_is_err_and c.from_residual.result c.from_residual.ensures.1 in
    rw (failed.1, failed.2) (none_wished _ _ _ _ c.read_group.ensures.reads _ c.in_err-group.ensures.read)

pub returns-in_err-loss-clause-changed : goal.returns-in_err-loss-clause-changed
returns-in_err-loss-clause-changed g c =
    let failed = err_from_is_err_and c.from_residual-in_err-loss.result c.from_residual-in_err-loss.ensures.1 in
    rw (failed.1, failed.2) (memory_wished _ _ _ _ c.read_group.ensures.reads _ c.in_ok-group.ensures.read)

pub returns-in_err-linux-clause-changed : goal.returns-in_err-linux-clause-changed
returns-in_err-linux-clause-changed g c =
    let failed = err_from_is_err_and c.from_residual-in_err-linux.result c.from_residual-in_err-linux.ensures.1 in
    rw (failed.1, failed.2) (memory_wished _ _ _ _ c.read_group.ensures.reads _ c.in_ok-group.ensures.read)

pub returns-in_err-change-clause-changed : goal.returns-in_err-change-clause-changed
returns-in_err-change-clause-changed g c =
    let failed = err_from_is_err_and c.from_residual-in_err-change.result c.from_residual-in_err-change.ensures.1 in
    let linux : c.as_slice.result.now ≡ linux_members c.in_ok-group.group = c.as_slice.ensures.value ∙ c.in_ok-linux.ensures in
    let same = linux_asked (λ slots config seats linux. request_of slots config seats linux c.args.stamp.now c.args.wish.now)
    c.slots.ensures.slots c.read_group.ensures.reads.same_sizes c.recovered.ensures c.seats.ensures linux in
    rw (failed.1, failed.2) (not_wished _ _ _ _ c.read_group.ensures.reads _ c.in_ok-group.ensures.read _ c.in_err-change.field-0.0 same c.in_err-change.ensures)

pub write_changes-requires-clause-from : goal.write_changes-requires-clause-from
write_changes-requires-clause-from g c =
    read_still (g.B.Bay.disks c.args.bay.now) (g.B.Bay.disks c.read_group.new.bay) c.read_group.ensures.reads.same_sizes c.read_group.ensures.reads.same_held g.B.Bay.tells c.in_ok-group.group c.in_ok-group.ensures.from

pub write_changes-requires-clause-asked : goal.write_changes-requires-clause-asked
write_changes-requires-clause-asked g c =
    let seats = c.seats.result.now in
    let old = g.B.Bay.disks c.args.bay.now in
    let group = c.in_ok-group.group in
    let read = c.in_ok-group.ensures.read in
    let small = group_small old.sizes read.newest c.args.named group (group_read (work_of g.B.Bay.tells old (g.B.Bay.disks c.read_group.new.bay)) c.args.named group read) c.in_ok-group.ensures.from.under in
    rw c.listed.ensures
    (request_asked seats c.recovered.result.now c.as_slice.result.now c.args.stamp.now (rw c.seats.ensures small) c.slots.result c.args.wish.now c.in_ok-change.change c.requires c.have_byte_codes.ensures c.in_ok-change.ensures)

pub write_changes-requires-clause-one : goal.write_changes-requires-clause-one
write_changes-requires-clause-one g c = rw c.listed.ensures (one_at_most c.in_ok-change.change)

pub returns-clause-changed : goal.returns-clause-changed
returns-clause-changed g c =
    let linux : c.as_slice.result.now ≡ linux_members c.in_ok-group.group = c.as_slice.ensures.value ∙ c.in_ok-linux.ensures in
    let same = linux_asked (λ slots config seats linux. request_of slots config seats linux c.args.stamp.now c.args.wish.now)
    c.slots.ensures.slots c.read_group.ensures.reads.same_sizes c.recovered.ensures c.seats.ensures linux in
    let read = c.read_group.ensures in
    let written = c.write_changes.ensures in
    has_wished _ _ _ _ read.reads read.reads_rise read.writes_rise _ _ _ _ _ _ c.in_ok-group.ensures.read (same ∙ ap at_most_one c.in_ok-change.ensures) (record {
      changed = rw (c.listed.ensures, c.timestamp.ensures) at written.changed;
      beside = written.beside;
      leaves = rw (c.listed.ensures, c.timestamp.ensures) at written.leaves;
      keeps = rw (c.listed.ensures, c.timestamp.ensures) at written.keeps;
      same_reads = written.reads;
      calls = written.calls;
      costs = rw (c.listed.ensures, c.timestamp.ensures) at written.costs;
      writes_rise = written.writes_rise;
      unfailed = written.unfailed;
    })

pub request-requires : goal.request-requires
request-requires g c = wish_is c.args.wish.now c.requires
