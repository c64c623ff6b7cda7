use Rattle.std.proofs.Common.{◌∙◌, ℕ, Err, refl, subst, sym, arith}
use Rattle.std.proofs.lemmas.Result.{err_from_is_err_and}
use Rattle.ddf_lemmas.proofs.Options.{ok_is}
use Rattle.ddf_bytes.specs.Stamps.{timestamp_of}
use Rattle.ddf_seats.specs.Group.{GroupValue}
use Rattle.ddf_recovery.specs.Ready.{readied}
use Rattle.ddf_history_steps.proofs.Floored.{group_floored}
use Rattle.ddf_answer.specs.Call.{work_of}
use Rattle.ddf_group_commands.proofs.Outcomes.{asked_of, group_read, read_still}
use Rattle.ddf_write_commands.specs.Resync.{SparesWhatAgrees, resync_behind, resync_refusals, resync_request, resyncing}
use Rattle.ddf_write_commands.proofs.Costs.{plan_costs}
use Rattle.ddf_write_commands.proofs.PlanKept.{planned, steps_are}
use Rattle.ddf_write_commands.proofs.ResyncArray.{has_resynced}
use Rattle.ddf_write_commands.proofs.ResyncWorks.{resync_steady}
use Rattle.ddf_write_commands.proofs.Since.{HasDoneArray, come_since, found_since, none_come, not_planned, not_ready, unwritten_come}
use Rattle.ddf_write_commands.proofs.Sparing.{spares_since, spares_unwritten}
use Rattle.ddf_write_commands.proofs.Staying.{current_recovered}
use Rattle.ddf_write_commands.proofs.resyncing.resynced.Goals as goal

pub returns-in_err-group-clause-resynced : goal.returns-in_err-group-clause-resynced
returns-in_err-group-clause-resynced g c =
    let failed = err_from_is_err_and c.from_residual.result c.from_residual.ensures.1 in
    let work = work_of g.B.Bay.tells (g.B.Bay.disks c.args.bay.now) (g.B.Bay.disks c.read_group.new.bay) in
    rw (failed.1, failed.2)
    (has_resynced work c.args.named (timestamp_of c.args.stamp.now) c.args.name.now (Err c.in_err-group.field-0.0)
    (none_come resyncing work c.args.named (timestamp_of c.args.stamp.now) c.args.name.now (resync_request c.args.name.now) c.read_group.ensures.reads c.in_err-group.field-0.0 c.in_err-group.ensures.read)
    (λ told found is. spares_unwritten work found (timestamp_of c.args.stamp.now) c.args.name.now c.read_group.ensures.reads))

pub returns-in_err-plan-clause-resynced : goal.returns-in_err-plan-clause-resynced
returns-in_err-plan-clause-resynced g c =
    let failed = err_from_is_err_and c.from_residual-in_err-plan.result c.from_residual-in_err-plan.ensures.1 in
    let work = work_of g.B.Bay.tells (g.B.Bay.disks c.args.bay.now) (g.B.Bay.disks c.read_group.new.bay) in
    let request = resync_request c.args.name.now in
    rw (failed.1, failed.2)
    (has_resynced work c.args.named (timestamp_of c.args.stamp.now) c.args.name.now (Err c.in_err-plan.field-0.0)
    (unwritten_come resyncing work c.args.named (timestamp_of c.args.stamp.now) c.args.name.now request c.read_group.ensures.reads c.in_ok-group.group c.in_err-plan.field-0.0 c.in_ok-group.ensures.read
    (not_planned resyncing work c.args.named (timestamp_of c.args.stamp.now) c.args.name.now request c.read_group.ensures.reads resync_refusals resync_behind c.in_ok-group.group c.in_err-plan.field-0.0 refl
    c.in_err-plan.ensures))
    (λ told found is. spares_unwritten work found (timestamp_of c.args.stamp.now) c.args.name.now c.read_group.ensures.reads))

pub returns-in_err-ready-clause-resynced : goal.returns-in_err-ready-clause-resynced
returns-in_err-ready-clause-resynced g c =
    let failed = err_from_is_err_and c.from_residual-in_err-ready.result c.from_residual-in_err-ready.ensures.1 in
    let work = work_of g.B.Bay.tells (g.B.Bay.disks c.args.bay.now) (g.B.Bay.disks c.read_group.new.bay) in
    let request = resync_request c.args.name.now in
    let timestamp = timestamp_of c.args.stamp.now in
    rw (failed.1, failed.2)
    (has_resynced work c.args.named timestamp c.args.name.now (Err c.in_err-ready.field-0.0)
    (unwritten_come resyncing work c.args.named timestamp c.args.name.now request c.read_group.ensures.reads c.in_ok-group.group c.in_err-ready.field-0.0 c.in_ok-group.ensures.read
    (not_ready resyncing work c.args.named timestamp c.args.name.now request c.read_group.ensures.reads c.in_ok-group.group c.in_err-ready.field-0.0 (readied c.in_ok-group.group c.in_ok-plan.plan.changes timestamp)
    (steps_are c.in_ok-group.group resync_refusals resync_behind c.args.name.now c.in_ok-plan.plan timestamp c.in_ok-plan.ensures (omega arith))
    (rw c.timestamp-timestamp.ensures at c.in_err-ready.ensures.refused)))
    (λ told found is. spares_unwritten work found timestamp c.args.name.now c.read_group.ensures.reads))

pub resync_array-requires-clause-from : goal.resync_array-requires-clause-from
resync_array-requires-clause-from g c =
    read_still (g.B.Bay.disks c.args.bay.now) (g.B.Bay.disks c.read_group.new.bay) c.read_group.ensures.reads.same_sizes c.read_group.ensures.reads.same_held g.B.Bay.tells c.in_ok-group.group c.in_ok-group.ensures.from

pub resync_array-requires-clause-members : goal.resync_array-requires-clause-members
resync_array-requires-clause-members g c = λ place seat at.
    let work = work_of g.B.Bay.tells (g.B.Bay.disks c.args.bay.now) (g.B.Bay.disks c.read_group.new.bay) in
    let read = c.in_ok-group.ensures.read in
    current_recovered read.newest c.args.named c.in_ok-group.group (group_read work c.args.named c.in_ok-group.group read) c.in_ok-group.ensures.from.assembled place seat at

pub resync_array-requires-clause-floored : goal.resync_array-requires-clause-floored
resync_array-requires-clause-floored g c =
    let work = work_of g.B.Bay.tells (g.B.Bay.disks c.args.bay.now) (g.B.Bay.disks c.read_group.new.bay) in
    let read = c.in_ok-group.ensures.read in
    group_floored read.newest c.args.named c.in_ok-group.group (group_read work c.args.named c.in_ok-group.group read)

pub returns-clause-resynced : goal.returns-clause-resynced
returns-clause-resynced g c =
    let old = g.B.Bay.disks c.args.bay.now in
    let middle = g.B.Bay.disks c.read_group.new.bay in
    let new = g.B.Bay.disks c.resync_array.new.bay in
    let word = c.args.name.now in
    let group = c.in_ok-group.group in
    let plan = c.in_ok-plan.plan in
    let timestamp = timestamp_of c.args.stamp.now in
    let array = c.resync_array.ensures.done in
    let done : HasDoneArray resyncing g.B.Bay.tells middle new group timestamp word (resync_request word) c.resync_array.result =
    subst (λ (n : ℕ). HasDoneArray resyncing g.B.Bay.tells middle new group n word (resync_request word) c.resync_array.result) c.timestamp-timestamp.ensures (record {
      worked = array.worked word c.in_ok-plan.ensures;
      leaves = λ told. array.leaves told word c.in_ok-plan.ensures;
      beside = array.beside;
      keeps = λ told left named by steps asked.
          array.keeps told left named by steps
          (asked_of (readied group plan.changes c.timestamp-timestamp.result) steps (sym (steps_are group resync_refusals resync_behind word plan c.timestamp-timestamp.result c.in_ok-plan.ensures (omega arith)) ∙ asked));
      along = λ told left named by. array.along told left named by word c.in_ok-plan.ensures;
      unfailed = c.resync_array.ensures.unfailed;
      goes = c.resync_array.ensures.goes;
      costs = plan_costs resyncing (work_of g.B.Bay.tells middle new) group resync_refusals resync_behind word plan c.timestamp-timestamp.result c.in_ok-plan.ensures (omega arith)
          (planned group resync_refusals resync_behind word plan c.timestamp-timestamp.result c.in_ok-plan.ensures (omega arith) c.in_ok-ready.ready c.in_ok-ready.ensures.was) array.costs;
    }) in
    let spares : g.B.Bay.tells → SparesWhatAgrees (work_of g.B.Bay.tells old new) group timestamp word =
    λ told. subst (λ (n : ℕ). SparesWhatAgrees (work_of g.B.Bay.tells old new) group n word) c.timestamp-timestamp.ensures
    (spares_since g.B.Bay.tells old middle new c.read_group.ensures.reads c.read_group.ensures.reads_rise group c.timestamp-timestamp.result word (array.spares told word c.in_ok-plan.ensures)) in
    has_resynced (work_of g.B.Bay.tells old new) c.args.named timestamp word c.resync_array.result
    (come_since g.B.Bay.tells resyncing resync_steady old middle new c.read_group.ensures.reads c.read_group.ensures.reads_rise c.read_group.ensures.writes_rise c.args.named timestamp word (resync_request word) group
    c.in_ok-group.ensures.read c.resync_array.result done)
    (λ told found is.
    subst (λ (one : GroupValue). SparesWhatAgrees (work_of g.B.Bay.tells old new) one timestamp word)
    (ok_is (sym (found_since g.B.Bay.tells resyncing resync_steady old middle new c.read_group.ensures.reads c.read_group.ensures.reads_rise c.read_group.ensures.writes_rise c.args.named timestamp word (resync_request word) group
    c.in_ok-group.ensures.read c.resync_array.result done) ∙ is))
    (spares told))
