use Rattle.std.proofs.Common.{◌∙◌, ℕ, List, Ok, subst, sym}
use Rattle.std.proofs.lemmas.Result.{err_from_is_err_and}
use Rattle.std.specs.List.{AllByRecursion}
use Rattle.ddf_bytes.specs.Stamps.{timestamp_of}
use Rattle.ddf_plan.specs.declared.change.Change.{Change}
use Rattle.ddf_steps.specs.Asked.{CanBeAsked}
use Rattle.ddf_recovery.specs.Committed.{WasReadied}
use Rattle.ddf_recovery.specs.Ready.{readied}
use Rattle.ddf_history_steps.proofs.Floored.{group_floored}
use Rattle.ddf_answer.specs.Call.{work_of}
use Rattle.ddf_group_commands.proofs.Outcomes.{group_read, read_still}
use Rattle.ddf_write_commands.specs.Plans.{IsNotReadied}
use Rattle.ddf_write_commands.proofs.Staying.{current_recovered}
use Rattle.ddf_rebuild_command.specs.Costs.{CostsOf}
use Rattle.ddf_rebuild_command.proofs.FillRan.{run_goes}
use Rattle.ddf_rebuild_command.proofs.PlanKept.{can_be_asked, steps_are}
use Rattle.ddf_rebuild_command.proofs.PlanRan.{can_fill_behind, can_open, costs, ran}
use Rattle.ddf_rebuild_command.proofs.RunCame.{HasRun, come, none_come, not_planned, not_ready, unwritten_come}
use Rattle.ddf_rebuild_command.proofs.SeatsThere.{have_seats}
use Rattle.ddf_rebuild_command.proofs.rebuilding.rebuilt.Goals as goal

pub returns-in_err-group-clause-rebuilt : goal.returns-in_err-group-clause-rebuilt
returns-in_err-group-clause-rebuilt g c =
    let failed = err_from_is_err_and c.from_residual.result c.from_residual.ensures.1 in
    let work = work_of g.B.Bay.tells (g.B.Bay.disks c.args.bay.now) (g.B.Bay.disks c.read_group.new.bay) in
    rw (failed.1, failed.2) (none_come work c.args.named (timestamp_of c.args.stamp.now) c.args.name.now c.read_group.ensures.reads c.in_err-group.field-0.0 c.in_err-group.ensures.read)

pub plan_rebuild-requires : goal.plan_rebuild-requires
plan_rebuild-requires g c =
    let work = work_of g.B.Bay.tells (g.B.Bay.disks c.args.bay.now) (g.B.Bay.disks c.read_group.new.bay) in
    let read = c.in_ok-group.ensures.read in
    have_seats read.newest c.args.named c.in_ok-group.group (group_read work c.args.named c.in_ok-group.group read)

pub returns-in_err-plan-clause-rebuilt : goal.returns-in_err-plan-clause-rebuilt
returns-in_err-plan-clause-rebuilt g c =
    let failed = err_from_is_err_and c.from_residual-in_err-plan.result c.from_residual-in_err-plan.ensures.1 in
    let work = work_of g.B.Bay.tells (g.B.Bay.disks c.args.bay.now) (g.B.Bay.disks c.read_group.new.bay) in
    let timestamp = timestamp_of c.args.stamp.now in
    rw (failed.1, failed.2)
    (unwritten_come work c.args.named timestamp c.args.name.now c.read_group.ensures.reads c.in_ok-group.group c.in_err-plan.field-0.0 c.in_ok-group.ensures.read
    (not_planned work c.args.named timestamp c.args.name.now c.read_group.ensures.reads c.in_ok-group.group c.in_err-plan.field-0.0 c.in_err-plan.ensures))

pub ready_steps-requires-clause-asked : goal.ready_steps-requires-clause-asked
ready_steps-requires-clause-asked g c =
    subst (λ (changes : List Change). AllByRecursion CanBeAsked changes) (sym c.items.ensures)
    (can_be_asked c.in_ok-group.group c.args.name.now c.in_ok-plan.plan c.timestamp-timestamp.result c.in_ok-plan.ensures)

pub returns-in_err-ready-clause-rebuilt : goal.returns-in_err-ready-clause-rebuilt
returns-in_err-ready-clause-rebuilt g c =
    let failed = err_from_is_err_and c.from_residual-in_err-ready.result c.from_residual-in_err-ready.ensures.1 in
    let work = work_of g.B.Bay.tells (g.B.Bay.disks c.args.bay.now) (g.B.Bay.disks c.read_group.new.bay) in
    let timestamp = timestamp_of c.args.stamp.now in
    rw (failed.1, failed.2)
    (unwritten_come work c.args.named timestamp c.args.name.now c.read_group.ensures.reads c.in_ok-group.group c.in_err-ready.field-0.0 c.in_ok-group.ensures.read
    (not_ready work c.args.named timestamp c.args.name.now c.read_group.ensures.reads c.in_ok-group.group c.in_err-ready.field-0.0 (readied c.in_ok-group.group c.in_ok-plan.plan.changes timestamp)
    (steps_are c.in_ok-group.group c.args.name.now c.in_ok-plan.plan timestamp c.in_ok-plan.ensures)
    (subst (λ (changes : List Change). IsNotReadied (readied c.in_ok-group.group changes timestamp) c.in_err-ready.field-0.0) c.items.ensures
    (rw c.timestamp-timestamp.ensures at c.in_err-ready.ensures.refused))))

pub rebuild_array-requires-clause-open : goal.rebuild_array-requires-clause-open
rebuild_array-requires-clause-open g c =
    let old = g.B.Bay.disks c.args.bay.now in
    let start = g.B.Bay.disks c.read_group.new.bay in
    let group = c.in_ok-group.group in
    let read = c.in_ok-group.ensures.read in
    let found = group_read (work_of g.B.Bay.tells old start) c.args.named group read in
    let was : WasReadied group c.in_ok-plan.plan.changes c.timestamp-timestamp.result c.in_ok-ready.ready =
    subst (λ (changes : List Change). WasReadied group changes c.timestamp-timestamp.result c.in_ok-ready.ready) c.items.ensures c.in_ok-ready.ensures.was in
    can_open group c.args.name.now c.in_ok-plan.plan c.timestamp-timestamp.result c.in_ok-plan.ensures (current_recovered read.newest c.args.named group found c.in_ok-group.ensures.from.assembled)
    c.in_ok-ready.ready was g.B.Bay.tells start
    (read_still old start c.read_group.ensures.reads.same_sizes c.read_group.ensures.reads.same_held g.B.Bay.tells group c.in_ok-group.ensures.from) (group_floored read.newest c.args.named group found)

pub rebuild_array-requires-clause-fills : goal.rebuild_array-requires-clause-fills
rebuild_array-requires-clause-fills g c =
    let old = g.B.Bay.disks c.args.bay.now in
    let start = g.B.Bay.disks c.read_group.new.bay in
    let group = c.in_ok-group.group in
    let read = c.in_ok-group.ensures.read in
    let found = group_read (work_of g.B.Bay.tells old start) c.args.named group read in
    let from = read_still old start c.read_group.ensures.reads.same_sizes c.read_group.ensures.reads.same_held g.B.Bay.tells group c.in_ok-group.ensures.from in
    let was : WasReadied group c.in_ok-plan.plan.changes c.timestamp-timestamp.result c.in_ok-ready.ready =
    subst (λ (changes : List Change). WasReadied group changes c.timestamp-timestamp.result c.in_ok-ready.ready) c.items.ensures c.in_ok-ready.ensures.was in
    can_fill_behind group c.args.name.now c.in_ok-plan.plan c.timestamp-timestamp.result c.in_ok-plan.ensures (current_recovered read.newest c.args.named group found c.in_ok-group.ensures.from.assembled)
    c.in_ok-ready.ready was start.sizes from.seats

pub returns-clause-rebuilt : goal.returns-clause-rebuilt
returns-clause-rebuilt g c =
    let old = g.B.Bay.disks c.args.bay.now in
    let start = g.B.Bay.disks c.read_group.new.bay in
    let new = g.B.Bay.disks c.rebuild_array.new.bay in
    let word = c.args.name.now in
    let group = c.in_ok-group.group in
    let timestamp = timestamp_of c.args.stamp.now in
    let read = c.in_ok-group.ensures.read in
    let found = group_read (work_of g.B.Bay.tells old start) c.args.named group read in
    let from = read_still old start c.read_group.ensures.reads.same_sizes c.read_group.ensures.reads.same_held g.B.Bay.tells group c.in_ok-group.ensures.from in
    let was : WasReadied group c.in_ok-plan.plan.changes c.timestamp-timestamp.result c.in_ok-ready.ready =
    subst (λ (changes : List Change). WasReadied group changes c.timestamp-timestamp.result c.in_ok-ready.ready) c.items.ensures c.in_ok-ready.ensures.was in
    let has : HasRun g.B.Bay.tells old start new group timestamp word c.rebuild_array.result =
    subst (λ (n : ℕ). HasRun g.B.Bay.tells old start new group n word c.rebuild_array.result) c.timestamp-timestamp.ensures
    (ran group word c.in_ok-plan.plan c.timestamp-timestamp.result c.in_ok-plan.ensures (current_recovered read.newest c.args.named group found c.in_ok-group.ensures.from.assembled) c.in_ok-ready.ready
    was g.B.Bay.disks g.B.Bay.tells old start new c.read_group.ensures.reads c.read_group.ensures.reads_rise c.read_group.ensures.writes_rise
    ((g.met.B.Bay.told c.rebuild_array.new.bay).since) from c.rebuild_array.result c.rebuild_array.ensures.run) in
    let paid : CostsOf (work_of g.B.Bay.tells old new) timestamp word (Ok group) =
    subst (λ (n : ℕ). CostsOf (work_of g.B.Bay.tells old new) n word (Ok group)) c.timestamp-timestamp.ensures
    (costs group word c.in_ok-plan.plan c.timestamp-timestamp.result c.in_ok-plan.ensures (current_recovered read.newest c.args.named group found c.in_ok-group.ensures.from.assembled) c.in_ok-ready.ready
    was g.B.Bay.tells old start new c.read_group.ensures.reads c.rebuild_array.ensures.asks) in
    come g.B.Bay.tells old start new c.read_group.ensures.reads c.read_group.ensures.reads_rise c.read_group.ensures.writes_rise c.args.named timestamp word group c.rebuild_array.result read has paid c.rebuild_array.ensures.unfailed

pub returns-clause-goes_on : goal.returns-clause-goes_on
returns-clause-goes_on g c = λ bay leads.
    let goes = run_goes g.B.Bay.disks g.B.Bay.tells (g.B.Bay.disks c.read_group.new.bay) (g.B.Bay.disks c.rebuild_array.new.bay) c.in_ok-group.group c.in_ok-ready.ready c.in_ok-plan.plan.filling
    c.rebuild_array.result c.rebuild_array.ensures.run in
    c.read_group.ensures.reads.goes_on bay (goes.goes_on bay leads)

pub returns-clause-same_sizes : goal.returns-clause-same_sizes
returns-clause-same_sizes g c =
    let goes = run_goes g.B.Bay.disks g.B.Bay.tells (g.B.Bay.disks c.read_group.new.bay) (g.B.Bay.disks c.rebuild_array.new.bay) c.in_ok-group.group c.in_ok-ready.ready c.in_ok-plan.plan.filling
    c.rebuild_array.result c.rebuild_array.ensures.run in
    goes.same_sizes ∙ c.read_group.ensures.reads.same_sizes
