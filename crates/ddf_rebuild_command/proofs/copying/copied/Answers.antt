use Rattle.std.proofs.Common.{◌∙◌, ℕ, List, ◌∷◌, [], length, Ok, Err, ap, subst, sym}
use Rattle.std.proofs.lemmas.Result.{err_from_is_err_and}
use Rattle.ddf_bytes.specs.Stamps.{timestamp_of}
use Rattle.std.specs.List.{AllByRecursion}
use Rattle.ddf_config.specs.Seats.{SeatsFit}
use Rattle.ddf_plan.specs.declared.change.Change.{Change}
use Rattle.ddf_steps.specs.Asked.{CanBeAsked}
use Rattle.ddf_recovery.specs.Committed.{WasReadied}
use Rattle.ddf_recovery.specs.Ready.{readied}
use Rattle.ddf_history_steps.proofs.Floored.{group_floored}
use Rattle.ddf_answer.specs.Call.{work_of}
use Rattle.ddf_group_commands.proofs.Outcomes.{group_read, read_still}
use Rattle.ddf_write_commands.proofs.Staying.{current_recovered}
use Rattle.ddf_recovery.specs.Recovery.{config_recovered}
use Rattle.ddf_group_commands.specs.Requests.{linux_members}
use Rattle.ddf_rebuild_command.specs.BackPlans.{IsBackPlanOf, MayGoBack}
use Rattle.ddf_rebuild_command.specs.CopiedBack.{CostsOfGoingBack}
use Rattle.ddf_rebuild_command.proofs.BackCame.{HasRunBack, come_back, none_back, not_planned_back, not_ready_back, unwritten_back}
use Rattle.ddf_rebuild_command.proofs.BackDone.{back_ran}
use Rattle.ddf_rebuild_command.proofs.BackRan.{back_goes}
use Rattle.ddf_rebuild_command.proofs.PlanBack.{asked, back_for, back_opens, can_be_asked, can_copy, costs_back}
use Rattle.ddf_rebuild_command.proofs.SeatsThere.{have_seats}
use Rattle.ddf_rebuild_command.proofs.copying.copied.Goals as goal

pub returns-in_err-group-clause-copied : goal.returns-in_err-group-clause-copied
returns-in_err-group-clause-copied g c =
    let failed = err_from_is_err_and c.from_residual.result c.from_residual.ensures.1 in
    let work = work_of g.B.Bay.tells (g.B.Bay.disks c.args.bay.now) (g.B.Bay.disks c.read_group.new.bay) in
    rw (failed.1, failed.2) (none_back work c.args.named (timestamp_of c.args.stamp.now) c.args.name.now c.args.slot c.read_group.ensures.reads c.in_err-group.field-0.0 c.in_err-group.ensures.read)

pub plan_copyback-requires : goal.plan_copyback-requires
plan_copyback-requires g c =
    let work = work_of g.B.Bay.tells (g.B.Bay.disks c.args.bay.now) (g.B.Bay.disks c.read_group.new.bay) in
    let read = c.in_ok-group.ensures.read in
    have_seats read.newest c.args.named c.in_ok-group.group (group_read work c.args.named c.in_ok-group.group read)

pub returns-in_err-plan-clause-copied : goal.returns-in_err-plan-clause-copied
returns-in_err-plan-clause-copied g c =
    let failed = err_from_is_err_and c.from_residual-in_err-plan.result c.from_residual-in_err-plan.ensures.1 in
    let work = work_of g.B.Bay.tells (g.B.Bay.disks c.args.bay.now) (g.B.Bay.disks c.read_group.new.bay) in
    let timestamp = timestamp_of c.args.stamp.now in
    rw (failed.1, failed.2)
    (unwritten_back work c.args.named timestamp c.args.name.now c.args.slot c.read_group.ensures.reads c.in_ok-group.group c.in_err-plan.field-0.0 c.in_ok-group.ensures.read
    (not_planned_back work c.args.named timestamp c.args.name.now c.args.slot c.read_group.ensures.reads c.in_ok-group.group c.in_err-plan.field-0.0
    (subst (λ (n : ℕ). MayGoBack n (config_recovered c.in_ok-group.group) c.in_ok-group.group.seats (linux_members c.in_ok-group.group) c.args.name.now c.args.slot (Err c.in_err-plan.field-0.0))
    (c.slots.ensures.slots ∙ ap (λ (sizes : List ℕ). length sizes) c.read_group.ensures.reads.same_sizes) c.in_err-plan.ensures)))

pub ready_steps-requires-clause-asked : goal.ready_steps-requires-clause-asked
ready_steps-requires-clause-asked g c =
    let read = c.in_ok-group.ensures.read in
    let found = group_read (work_of g.B.Bay.tells (g.B.Bay.disks c.args.bay.now) (g.B.Bay.disks c.read_group.new.bay)) c.args.named c.in_ok-group.group read in
    subst (λ (changes : List Change). AllByRecursion CanBeAsked changes) (sym c.from_ref-changes.ensures.value)
    (can_be_asked c.in_ok-group.group c.slots.result c.args.name.now c.args.slot c.in_ok-plan.plan c.timestamp.result c.in_ok-plan.ensures
    (current_recovered read.newest c.args.named c.in_ok-group.group found c.in_ok-group.ensures.from.assembled))

pub returns-in_err-ready-clause-copied : goal.returns-in_err-ready-clause-copied
returns-in_err-ready-clause-copied g c =
    let failed = err_from_is_err_and c.from_residual-in_err-ready.result c.from_residual-in_err-ready.ensures.1 in
    let work = work_of g.B.Bay.tells (g.B.Bay.disks c.args.bay.now) (g.B.Bay.disks c.read_group.new.bay) in
    let timestamp = timestamp_of c.args.stamp.now in
    let read = c.in_ok-group.ensures.read in
    let members = current_recovered read.newest c.args.named c.in_ok-group.group (group_read work c.args.named c.in_ok-group.group read) c.in_ok-group.ensures.from.assembled in
    rw (failed.1, failed.2)
    (unwritten_back work c.args.named timestamp c.args.name.now c.args.slot c.read_group.ensures.reads c.in_ok-group.group c.in_err-ready.field-0.0 c.in_ok-group.ensures.read
    (not_ready_back work c.args.named timestamp c.args.name.now c.args.slot c.read_group.ensures.reads c.in_ok-group.group c.in_err-ready.field-0.0 (readied c.in_ok-group.group (c.in_ok-plan.plan.change ∷ []) timestamp)
    (asked c.in_ok-group.group (length (g.B.Bay.disks c.args.bay.now).sizes) c.args.name.now c.args.slot c.in_ok-plan.plan timestamp
    (subst (λ (n : ℕ). IsBackPlanOf n (config_recovered c.in_ok-group.group) c.in_ok-group.group.seats (linux_members c.in_ok-group.group) c.args.name.now c.args.slot c.in_ok-plan.plan)
    (c.slots.ensures.slots ∙ ap (λ (sizes : List ℕ). length sizes) c.read_group.ensures.reads.same_sizes) c.in_ok-plan.ensures) members)
    (rw (c.timestamp.ensures, c.from_ref-changes.ensures.value) at c.in_err-ready.ensures.refused)))

pub copy_position-requires-clause-open : goal.copy_position-requires-clause-open
copy_position-requires-clause-open g c =
    let old = g.B.Bay.disks c.args.bay.now in
    let start = g.B.Bay.disks c.read_group.new.bay in
    let group = c.in_ok-group.group in
    let read = c.in_ok-group.ensures.read in
    let found = group_read (work_of g.B.Bay.tells old start) c.args.named group read in
    back_opens group c.slots.result c.args.name.now c.args.slot c.in_ok-plan.plan c.timestamp.result c.in_ok-plan.ensures
    (current_recovered read.newest c.args.named group found c.in_ok-group.ensures.from.assembled) c.in_ok-ready.ready
    (subst (λ (changes : List Change). WasReadied group changes c.timestamp.result c.in_ok-ready.ready) c.from_ref-changes.ensures.value c.in_ok-ready.ensures.was) g.B.Bay.tells start
    (read_still old start c.read_group.ensures.reads.same_sizes c.read_group.ensures.reads.same_held g.B.Bay.tells group c.in_ok-group.ensures.from) (group_floored read.newest c.args.named group found)

pub copy_position-requires-clause-fills : goal.copy_position-requires-clause-fills
copy_position-requires-clause-fills g c =
    let old = g.B.Bay.disks c.args.bay.now in
    let start = g.B.Bay.disks c.read_group.new.bay in
    let group = c.in_ok-group.group in
    let read = c.in_ok-group.ensures.read in
    let found = group_read (work_of g.B.Bay.tells old start) c.args.named group read in
    let from = read_still old start c.read_group.ensures.reads.same_sizes c.read_group.ensures.reads.same_held g.B.Bay.tells group c.in_ok-group.ensures.from in
    can_copy group c.slots.result c.args.name.now c.args.slot c.in_ok-plan.plan c.timestamp.result c.in_ok-plan.ensures
    (current_recovered read.newest c.args.named group found c.in_ok-group.ensures.from.assembled) c.in_ok-ready.ready
    (subst (λ (changes : List Change). WasReadied group changes c.timestamp.result c.in_ok-ready.ready) c.from_ref-changes.ensures.value c.in_ok-ready.ensures.was) start.sizes c.slots.ensures.slots from.seats

pub returns-clause-copied : goal.returns-clause-copied
returns-clause-copied g c =
    let tells = g.B.Bay.tells in
    let old = g.B.Bay.disks c.args.bay.now in
    let start = g.B.Bay.disks c.read_group.new.bay in
    let new = g.B.Bay.disks c.copy_position.new.bay in
    let word = c.args.name.now in
    let group = c.in_ok-group.group in
    let plan = c.in_ok-plan.plan in
    let ready = c.in_ok-ready.ready in
    let timestamp = timestamp_of c.args.stamp.now in
    let read = c.in_ok-group.ensures.read in
    let reads = c.read_group.ensures.reads in
    let found = group_read (work_of tells old start) c.args.named group read in
    let members = current_recovered read.newest c.args.named group found c.in_ok-group.ensures.from.assembled in
    let from = read_still old start reads.same_sizes reads.same_held tells group c.in_ok-group.ensures.from in
    let was = subst (λ (changes : List Change). WasReadied group changes c.timestamp.result ready) c.from_ref-changes.ensures.value c.in_ok-ready.ensures.was in
    let counted = c.slots.ensures.slots ∙ ap (λ (sizes : List ℕ). length sizes) reads.same_sizes in
    let fit = subst (λ (sizes : List ℕ). SeatsFit sizes group.seats) reads.same_sizes from.seats in
    let has : HasRunBack tells old start new group timestamp word c.args.slot c.copy_position.result =
    subst (λ (n : ℕ). HasRunBack tells old start new group n word c.args.slot c.copy_position.result) c.timestamp.ensures
    (back_ran g.B.Bay.disks tells old start new reads c.read_group.ensures.reads_rise c.read_group.ensures.writes_rise (λ bay. (g.met.B.Bay.told bay).since)
    ((g.met.B.Bay.told c.copy_position.new.bay).since) group c.timestamp.result word c.args.slot fit plan ready
    (back_for group c.slots.result word c.args.slot plan c.timestamp.result c.in_ok-plan.ensures members ready was old.sizes counted fit) c.copy_position.result c.copy_position.ensures.run) in
    let paid : CostsOfGoingBack (work_of tells old new) timestamp word c.args.slot (Ok group) =
    subst (λ (n : ℕ). CostsOfGoingBack (work_of tells old new) n word c.args.slot (Ok group)) c.timestamp.ensures
    (costs_back group c.slots.result word c.args.slot plan c.timestamp.result c.in_ok-plan.ensures members ready was tells old start new reads counted fit c.copy_position.ensures.asks) in
    come_back tells old start new reads c.read_group.ensures.reads_rise c.read_group.ensures.writes_rise c.args.named timestamp word c.args.slot group c.copy_position.result read has paid
    c.copy_position.ensures.unfailed

pub returns-clause-goes_on : goal.returns-clause-goes_on
returns-clause-goes_on g c = λ bay leads.
    let goes = back_goes g.B.Bay.disks g.B.Bay.tells (g.B.Bay.disks c.read_group.new.bay) (g.B.Bay.disks c.copy_position.new.bay) c.in_ok-plan.plan c.in_ok-group.group c.in_ok-ready.ready
    c.copy_position.result c.copy_position.ensures.run in
    c.read_group.ensures.reads.goes_on bay (goes.goes_on bay leads)

pub returns-clause-same_sizes : goal.returns-clause-same_sizes
returns-clause-same_sizes g c =
    let goes = back_goes g.B.Bay.disks g.B.Bay.tells (g.B.Bay.disks c.read_group.new.bay) (g.B.Bay.disks c.copy_position.new.bay) c.in_ok-plan.plan c.in_ok-group.group c.in_ok-ready.ready
    c.copy_position.result c.copy_position.ensures.run in
    goes.same_sizes ∙ c.read_group.ensures.reads.same_sizes
