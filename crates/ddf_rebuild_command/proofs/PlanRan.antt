-- A rebuild that was planned of a group, readied and run.
use Rattle.std.proofs.Common.{◌≡◌, ℕ, ◌≤◌, List, [], ◌+◌, ◌++◌, map, Option, None, Some, Result, Ok, refl, ap, subst, sym, ◌∙◌, inl, inr}
use Rattle.std.specs.Prelude.{option_to_list, slice_get}
use Rattle.ddf_lemmas.proofs.Options.{ok_is}
use Rattle.ddf_bay.specs.ReadsOnly.{ReadsOnly}
use Rattle.ddf_bay.specs.Sectors.{Image}
use Rattle.ddf_bay.specs.State.{BayState}
use Rattle.ddf_config.specs.Seats.{SeatsFit}
use Rattle.ddf_repair.specs.declared.first.Target.{Target}
use Rattle.ddf_array.specs.Volume.{Volume}
use Rattle.ddf_array.specs.declared.part.Part.{Part}
use Rattle.ddf_cells.specs.Writing.{AsksFor}
use Rattle.ddf_update.specs.Prepared.{all_sectors}
use Rattle.ddf_recovery.specs.Committed.{WasReadied, recovery_updates}
use Rattle.ddf_seats.specs.Group.{GroupValue}
use Rattle.ddf_steps.specs.Ready.{ReadyStep}
use Rattle.ddf_recovery.specs.Ready.{ReadyValue, all_ready}
use Rattle.ddf_recovery.specs.Recovery.{config_recovered}
use Rattle.ddf_seats.specs.Seated.{seated}
use Rattle.ddf_steps.specs.Steps.{Step}
use Rattle.ddf_history_steps.specs.BlockFloors.{AreFloored}
use Rattle.ddf_answer.specs.Call.{work_of}
use Rattle.ddf_answer.specs.declared.failure.Failure.{Failure}
use Rattle.ddf_answer.specs.Costs.{WritesAtMost}
use Rattle.ddf_answer.proofs.Costs.{writes_most}
use Rattle.ddf_group_commands.specs.Change.{steps_of as steps_asked, steps_or}
use Rattle.ddf_group_commands.specs.Costs.{CostsOfAsked, ready_sectors, steps_sectors}
use Rattle.ddf_group_commands.specs.GroupRead.{IsReadFrom}
use Rattle.ddf_group_commands.specs.Requests.{linux_members}
use Rattle.ddf_group_commands.proofs.Costs.{readied_costs, ready_count, recovery_within}
use Rattle.ddf_group_commands.proofs.StepsWritten.{steps_in}
use Rattle.ddf_write_commands.specs.Opened.{AreMembers}
use Rattle.ddf_rebuild_command.specs.declared.planning.Filling.{Filling}
use Rattle.ddf_rebuild_command.specs.declared.planning.Plan.{Plan}
use Rattle.ddf_rebuild_command.specs.Asked.{changes_behind, rebuild_request, rows_in}
use Rattle.ddf_rebuild_command.specs.Costs.{CostsOf, sectors_from}
use Rattle.ddf_rebuild_command.specs.Filled.{CanFill}
use Rattle.ddf_rebuild_command.specs.Opened.{CanOpen}
use Rattle.ddf_rebuild_command.specs.PassedOver.{passed_over}
use Rattle.ddf_rebuild_command.specs.Planned.{first_row}
use Rattle.ddf_rebuild_command.specs.Plans.{IsFillingIn, IsFillingOf, IsPlanOf, begun_config}
use Rattle.ddf_rebuild_command.specs.Rounds.{steps_of}
use Rattle.ddf_rebuild_command.specs.Run.{AsksInRun, CanFillBehind, IsRun}
use Rattle.ddf_rebuild_command.specs.Standing.{recovery_in}
use Rattle.ddf_rebuild_command.proofs.Costs.{most_since}
use Rattle.ddf_rebuild_command.proofs.PlanFits.{IsPlannedFor}
use Rattle.ddf_rebuild_command.proofs.PlanKept as plans
use Rattle.ddf_rebuild_command.proofs.Ran.{ran_filling, ran_idle}
use Rattle.ddf_rebuild_command.proofs.Recovery.{alone}
use Rattle.ddf_rebuild_command.proofs.RunCame.{HasRun}

module _ (found : GroupValue) (word : List ℕ) (plan : Plan) (timestamp : ℕ) (is : IsPlanOf (config_recovered found) found.seats (linux_members found) word plan) (members : AreMembers (config_recovered found) found.seats)
    (ready : ReadyValue) (was : WasReadied found plan.changes timestamp ready) where
  planned : (filling : Filling) → plan.filling ≡ Some filling → IsPlannedFor found timestamp word filling ready
  planned filling e = plans.planned found word plan timestamp is members ready was filling e

  -- the steps, where none is left behind the recovery
  recovery_asked : ready.steps ≡ [] → steps_asked found timestamp (rebuild_request word (linux_members found)) ≡ Ok (recovery_in ready.recovery)
  recovery_asked none =
      plans.steps_are found word plan timestamp is ∙ ap steps_or was.is_readied
      ∙ ap (λ (steps : List ReadyStep). Ok (map (λ (one : ReadyStep). one.step) (option_to_list ready.recovery ++ steps))) none ∙ ap (λ (steps : List Step). Ok steps) (alone ready.recovery)

  module _ (sizes : List ℕ) (fit : SeatsFit sizes found.seats) where
    can_fill : (filling : Filling) (e : plan.filling ≡ Some filling)
        → CanFill sizes found.seats filling.view filling.target (rows_in (planned filling e).planned.entry.1 (planned filling e).planned.target.element) filling.from filling.rows
    can_fill filling e =
        let fills : IsFillingOf (config_recovered found) found.seats (passed_over (linux_members found) is.entry.1) is.entry plan.changes filling = subst (IsFillingIn (config_recovered found) found.seats (passed_over (linux_members found) is.entry.1) is.entry plan.changes) e is.fills in
        let for = planned filling e in
        record {
          config = begun_config (config_recovered found) fills.before;
          guid = is.entry.0;
          is_view = fills.is_view;
          fit = fit;
          apart = for.apart;
          unmarked = fills.unmarked;
          is_within = for.is_within;
          is_out = fills.is_out;
          rise = for.rise;
          ends = for.ends;
        }

    -- What is planned can be filled behind the first steps.
    pub can_fill_behind : (filling : Filling) → plan.filling ≡ Some filling → CanFillBehind sizes found filling ready
    can_fill_behind filling e = record {
      end = rows_in (planned filling e).planned.entry.1 (planned filling e).planned.target.element;
      can_fill = can_fill filling e;
      many = (planned filling e).many;
    }

  -- The group can be recovered, and each step be written.
  pub can_open : {D : Type 0} (tells : Type 0) (start : BayState D) → IsReadFrom tells start found → AreFloored (seated found) → CanOpen tells start found ready
  can_open tells start from floored = record {
    from = from;
    changes = plan.changes;
    timestamp = timestamp;
    was = was;
    can_be_asked = plans.can_be_asked found word plan timestamp is;
    members = members;
    floored = floored;
    keep_seats = plans.keep_seats found word plan timestamp is members ready was;
  }

  module _ {B : Type 0} (disks : B → BayState B) (tells : Type 0) (entry start new : BayState B) (reads : ReadsOnly entry start) (reads_rise : (slot : ℕ) → entry.failed_reads slot ≤ start.failed_reads slot)
      (writes_rise : (slot : ℕ) → entry.failed_writes slot ≤ start.failed_writes slot) (told_since : (t : ℕ) (image : Image) → new.left_since t image → new.tells_left)
      (from : IsReadFrom tells start found) where
    fit : SeatsFit entry.sizes found.seats
    fit = subst (λ (sizes : List ℕ). SeatsFit sizes found.seats) reads.same_sizes from.seats

    ran_by : (filling : Option Filling) → plan.filling ≡ filling → (outcome : Result ℕ Failure) → IsRun disks tells start new found ready filling outcome → HasRun tells entry start new found timestamp word outcome
    ran_by None e outcome run =
        let idle = plans.idle found word plan timestamp is members ready was e in
        ran_idle disks tells entry start new reads reads_rise writes_rise told_since found timestamp word fit ready idle.0 (recovery_asked idle.1) outcome run
    ran_by (Some filling) e outcome run =
        ran_filling disks tells entry start new reads reads_rise writes_rise told_since found timestamp word fit ready filling (planned filling e) (can_fill start.sizes from.seats filling e) outcome run

    -- What the run comes to.
    pub ran : (outcome : Result ℕ Failure) → IsRun disks tells start new found ready plan.filling outcome → HasRun tells entry start new found timestamp word outcome
    ran outcome run = ran_by plan.filling refl outcome run

  -- What the run costs since the entry of its call.
  module _ {D : Type 0} (tells : Type 0) (entry start new : BayState D) (reads : ReadsOnly entry start) where
    abbrev AsksFrom : Volume → Target → ℕ → Type 0
    AsksFrom volume target from = (part : Part) → slice_get volume.parts target.element ≡ Some part → AsksFor start new (ready_sectors (all_ready ready) + sectors_from part.shape from)

    costs_by : (filling : Option Filling) → plan.filling ≡ filling → AsksInRun start new ready filling → CostsOf (work_of tells entry new) timestamp word (Ok found)
    costs_by None e asks = inr (inl (record {
      idle = (plans.idle found word plan timestamp is members ready was e).0;
      most = subst (λ (asked : Result (List Step) Failure). CostsOfAsked (work_of tells entry new) asked) (sym (plans.steps_are found word plan timestamp is))
          (readied_costs found plan.changes timestamp ready was (work_of tells entry new)
          (writes_most (ready_sectors (all_ready ready)) (recovery_within ready.recovery ready.steps) (most_since tells entry start new reads (all_sectors (recovery_updates ready)) asks)));
    }))
    costs_by (Some filling) e asks =
        let for = planned filling e in
        let fills = for.planned in
        let part = fills.is_out.part in
        let asks_plan : AsksFrom fills.volume fills.target (first_row fills) =
        subst (λ (volume : Volume). AsksFrom volume fills.target (first_row fills)) (sym for.volume_is)
        (subst (λ (target : Target). AsksFrom filling.view target (first_row fills)) (sym for.target_is)
        (subst (λ (from : ℕ). AsksFrom filling.view filling.target from) (sym for.from_is) asks)) in
        let rows = sectors_from part.shape (first_row fills) in
        let same : steps_in (all_ready ready) ≡ fills.first ++ steps_of fills.rounds = ok_is (sym for.was.is_readied ∙ fills.are_readied) in
        let count = ready_count found (fills.before ++ changes_behind fills.entry fills.target fills.kept) timestamp ready for.was ∙ ap steps_sectors same in
        inr (inr (record {
          plan = fills;
          most = subst (λ (n : ℕ). WritesAtMost (work_of tells entry new) (n + rows)) count
              (most_since tells entry start new reads (ready_sectors (all_ready ready) + rows) (asks_plan part fills.is_out.is_target.is_part));
        }))

    pub costs : AsksInRun start new ready plan.filling → CostsOf (work_of tells entry new) timestamp word (Ok found)
    costs asks = costs_by plan.filling refl asks
