-- A settled group by what a command finds, asks for and writes.
use Rattle.std.proofs.Common.{◌≡◌, ℕ, suc, ◌<◌, ◌^◌, Bool, true, List, [], ◌∷◌, length, Option, Some, Result, Ok, Err, refl, ap, sym, ◌∙◌, subst}
use Rattle.std.specs.Prelude.{slice_get, slice_set}
use Rattle.std.specs.List.{AllByRecursion}
use Rattle.ddf_bay.specs.Sectors.{Image}
use Rattle.ddf_bay.specs.State.{BayState}
use Rattle.ddf_copy.specs.declared.newest_copy.Newest.{Newest}
use Rattle.ddf_config.specs.declared.refusal.Refusal.{Refusal}
use Rattle.ddf_config.specs.declared.seat.Seat.{Seat}
use Rattle.ddf_config.specs.Configuration.{Configuration}
use Rattle.ddf_plan.specs.declared.change.Change.{Change}
use Rattle.ddf_steps.specs.Asked.{CanBeAsked}
use Rattle.ddf_seats.specs.Group.{GroupValue}
use Rattle.ddf_assembly.specs.Group.{group_of}
use Rattle.ddf_recovery.specs.Ready.{readied}
use Rattle.ddf_recovery.specs.Recovery.{config_lost, lost_step}
use Rattle.ddf_assembly.specs.Settled.{IsSettledGroup}
use Rattle.ddf_assembly.specs.Slots.{newest_from, newest_or}
use Rattle.ddf_steps.specs.Steps.{Step}
use Rattle.ddf_recovery.proofs.Recovered.{config_kept}
use Rattle.ddf_group_commands.specs.Change.{Request, steps_asked, steps_of}
use Rattle.ddf_group_commands.specs.Written.{AreWritten}
use Rattle.ddf_group_commands.proofs.Outcomes.{asked_of}
use Rattle.ddf_uncut_group.specs.Settled.{AreMembers, AreSettledAs, group_behind, newest_held}
use Rattle.ddf_uncut_group.specs.Without.{group_lost, without_seat}
use Rattle.ddf_uncut_group.proofs.LostGroup.{seats_lost}
use Rattle.ddf_uncut_group.proofs.LostHeld.{held_without, lost_settled, loss_first}
use Rattle.ddf_uncut_group.proofs.LostSteps.{config_is}
use Rattle.ddf_uncut_group.proofs.StepsSettled.{steps_settled}
use Rattle.ddf_uncut_group.proofs.UnpluggedGroup.{found_without}
use Rattle.ddf_uncut_group.proofs.UnpluggedTold.{told_without}

-- ---- what is found

-- The newest copies that a call reads are those that the slots hold.
pub newest_is : {D : Type 0} (disks : BayState D) (first : ℕ) (left : List Bool) → newest_from disks first left ≡ newest_held disks.sizes disks.held first left
newest_is disks first [] = refl
newest_is disks first (out ∷ left) = ap (λ (rest : List (Option Newest)). newest_or disks first out ∷ rest) (newest_is disks (suc first) left)

-- It is found.
pub found_settled_as : {D : Type 0} (disks : BayState D) (left : List Bool) (group : GroupValue) → AreSettledAs disks.sizes disks.held left group
    → group_of (newest_from disks 0 left) (Some group.config.group) ≡ Ok group
found_settled_as disks left group settled =
    ap (λ (newest : List (Option Newest)). group_of newest (Some group.config.group)) (newest_is disks 0 left ∙ settled.are_held) ∙ settled.is_told.is_found

-- So it is without a disk.
pub found_left_as : {D : Type 0} (disks : BayState D) (left : List Bool) (group : GroupValue) (place : ℕ) (seat : Seat) → AreSettledAs disks.sizes disks.held left group
    → slice_get group.seats place ≡ Some seat → 1 < length group.seats → group_of (newest_from disks 0 (slice_set left seat.slot true)) (Some group.config.group) ≡ Ok (without_seat group seat)
found_left_as disks left group place seat settled is_seat two =
    ap (λ (newest : List (Option Newest)). group_of newest (Some group.config.group)) (newest_is disks 0 (slice_set left seat.slot true) ∙ held_without disks.sizes disks.held left group seat settled)
    ∙ found_without group settled.is_told place seat is_seat two

-- ---- what is asked

-- Changes were asked for, and these are their steps.
pub record AreAsked (group : GroupValue) (timestamp : ℕ) (asked : Result (List Change) Refusal) (steps : List Step) : Type 0 where
  pub changes : List Change
  pub are_changes : asked ≡ Ok changes
  pub are_steps : readied group changes timestamp ≡ Ok steps

asked_by : (group : GroupValue) (timestamp : ℕ) (asked : Result (List Change) Refusal) (steps : List Step) → steps_asked group timestamp asked ≡ Ok steps → AreAsked group timestamp asked steps
asked_by group timestamp (Ok changes) steps h = record { changes = changes; are_changes = refl; are_steps = asked_of (readied group changes timestamp) steps h }
asked_by group timestamp (Err refusal) steps h = absurd cc

-- Of a settled group they are asked for by its configuration.
pub asked_settled : (group : GroupValue) → IsSettledGroup group → (timestamp : ℕ) (request : Request) (steps : List Step) → steps_of group timestamp request ≡ Ok steps
    → AreAsked group timestamp (request group.config group.seats) steps
asked_settled group settled timestamp request steps h =
    asked_by group timestamp (request group.config group.seats) steps
    (sym (ap (λ (config : Configuration). steps_asked group timestamp (request config group.seats)) (config_kept group settled.none_absent settled.none_lags timestamp)) ∙ h)

-- ---- what is written

-- The disks are the group behind the steps that were asked for.
pub done_settled : (sizes : List ℕ) (old new : Image) (left : List Bool) (group : GroupValue) (timestamp : ℕ) (request : Request) (steps : List Step) → AreSettledAs sizes old left group
    → timestamp < 2 ^ 32 → steps_of group timestamp request ≡ Ok steps → ((changes : List Change) → request group.config group.seats ≡ Ok changes → AllByRecursion CanBeAsked changes)
    → AllByRecursion (λ (step : Step). AreMembers step.config group.seats) steps → AreWritten sizes old steps new → AreSettledAs sizes new left (group_behind group steps)
done_settled sizes old new left group timestamp request steps settled time is can stay written =
    let asked = asked_settled group settled.is_told.is_settled timestamp request steps is in
    steps_settled timestamp time asked.changes sizes old new left group steps settled (can asked.changes asked.are_changes) asked.are_steps stay written

-- The loss was written, and these steps behind it.
pub record IsLostThen (sizes : List ℕ) (new : Image) (left : List Bool) (timestamp : ℕ) (without : GroupValue) (steps : List Step) : Type 0 where
  pub rest : List Step
  pub are : steps ≡ lost_step timestamp without ∷ rest
  pub settled : AreSettledAs sizes new left (group_behind (group_lost timestamp without) rest)

-- Without a disk they are the group behind its loss and the other steps.
pub done_lost : (sizes : List ℕ) (old new : Image) (left : List Bool) (group : GroupValue) (place : ℕ) (seat : Seat) (timestamp : ℕ) (request : Request) (steps : List Step) → AreSettledAs sizes old left group
    → slice_get group.seats place ≡ Some seat → 1 < length group.seats → timestamp < 2 ^ 32 → steps_of (without_seat group seat) timestamp request ≡ Ok steps
    → ((changes : List Change) → request (config_lost (without_seat group seat)) (without_seat group seat).seats ≡ Ok changes → AllByRecursion CanBeAsked changes)
    → AllByRecursion (λ (step : Step). AreMembers step.config (without_seat group seat).seats) steps → AreWritten sizes old steps new
    → IsLostThen sizes new (slice_set left seat.slot true) timestamp (without_seat group seat) steps
done_lost sizes old new left group place seat timestamp request steps settled is_seat two time is can stay written =
    let told = told_without group settled.is_told place seat is_seat two in
    let asked = asked_by (without_seat group seat) timestamp (request (config_lost (without_seat group seat)) (without_seat group seat).seats) steps
    (sym (ap (λ (config : Configuration). steps_asked (without_seat group seat) timestamp (request config (without_seat group seat).seats)) (config_is (without_seat group seat) told timestamp [])) ∙ is) in
    let first = loss_first group settled.is_told place seat is_seat two timestamp time asked.changes steps asked.are_steps in
    let wrote = subst (λ (all : List Step). AreWritten sizes old all new) first.are written in
    let stays = subst (λ (all : List Step). AllByRecursion (λ (step : Step). AreMembers step.config (without_seat group seat).seats) all) first.are stay in
    let lost = lost_settled group settled.is_told place seat is_seat two timestamp time first.free sizes old wrote.0 left settled wrote.1 in
    record {
      rest = first.rest;
      are = first.are;
      settled =
          steps_settled timestamp time asked.changes sizes wrote.0 new (slice_set left seat.slot true) (group_lost timestamp (without_seat group seat)) first.rest lost (can asked.changes asked.are_changes) first.behind
          (subst (λ (seats : List Seat). AllByRecursion (λ (step : Step). AreMembers step.config seats) first.rest) (sym (seats_lost (without_seat group seat) told timestamp)) stays.1) wrote.2;
    }
