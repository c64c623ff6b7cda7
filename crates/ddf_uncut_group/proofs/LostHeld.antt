-- What disks hold of a settled group of which one disk is left out, and once its loss was written to the others.
use Rattle.std.proofs.Common.{◌≡◌, ℕ, zero, suc, ◌<◌, ◌^◌, Bool, true, false, not, eqb, List, [], ◌∷◌, length, Option, Some, None, Ok, Err, refl, ap, sym, ◌∙◌, subst, length-set, if◌then◌else◌}
use Rattle.std.specs.Prelude.{slice_get, slice_index, slice_set}
use Rattle.std.specs.List.{AllByRecursion}
use Rattle.ddf_lemmas.proofs.Lists.{all_from, filter_get}
use Rattle.ddf_bay.specs.Sectors.{Image}
use Rattle.ddf_copy.specs.declared.newest_copy.Newest.{Newest}
use Rattle.ddf_copy.specs.Copies.{newest_at}
use Rattle.ddf_config.specs.declared.seat.Seat.{Seat}
use Rattle.ddf_plan.specs.declared.change.Change.{Change}
use Rattle.ddf_seats.specs.Group.{GroupValue}
use Rattle.ddf_recovery.specs.Ready.{readied, with_recovery}
use Rattle.ddf_recovery.specs.Recovery.{config_lost, full_of_recovery, loss_spent, lost_step}
use Rattle.ddf_seats.specs.Leading.{leading}
use Rattle.ddf_seats.specs.Seated.{seated}
use Rattle.ddf_steps.specs.Steps.{Step}
use Rattle.ddf_recovery.proofs.CommittedReadied.{disks_rewritten}
use Rattle.ddf_recovery.proofs.ReadiedSteps.{has_room, Answer}
use Rattle.ddf_history_steps.specs.Floors.{HasFloor}
use Rattle.ddf_group_commands.specs.Written.{IsWritten}
use Rattle.ddf_history_steps.specs.BlockFloors.{AreFloored}
use Rattle.ddf_history_steps.proofs.Floored.{group_floored}
use Rattle.ddf_rewrite.proofs.Lists.{all_at}
use Rattle.ddf_uncut_group.specs.Settled.{AreSettledAs, IsToldByAll, newest_held}
use Rattle.ddf_uncut_group.specs.Without.{group_lost, without_seat}
use Rattle.ddf_uncut_group.proofs.LostGroup.{disks_lost, found_lost, rise, told_lost}
use Rattle.ddf_uncut_group.proofs.LostSteps.{readied_lost}
use Rattle.ddf_uncut_group.proofs.SettledWritten.{floors_behind, held_behind, levelled_floored}
use Rattle.ddf_uncut_group.proofs.UnpluggedTold.{told_without}

-- ---- newest copies without one

-- A slot that is left out has no newest copy.
pub held_out : (sizes : List ℕ) (image : Image) (first : ℕ) (left : List Bool) (slot : ℕ) → newest_held sizes image first (slice_set left slot true) ≡ slice_set (newest_held sizes image first left) slot None
held_out sizes image first [] slot = refl
held_out sizes image first (out ∷ left) zero = refl
held_out sizes image first (out ∷ left) (suc slot) =
    ap (λ (rest : List (Option Newest)). (if out then None else newest_at (slice_index sizes first) (image first)) ∷ rest) (held_out sizes image (suc first) left slot)

pub held_without : (sizes : List ℕ) (image : Image) (left : List Bool) (group : GroupValue) (seat : Seat) → AreSettledAs sizes image left group
    → newest_held sizes image 0 (slice_set left seat.slot true) ≡ (without_seat group seat).newest
held_without sizes image left group seat settled = held_out sizes image 0 left seat.slot ∙ ap (λ (all : List (Option Newest)). slice_set all seat.slot None) settled.are_held

-- ---- the loss

module _ (group : GroupValue) (told : IsToldByAll group) (place : ℕ) (seat : Seat) (is_seat : slice_get group.seats place ≡ Some seat) (two : 1 < length group.seats)
    (timestamp : ℕ) (time : timestamp < 2 ^ 32) (free : full_of_recovery timestamp (without_seat group seat) ≡ None) where
  abbrev without : GroupValue
  without = without_seat group seat

  -- The others have the floors of their seats.
  floors_left : (sizes : List ℕ) (image : Image) → AllByRecursion (λ (one : Seat). HasFloor (slice_index sizes one.slot) (image one.slot) one.floor) group.seats
      → AllByRecursion (λ (one : Seat). HasFloor (slice_index sizes one.slot) (image one.slot) one.floor) without.seats
  floors_left sizes image have =
      all_from (λ (one : Seat). HasFloor (slice_index sizes one.slot) (image one.slot) one.floor) without.seats
      (λ k one at.
      let was = filter_get (λ (other : Seat). not (eqb other.slot seat.slot)) group.seats k one at in
      all_at (λ (other : Seat). HasFloor (slice_index sizes other.slot) (image other.slot) other.floor) group.seats was.0 one have was.1)

  -- Once the loss was written the disks that are left are the group behind it.
  pub lost_settled : (sizes : List ℕ) (old new : Image) (left : List Bool) → AreSettledAs sizes old left group → IsWritten sizes old (lost_step timestamp without) new
      → AreSettledAs sizes new (slice_set left seat.slot true) (group_lost timestamp without)
  lost_settled sizes old new left settled written =
      let telling = told_without group told place seat is_seat two in
      let all = told_lost without telling timestamp time free in
      let rises = rise without telling timestamp in
      let rewrites = disks_rewritten timestamp (leading without) (config_lost without) (seated without) in
      let are_held = held_without sizes old left group seat settled in
      let floored = levelled_floored (lost_step timestamp without).disks
      (subst AreFloored (disks_lost without telling timestamp time free)
      (group_floored (group_lost timestamp without).newest (Some without.config.group) (group_lost timestamp without) (found_lost without telling timestamp time free))) in
      record {
        every_slot = length-set left seat.slot true ∙ settled.every_slot;
        are_held = held_behind sizes old new (slice_set left seat.slot true) without are_held (lost_step timestamp without) rises rewrites written;
        is_told = all;
        have_floors = floors_behind sizes old new (slice_set left seat.slot true) without are_held (lost_step timestamp without) rises rewrites written (floors_left sizes old settled.have_floors) floored;
      }

-- ---- what was readied

-- What was readied behind a step.
pub record IsLossFirst (timestamp : ℕ) (without : GroupValue) (changes : List Change) (steps : List Step) : Type 0 where
  pub rest : List Step
  pub are : steps ≡ lost_step timestamp without ∷ rest
  pub behind : readied (group_lost timestamp without) changes timestamp ≡ Ok rest
  pub not_spent : loss_spent without ≡ false
  pub free : full_of_recovery timestamp without ≡ None

module _ (group : GroupValue) (told : IsToldByAll group) (place : ℕ) (seat : Seat) (is_seat : slice_get group.seats place ≡ Some seat) (two : 1 < length group.seats)
    (timestamp : ℕ) (time : timestamp < 2 ^ 32) (changes : List Change) (steps : List Step) (is : readied (without_seat group seat) changes timestamp ≡ Ok steps) where
  room : full_of_recovery timestamp (without_seat group seat) ≡ None
  room = has_room (without_seat group seat) changes timestamp steps is

  abbrev step : Step
  step = lost_step timestamp (without_seat group seat)

  answered : with_recovery (loss_spent (without_seat group seat)) (Some step) (readied (group_lost timestamp (without_seat group seat)) changes timestamp) ≡ Ok steps
  answered = sym (readied_lost (without_seat group seat) (told_without group told place seat is_seat two) timestamp changes time room) ∙ is

  -- The loss is the first step, and the others are those of the changes of the group behind it.
  pub loss_first : IsLossFirst timestamp (without_seat group seat) changes steps
  loss_first = by (loss_spent (without_seat group seat)) refl (readied (group_lost timestamp (without_seat group seat)) changes timestamp) refl answered
    where
      by : (spent : Bool) → loss_spent (without_seat group seat) ≡ spent → (answer : Answer) → readied (group_lost timestamp (without_seat group seat)) changes timestamp ≡ answer
          → with_recovery spent (Some step) answer ≡ Ok steps → IsLossFirst timestamp (without_seat group seat) changes steps
      by spent e (Err fault) behind h = absurd cc
      by true e (Ok rest) behind h = absurd cc
      by false e (Ok rest) behind h = let same : step ∷ rest ≡ steps = cc in record { rest = rest; are = sym same; behind = behind; not_spent = e; free = room }
