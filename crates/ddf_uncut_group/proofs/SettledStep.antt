-- A step of a settled group that all of its disks tell: all of them tell the group behind it.
use Rattle.std.proofs.Common.{◌≡◌, ℕ, zero, suc, ◌<◌, ◌^◌, true, List, [], ◌∷◌, length, map, fold, Option, Some, Ok, refl, ap, sym, ◌∙◌, subst, inl, inr, arith}
use Rattle.std.proofs.lemmas.List.{length-map}
use Rattle.std.specs.Prelude.{slice_get, slice_set}
use Rattle.std.specs.List.{AllByRecursion}
use Rattle.std.proofs.lemmas.Option.{slice_get_within}
use Rattle.ddf_lemmas.proofs.Lists.{all_from, all_unmapped, filter_whole, mapped_at}
use Rattle.ddf_copy.specs.declared.copy.DiskCopy.{DiskCopy}
use Rattle.ddf_copy.specs.declared.newest_copy.Newest.{Newest}
use Rattle.ddf_copy.specs.declared.newest_copy.Newest.TheVariants.{Level}
use Rattle.ddf_copy.specs.Written.{CanBeCopy}
use Rattle.ddf_config.specs.declared.seat.Seat.{Seat}
use Rattle.ddf_config.specs.Configuration.{Configuration}
use Rattle.ddf_config.specs.Members.{is_current}
use Rattle.ddf_plan.specs.declared.change.Change.{Change}
use Rattle.ddf_view.specs.View.{View, view_of}
use Rattle.ddf_rewrite.specs.Before.{Before, before}
use Rattle.ddf_rewrite.specs.Copies.{changed_copy}
use Rattle.ddf_rewrite.proofs.Lists.{all_mapped}
use Rattle.ddf_history.specs.Groups.{ShowsFully}
use Rattle.ddf_history.proofs.Copies.{changed_is_full}
use Rattle.ddf_seats.specs.declared.seated.Seated.{Seated}
use Rattle.ddf_steps.specs.Asked.{CanBeAsked}
use Rattle.ddf_steps.specs.Committed.{slots_of}
use Rattle.ddf_seats.specs.Group.{GroupValue}
use Rattle.ddf_assembly.specs.Group.{group_of}
use Rattle.ddf_assembly.specs.Reading.{AreNewest}
use Rattle.ddf_steps.specs.Ready.{group_after}
use Rattle.ddf_recovery.specs.Ready.{readied}
use Rattle.ddf_seats.specs.Seated.{with_level, seated, seats_in, views_in, levelled}
use Rattle.ddf_assembly.specs.Settled.{IsSettledGroup}
use Rattle.ddf_steps.specs.Steps.{Step, config_after, disks_after, rewritten, stays_in, step_of}
use Rattle.ddf_steps.proofs.CommittedLevels.{level_else, seated_after, slot_or_none}
use Rattle.ddf_seats.proofs.CommittedSeats.{seated_is}
use Rattle.ddf_recovery.proofs.LeftGroup.{IsOneStep, assembled_by_guid, one_step}
use Rattle.ddf_recovery.proofs.LeftStep.{same_view}
use Rattle.ddf_steps.proofs.Rewritten.{closed_can}
use Rattle.ddf_history_steps.specs.Kept.{is_slot}
use Rattle.ddf_history_steps.proofs.CommittingSeats.{can_change, new_is_copy, renewed}
use Rattle.ddf_history_steps.proofs.Slots.{slot_is}
use Rattle.ddf_uncut_group.specs.Settled.{AreMembers, IsToldByAll}
use Rattle.ddf_uncut_group.proofs.SettledFound.{found_settled}

-- ---- newest copies that can be written

newest_set : (newest : List (Option Newest)) (slot : ℕ) (copy : DiskCopy) → AreNewest newest → CanBeCopy copy → AreNewest (slice_set newest slot (Some (Level copy)))
newest_set [] slot copy are can = tt
newest_set (one ∷ newest) zero copy are can = (can, are.1)
newest_set (one ∷ newest) (suc slot) copy are can = (are.0, newest_set newest slot copy are.1 can)

pub newest_levelled : (newest : List (Option Newest)) (disks : List Seated) → AreNewest newest → AllByRecursion (λ (disk : Seated). CanBeCopy disk.copy) disks → AreNewest (fold with_level newest disks)
newest_levelled newest [] are can = are
newest_levelled newest (disk ∷ disks) are can = newest_levelled (with_level newest disk) disks (newest_set newest disk.seat.slot disk.copy are can.0) can.1

-- ---- seats of a step

module _ (leaders : Before) (config : Configuration) (timestamp : ℕ) where
  rewritten_seats : (disks : List Seated) → seats_in (map (rewritten leaders config timestamp) disks) ≡ seats_in disks
  rewritten_seats [] = refl
  rewritten_seats (disk ∷ disks) = ap (λ (seats : List Seat). disk.seat ∷ seats) (rewritten_seats disks)

  -- A step to a configuration of which all disks are members writes each, on its seat.
  pub kept_seats : (disks : List Seated) → AllByRecursion (λ disk. stays_in config disk ≡ true) disks → seats_in (disks_after timestamp leaders config disks) ≡ seats_in disks
  unfolding disks_after
  kept_seats disks stay = ap (λ (all : List Seated). seats_in (map (rewritten leaders config timestamp) all)) (filter_whole (stays_in config) disks stay) ∙ rewritten_seats disks

-- ---- the group behind a step

module _ (group : GroupValue) (told : IsToldByAll group) (change : Change) (asked : CanBeAsked change) (timestamp : ℕ) (time : timestamp < 2 ^ 32)
    (step : Step) (ready : readied group (change ∷ []) timestamp ≡ Ok (step ∷ [])) where
  one : IsOneStep timestamp group change step
  one = one_step timestamp group change step told.is_settled ready

  abbrev own : Step
  own = step_of timestamp group.config (seated group) change

  abbrev next : Configuration
  next = config_after group.config change

  abbrev led : Before
  led = before (views_in (seated group))

  abbrev disks : List Seated
  disks = disks_after timestamp led next (seated group)

  -- a new copy can be written, and shows the configuration fully
  record IsNew (disk : Seated) : Type 0 where
    can : CanBeCopy disk.copy
    full : ShowsFully (view_of disk.copy) next
    within : disk.seat.slot < length group.newest

  new_is : (k : ℕ) (disk : Seated) → slice_get disks k ≡ Some disk → IsNew disk
  new_is k disk at =
      let is = renewed (seated group) led next timestamp k disk at in
      let copy = new_is_copy group told.is_settled timestamp time change asked one.free one.is is.place is.disk is.at is.stays in
      let change = can_change group told.is_settled timestamp time change asked one.free one.is is.place is.disk is.at is.stays in
      let seat = seated_is group is.place is.disk is.at in
      subst IsNew is.is_made (record {
        can = closed_can (changed_copy is.disk.copy led next timestamp) copy;
        full = subst (λ (view : View). ShowsFully view next) (sym (same_view led next timestamp is.disk)) (changed_is_full is.disk.copy led next timestamp change copy);
        within = slice_get_within group.newest is.disk.seat.slot (Some seat.found) seat.is_found;
      })

  all_can : AllByRecursion (λ (disk : Seated). CanBeCopy disk.copy) disks
  all_can = all_from (λ (disk : Seated). CanBeCopy disk.copy) disks (λ k disk at. (new_is k disk at).can)

  are_newest : AreNewest (fold with_level group.newest disks)
  are_newest = newest_levelled group.newest disks told.are_newest all_can

  -- ---- where the step writes a disk

  module _ (there : 0 < length step.disks) where
    is_found : group_of (group_after group step).newest (Some group.config.group) ≡ Ok (group_after group step)
    is_found = assembled_by_guid group.newest (Some group.config.group) group change timestamp step told.are_newest told.is_found told.is_settled asked ready there

    own_found : group_of (group_after group own).newest (Some group.config.group) ≡ Ok (group_after group own)
    own_found = subst (λ (s : Step). group_of (group_after group s).newest (Some group.config.group) ≡ Ok (group_after group s)) (sym one.step_is) is_found

    own_settled : IsSettledGroup (group_after group own)
    own_settled =
        found_settled (group_after group own).newest (Some group.config.group) (group_after group own) are_newest own_found told.is_settled.none_absent told.is_settled.none_lags

    -- It is settled.
    pub settled_behind : IsSettledGroup (group_after group step)
    settled_behind = subst (λ (s : Step). IsSettledGroup (group_after group s)) one.step_is own_settled

    own_disks : seated (group_after group own) ≡ map levelled disks
    own_disks = seated_after group own own_settled.slots_rise (λ k disk at. (new_is k disk at).within)

    -- Its disks are those of the step.
    pub disks_behind : seated (group_after group step) ≡ map levelled step.disks
    disks_behind = subst (λ (s : Step). seated (group_after group s) ≡ map levelled s.disks) one.step_is own_disks

    own_full : AllByRecursion (λ (disk : Seated). ShowsFully (view_of disk.copy) next) (seated (group_after group own))
    own_full =
        subst (λ (all : List Seated). AllByRecursion (λ (disk : Seated). ShowsFully (view_of disk.copy) next) all) (sym own_disks)
        (all_mapped (λ (disk : Seated). ShowsFully (view_of disk.copy) next) levelled disks
        (all_from (λ (disk : Seated). ShowsFully (view_of (levelled disk).copy) next) disks (λ k disk at. (new_is k disk at).full)))

  -- ---- where all disks stay members

  module _ (stay : AreMembers step.config group.seats) where
    own_stay : AllByRecursion (λ (disk : Seated). stays_in next disk ≡ true) (seated group)
    own_stay =
        all_unmapped (λ (seat : Seat). is_current next.members seat.reference ≡ true) (λ (disk : Seated). disk.seat) (seated group)
        (subst (AreMembers next) (sym told.is_settled.are_seated) (subst (λ (s : Step). AreMembers s.config group.seats) (sym one.step_is) stay))

    own_seats : seats_in disks ≡ group.seats
    own_seats = kept_seats led next timestamp (seated group) own_stay ∙ told.is_settled.are_seated

    -- The seats are the same.
    pub seats_behind : (group_after group step).seats ≡ group.seats
    seats_behind = subst (λ (s : Step). seats_in s.disks ≡ group.seats) one.step_is own_seats

    pub disk_there : 0 < length step.disks
    disk_there =
        let same : length (seats_in step.disks) ≡ length group.seats = ap (λ (seats : List Seat). length seats) seats_behind in
        let counted : length (seats_in step.disks) ≡ length step.disks = length-map step.disks (λ (disk : Seated). disk.seat) in
        let some = told.some_seat in
        omega (arith, same, counted, some)

    own_beside : (slot : ℕ) (found : Newest) → slice_get (fold with_level group.newest disks) slot ≡ Some (Some found) → is_slot (slots_of (seats_in disks)) slot ≡ true
    own_beside slot found at = elim (slot_or_none disks slot) [
      | inl here ↦
          subst (λ (n : ℕ). is_slot (slots_of (seats_in disks)) n ≡ true) (sym here.3)
          (slot_is (slots_of (seats_in disks)) here.0 here.1.seat.slot
          (mapped_at (λ (seat : Seat). seat.slot) (seats_in disks) here.0 here.1.seat (mapped_at (λ (disk : Seated). disk.seat) disks here.0 here.1 here.2)))
      | inr none ↦
          subst (λ (seats : List Seat). is_slot (slots_of seats) slot ≡ true) (sym own_seats)
          (told.none_beside slot found (sym (level_else group.newest disks slot none) ∙ at))
    ]

    own_told : IsToldByAll (group_after group own)
    own_told = record {
      is_found = own_found disk_there;
      are_newest = are_newest;
      is_settled = own_settled disk_there;
      some_seat = subst (λ (seats : List Seat). 0 < length seats) (sym own_seats) told.some_seat;
      are_full = own_full disk_there;
      none_beside = own_beside;
    }

    -- All disks tell it.
    pub told_behind : IsToldByAll (group_after group step)
    told_behind = subst (λ (s : Step). IsToldByAll (group_after group s)) one.step_is own_told
