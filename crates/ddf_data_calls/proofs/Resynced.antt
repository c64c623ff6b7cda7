-- A resync keeps its history and the data of its group.
use Rattle.std.proofs.Common.{◌≡◌, ◌∙◌, ℕ, ◌<◌, ◌^◌, Bool, true, false, List, [], ◌∷◌, ◌++◌, length, Option, Some, None, Result, Ok, refl, ap, sym, subst, if◌then◌else◌}
use Rattle.std.proofs.Math.Path.{fun_ext}
use Rattle.std.proofs.lemmas.Option.{slice_get_within}
use Rattle.std.specs.Prelude.{option_map, option_to_list}
use Rattle.ddf_lemmas.proofs.Lists.{in_map}
use Rattle.ddf_bay.specs.Sectors.{Image, IsLeft}
use Rattle.ddf_bay.specs.State.{BayState}
use Rattle.ddf_config.specs.declared.seat.Seat.{Seat}
use Rattle.ddf_config.specs.declared.refusal.Refusal.TheVariants.{Lost, Unsure}
use Rattle.ddf_config.specs.Members.{same_guid}
use Rattle.ddf_plan.specs.declared.change.Change.TheVariants.{Unmark}
use Rattle.ddf_array.specs.Sound.{AreSectors}
use Rattle.ddf_array.specs.Viewing.{is_array_within, view_of}
use Rattle.ddf_array.specs.Volume.{IsVolume}
use Rattle.ddf_array.specs.Within.{is_within}
use Rattle.ddf_cells.specs.Alike.{AreAlike}
use Rattle.ddf_cells.proofs.Alike.{value_same}
use Rattle.ddf_data_array.specs.Allowed.{Allowed, once_consistent}
use Rattle.ddf_data_group.specs.Grouped.{Promises}
use Rattle.ddf_data_group.proofs.Entries.{guid_is}
use Rattle.ddf_history.specs.Groups.{groups}
use Rattle.ddf_history.specs.Issued.{Past}
use Rattle.ddf_steps.specs.Committed.{AreSettled, slots_of}
use Rattle.ddf_seats.specs.Group.{GroupValue}
use Rattle.ddf_assembly.specs.Group.{group_of}
use Rattle.ddf_recovery.specs.Recovery.{config_recovered}
use Rattle.ddf_history_steps.specs.Going.{Ends, Goes, changes_in}
use Rattle.ddf_history_steps.specs.Kept.{is_read}
use Rattle.ddf_history_steps.proofs.Slots.{slot_placed}
use Rattle.ddf_data_history.specs.Carried.{Stays}
use Rattle.ddf_data_history.specs.Promised.{KeepsData, with_promise}
use Rattle.ddf_answer.specs.declared.failure.Failure.{Failure}
use Rattle.ddf_answer.specs.Call.{work_of}
use Rattle.ddf_group.specs.declared.answer.Assembly.{Assembly}
use Rattle.ddf_group_commands.specs.Change.{is_done}
use Rattle.ddf_read_commands.specs.declared.using.Access.TheVariants.{Reads}
use Rattle.ddf_read_commands.specs.Use.{array_refusals}
use Rattle.ddf_write_commands.specs.Planned.{IsPlanned, lacks_position}
use Rattle.ddf_write_commands.specs.Resync.{HasResyncedArray, resync_behind, resync_refusals, resync_request, resyncing, wholly}
use Rattle.ddf_write_commands.specs.Worked.{IsWorkedIn}
use Rattle.ddf_data_calls.specs.Calls.{AdmitsCall, AreBoth, KeepsBoth}
use Rattle.ddf_write_commands.specs.Along.{ComesAlong, Stage}
use Rattle.ddf_data_calls.specs.Promised.{counted, with_allowed}
use Rattle.ddf_data_calls.proofs.Accepted.{HasView, accepted_plan, has_view, mark_of, two_pass}
use Rattle.ddf_data_calls.proofs.Both as both
use Rattle.ddf_data_calls.proofs.Both.{IsSplit}
use Rattle.ddf_data_calls.proofs.First.{IsCalled, called_by}
use Rattle.ddf_data_calls.proofs.ByWrite.{by_resync}
use Rattle.ddf_data_calls.proofs.Prepared as prepared
use Rattle.ddf_data_calls.proofs.Staged as staged
use Rattle.ddf_data_calls.proofs.Staged.{IsCarried}
use Rattle.ddf_read_commands.proofs.ArrayUse.{named_is}
use Rattle.ddf_bay.specs.Moments.{StopsLeave}
use Rattle.ddf_recovery.specs.Ready.{readied}
use Rattle.ddf_rebuild.proofs.Aiming.{cell_lies}
use Rattle.ddf_data_calls.specs.Floors.{AllHaveFloors, HaveFloorsIn}
use Rattle.ddf_data_calls.proofs.Floored.{floors_along}
use Rattle.ddf_data_calls.proofs.Begun.{fewer_keep}

-- ---- promises that stay

-- an array that keeps its promise keeps it as it was
same_allowed : (guid : List ℕ) (promises : Promises) (other : List ℕ) (allowed : Allowed) → promises other ≡ Some allowed → with_allowed (λ (one : Allowed). one) guid promises other ≡ Some allowed
same_allowed guid promises other allowed is = by (same_guid guid other) refl
  where
    kept : (o : Option Allowed) → option_map (λ (one : Allowed). one) o ≡ o
    kept None = refl
    kept (Some one) = refl

    by : (b : Bool) → same_guid guid other ≡ b → ◌≡◌ {A = Option Allowed} (if b then option_map (λ (one : Allowed). one) (promises guid) else promises other) (Some allowed)
    by true same = kept (promises guid) ∙ ap promises (guid_is guid other same) ∙ is
    by false differs = is

-- what counts now counts, whatever was promised before
counted_same : (next : Allowed → Allowed) (guid : List ℕ) (promises : Promises) (new : Allowed) (other : List ℕ) (allowed : Allowed) → with_promise promises guid (Some new) other ≡ Some allowed
    → with_promise (with_allowed next guid promises) guid (Some new) other ≡ Some allowed
counted_same next guid promises new other allowed is = by (same_guid guid other) is
  where
    by : (b : Bool) → ◌≡◌ {A = Option Allowed} (if b then Some new else promises other) (Some allowed)
        → ◌≡◌ {A = Option Allowed} (if b then Some new else (if b then option_map next (promises guid) else promises other)) (Some allowed)
    by true e = e
    by false e = e

-- ---- the call

module _ {D : Type 0} (tells : Type 0) (told : tells) (old new : BayState D) (group : List ℕ) (past : Past (groups group)) (floor : ℕ → ℕ) (small : (slot : ℕ) → floor slot < 2 ^ 64) (promises : Promises)
    (named : Option (List ℕ)) (timestamp : ℕ) (word : List ℕ) (outcome : Result ℕ Failure) (resynced : HasResyncedArray (work_of tells old new) named timestamp word outcome)
    (found : GroupValue) (is_found : group_of resynced.taken.newest named ≡ Ok found) (own : found.config.group ≡ group)
    (admits : AdmitsCall group past floor promises old resynced.taken.left found) (left_held : IsLeft old.may_hold old.held) (whole_held : AreSectors old.held)
    (plan : IsPlanned found timestamp word (resync_request word)) (whole : (image : Image) → IsLeft new.may_hold image → AreSectors image) where
  called : IsCalled group old past floor promises resynced.taken.left resynced.taken.newest named found
  called = called_by tells told old new group past floor small promises named timestamp _ _ resynced.taken found is_found own admits left_held whole_held

  has : HasView (config_recovered found) found.seats plan.entry
  has =
      let passed = two_pass (array_refusals Reads (config_recovered found) found.seats plan.entry.0 plan.entry.1 0 0) (is_array_within found.seats plan.entry.1)
      (lacks_position (view_of (config_recovered found) plan.entry.0 found.seats)) Lost Unsure (accepted_plan found timestamp word resync_refusals resync_behind plan).accepted in
      has_view Reads (config_recovered found) found.seats 0 0 word plan.entry passed.0 (named_is (config_recovered found).arrays word plan.entry plan.is_named) passed.1 passed.2

  is_split : IsSplit found timestamp plan.entry (resync_behind plan.entry) (Some (Unmark plan.entry.0 wholly)) plan.first plan.last plan.volume
  is_split =
      prepared.is_split group old past floor promises resynced.taken.left resynced.taken.newest named found called timestamp word resync_refusals resync_behind plan has (Some (Unmark plan.entry.0 wholly)) refl
      (λ change is. (wholly, let same : Unmark plan.entry.0 wholly ≡ change = cc in sym same))

  -- So the array was within its level.
  pub was_within : (is_within plan.volume ≡ true) × IsVolume plan.volume
  was_within = let split = is_split in (split.within, split.known)

  carried : IsCarried old new promises plan.entry.0 resyncing by_resync plan.volume
  carried = record {
    among = λ before may image among. among;
    left = λ before image left. left;
    redundant = λ before behind alike done left are allowed promised. done.redundant are;
    holds = λ before behind done. tt;
  }

  pub both_kept : ComesAlong group resyncing (work_of tells old new) past resynced.taken.left found plan (is_done outcome)
      → KeepsBoth group old new floor (Goes group past (is_read resynced.taken.left) found (changes_in found (plan.first ++ plan.last)))
      (Ends group past (is_read resynced.taken.left) found (changes_in found (plan.first ++ plan.last)) (is_done outcome)) (Stays promises) (Stays promises)
  both_kept along =
      staged.keeps_both tells old new group past floor promises resynced.taken.left resynced.taken.newest named found called timestamp word (resync_request word) plan (resync_behind plan.entry)
      (Some (Unmark plan.entry.0 wholly)) is_split resyncing by_resync carried (Stays promises) (Stays promises) (is_done outcome) along whole
      (λ image are stage now come left_at. (promises, refl, stays image are stage now come left_at))
      (λ tells_left end. (promises, refl, λ image left are. stays image are end.stage end.now end.has_come (end.is_left image left)))
    where
      stays : (image : Image) → AreSectors image → (stage : Stage) (now : Past (groups group)) → staged.Come tells old new group past floor promises resynced.taken.left resynced.taken.newest named found called timestamp word
          (resync_request word) plan (resync_behind plan.entry) (Some (Unmark plan.entry.0 wholly)) is_split resyncing by_resync carried stage now
          → staged.LeftAt tells old new group past floor promises resynced.taken.left resynced.taken.newest named found called timestamp word
          (resync_request word) plan (resync_behind plan.entry) (Some (Unmark plan.entry.0 wholly)) is_split resyncing by_resync carried stage image → KeepsData group now floor image promises
      stays image are stage now come left_at =
          fewer_keep group now floor image (with_allowed by_resync.next plan.entry.0 promises) promises (same_allowed plan.entry.0 promises)
          (staged.stage_keeps tells old new group past floor promises resynced.taken.left resynced.taken.newest named found called timestamp word (resync_request word) plan (resync_behind plan.entry)
          (Some (Unmark plan.entry.0 wholly)) is_split resyncing by_resync carried image are stage now come left_at)

  -- The disks of members keep their floors.
  pub floors_kept : AllHaveFloors group past old floor → ComesAlong group resyncing (work_of tells old new) past resynced.taken.left found plan (is_done outcome)
      → StopsLeave old new (λ image. HaveFloorsIn group past old.sizes image floor)
  floors_kept floored along =
      floors_along tells old new group past floor promises resynced.taken.left resynced.taken.newest named found called floored timestamp word (resync_request word) plan (resync_behind plan.entry)
      (Some (Unmark plan.entry.0 wholly)) is_split resyncing by_resync carried (is_done outcome) along

  pub are_readied : readied found (option_to_list (mark_of plan.entry) ++ resync_behind plan.entry) timestamp ≡ Ok (plan.first ++ plan.last)
  are_readied = (is_split).are_all

  -- ---- once it was done

  module _ (settled : AreSettled new found.seats (length found.seats)) where
    held_alike : (image : Image) → IsLeft new.may_hold image → AreAlike plan.volume image new.held
    held_alike image left slot lba cell =
        let on = both.cells_on group old past floor promises resynced.taken.left resynced.taken.newest named found called timestamp plan.entry (resync_behind plan.entry) (Some (Unmark plan.entry.0 wholly))
        plan.first plan.last plan.volume is_split slot lba (record { element = cell.element; position = cell.position; sector = cell.sector; lies = cell_lies plan.volume slot lba cell }) in
        let placed = slot_placed (slots_of found.seats) slot on.0 in
        let seat = in_map (λ (one : Seat). one.slot) found.seats placed.0 slot placed.1 in
        let sure = settled placed.0 seat.0 (slice_get_within found.seats placed.0 seat.0 seat.1) seat.1 in
        subst (λ (s : ℕ). image s lba ≡ new.held s lba) seat.2 (sure lba (image seat.0.slot lba) (left seat.0.slot lba))

    -- What its blocks have may be promised then.
    pub counts : new.tells_left → ComesAlong group resyncing (work_of tells old new) past resynced.taken.left found plan true
        → AreBoth group floor new (Ends group past (is_read resynced.taken.left) found (changes_in found (plan.first ++ plan.last)) true)
        (λ promised. promised ≡ counted plan.entry.0 plan.volume new.held promises)
    counts tells_left along =
        let end = along.ends tells_left in
        record {
          now = end.now;
          promised = counted plan.entry.0 plan.volume new.held promises;
          ends = staged.ends_at tells old new group past floor promises resynced.taken.left resynced.taken.newest named found called timestamp word (resync_request word) plan (resync_behind plan.entry)
              (Some (Unmark plan.entry.0 wholly)) is_split resyncing by_resync carried true end.stage end.now end.is_over end.has_come;
          is_so = refl;
          all_kept = end.all_kept;
          all_data = λ image left.
              let kept = staged.done_counts tells old new group past floor promises resynced.taken.left resynced.taken.newest named found called timestamp word (resync_request word) plan (resync_behind plan.entry)
              (Some (Unmark plan.entry.0 wholly)) is_split resyncing by_resync carried image (whole image left) (λ before behind done are. done.redundant are) end.stage (end.is_over refl) end.now end.has_come
              (end.is_left image left) in
              let same : once_consistent plan.volume image ≡ once_consistent plan.volume new.held =
              fun_ext (λ (block : ℕ). ap (option_map (λ bytes. bytes ∷ [])) (value_same plan.volume is_split.known image new.held (held_alike image left) block)) in
              subst (λ (a : Allowed). KeepsData group end.now floor image (with_promise promises plan.entry.0 (Some a))) same
              (fewer_keep group end.now floor image (with_promise (with_allowed by_resync.next plan.entry.0 promises) plan.entry.0 (Some (once_consistent plan.volume image)))
              (with_promise promises plan.entry.0 (Some (once_consistent plan.volume image)))
              (counted_same by_resync.next plan.entry.0 promises (once_consistent plan.volume image)) kept.0);
        }

-- behind a resync that was done nothing is pending on the slots of the group's seats
pub then_settled : {D : Type 0} (tells : Type 0) → tells → (old new : BayState D) (named : Option (List ℕ)) (timestamp : ℕ) (word : List ℕ) (sequence : ℕ)
    → (resynced : HasResyncedArray (work_of tells old new) named timestamp word (Ok sequence)) (found : GroupValue) → group_of resynced.taken.newest named ≡ Ok found
    → AreSettled new found.seats (length found.seats)
then_settled tells told old new named timestamp word sequence resynced found is_found =
    let is = subst (λ (meaning : Result GroupValue Assembly). IsWorkedIn resyncing (work_of tells old new) timestamp word (resync_request word) meaning (Ok sequence)) is_found resynced.gives in
    (is.done told).are_settled
