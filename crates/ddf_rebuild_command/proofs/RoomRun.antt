-- The filling of the room of a position, by what the call promises that does so.
use Rattle.std.proofs.Common.{◌≡◌, ℕ, ◌+◌, ◌<◌, ◌≤◌, Bool, true, false, List, sym, subst, ◌∙◌, inl, inr, ⊎_elim, arith}
use Rattle.std.proofs.lemmas.Bool.{false≢true}
use Rattle.ddf_bay.specs.Moments.{StopsLeave}
use Rattle.ddf_bay.specs.State.{BayState}
use Rattle.ddf_bay.specs.Told.{IsTold}
use Rattle.ddf_bay.proofs.Steps.{stops_weaken}
use Rattle.ddf_cells.specs.CellSources as cells
use Rattle.ddf_cells.specs.Touching.{GoesBetween}
use Rattle.ddf_cells.specs.Writing.{AddsBut, IsLeftBut, StaysBut}
use Rattle.ddf_rebuild.specs.Filling.{HoldsGiven, HoldsWanted, IsFillFault, IsFilled}
use Rattle.ddf_read.specs.declared.fault.VolumeFault.{VolumeFault}
use Rattle.ddf_read.specs.declared.fault.VolumeFault.TheVariants as volumes
use Rattle.ddf_read.specs.Reading.{Failed}
use Rattle.ddf_history.specs.Groups.{groups}
use Rattle.ddf_history.specs.Issued.{Past}
use Rattle.ddf_history.specs.Promise.{IsKept}
use Rattle.ddf_history.specs.Scenes.{scene_of}
use Rattle.ddf_steps.specs.Committed.{slots_of}
use Rattle.ddf_seats.specs.Group.{GroupValue}
use Rattle.ddf_seats.specs.Changing.{SlotsRise}
use Rattle.ddf_assembly.specs.Reading.{HaveAnchors}
use Rattle.ddf_recovery.specs.Ready.{ReadyValue}
use Rattle.ddf_update.specs.Group.{IsOneOf}
use Rattle.ddf_history_steps.specs.Kept.{AreAllKept, is_slot}
use Rattle.ddf_history_steps.specs.Steps.{StandsReady}
use Rattle.ddf_history_steps.specs.BlockFloors.{HaveFloors, StaySettled, WritesBelow, floor_in}
use Rattle.ddf_history_steps.proofs.Below.{all_kept, moments_kept, stands_still}
use Rattle.ddf_history_steps.proofs.Course.{ready_still}
use Rattle.ddf_history_steps.proofs.Floored.{seats_have_floors}
use Rattle.ddf_read_commands.specs.Use.{failure_of_volume}
use Rattle.ddf_group_commands.specs.Others.{LeavesOthers}
use Rattle.ddf_write_commands.proofs.BelowFloors.{floor_slot}
use Rattle.ddf_write_commands.proofs.SlotsThere.{cell_source_there, on_seats}
use Rattle.ddf_write_commands.proofs.Unmoved.{have_floors, holds_still}
use Rattle.ddf_array.specs.Volume.{Volume}
use Rattle.ddf_repair.specs.declared.first.Target.{Target}
use Rattle.ddf_rebuild_command.specs.BackPlanned.{IsCopied}
use Rattle.ddf_rebuild_command.specs.BackPlans.{CanCopy}
use Rattle.ddf_rebuild_command.specs.BackRun.{GoesCopying, IsCopyFault, IsRoomFilled}
use Rattle.ddf_rebuild_command.specs.Rounds.{IsSure}
use Rattle.ddf_rebuild_command.specs.Standing.{AddsNothing, Stands}

-- What the filling of the room promises, done or not.
pub record FillsRoom {D : Type 0} (tells : Type 0) (old new : BayState D) (volume : Volume) (target : Target) (slot start : ℕ) (done : Bool) : Type 0 where
  pub goes : GoesBetween old new
  pub told : new.tells_left → old.tells_left
  pub any_moment : StopsLeave old new (IsLeftBut (IsFilled volume target.element slot start) old.may_hold)
  pub left : AddsBut (IsFilled volume target.element slot start) old.may_hold new.may_hold
  pub held : tells → StaysBut (IsFilled volume target.element slot start) old.held new.held
  pub stays : tells → done ≡ true → StaySettled old new
  pub wanted : tells → done ≡ true → cells.IsSure volume old new → HoldsWanted volume target.element target.position slot start old.held new.held
  pub was_given : tells → done ≡ true → HoldsGiven (Failed old new) volume target.element target.position slot start old.held new.held

module _ {D : Type 0} (tells : Type 0) (old new : BayState D) (volume : Volume) (target : Target) (slot start : ℕ) (found : GroupValue) (ready : ReadyValue)
    (can : CanCopy old.sizes found.seats volume target slot start ready) (stands : Stands tells old found ready) (done : Bool) (room : FillsRoom tells old new volume target slot start done) where
  abbrev slots : List ℕ
  slots = slots_of found.seats

  abbrev Cells : ℕ → ℕ → Type 0
  Cells = IsFilled volume target.element slot start

  abbrev rise : SlotsRise found.seats
  rise = stands.is_ready.is_settled.slots_rise

  -- The room lies below the floor of its slot, which is a seat's.
  under : (s l : ℕ) → Cells s l → l < floor_in found.seats s
  under s l cell =
      let ends = can.below cell.part cell.is_part in
      let less = cell.among.below in
      subst (λ (n : ℕ). l < floor_in found.seats n) (sym cell.among.on_slot) (omega (arith, ends, less))

  not_room : (s l : ℕ) → is_slot slots s ≡ false → Cells s l → ⊥
  not_room s l other cell = false≢true (sym other ∙ floor_slot found.seats s l (under s l cell))

  below : tells → WritesBelow (floor_in found.seats) old new
  below told = record {
    same_sizes = room.goes.same_sizes;
    told = room.told;
    held = λ s l. ⊎_elim inl (λ cell. inr (under s l cell)) (room.held told s l);
    left = λ s l bytes may. ⊎_elim inl (λ cell. inr (under s l cell)) (room.left s l bytes may);
    any_moment = stops_weaken room.any_moment (λ image but s l. ⊎_elim inl (λ cell. inr (under s l cell)) (but s l));
  }

  beside_room : LeavesOthers old new slots
  beside_room = stops_weaken room.any_moment (λ image but s l other. ⊎_elim (λ before. before) (λ cell. absurd (not_room s l other cell)) (but s l))

  adds_room : AddsNothing old new slots
  adds_room s l bytes other left = ⊎_elim (λ before. before) (λ cell. absurd (not_room s l other cell)) (room.left s l bytes left)

  module _ (told : tells) (group : List ℕ) (past : Past (groups group)) (at : StandsReady group past old found ready) where
    floors : HaveFloors old (floor_in found.seats)
    floors = seats_have_floors group past old found at.at_end stands.floored

    room_kept : StopsLeave old new (λ image. IsKept past (scene_of old.sizes image))
    room_kept = moments_kept (floor_in found.seats) old new floors (below told) group past found at.at_end

    room_all_kept : AreAllKept group past new
    room_all_kept = all_kept (floor_in found.seats) old new floors (below told) group past found at.at_end

  -- Whether it is filled or not,
  pub room_goes : GoesCopying tells old new volume target slot start found ready
  room_goes = record {
    goes = room.goes;
    told = room.told;
    beside = λ told. beside_room;
    leaves = λ told. room.any_moment;
    ends = λ told image left s l. room.left s l (image s l) (left s l);
    any_moment = room_kept;
    all_kept = λ told left_told group past at. room_all_kept told group past at;
  }

  -- and once it is.
  module _ (is_so : done ≡ true) where
    pub stands_filled : Stands tells new found ready
    stands_filled = record {
      is_ready = stands.is_ready;
      anchored = subst (λ (sizes : List ℕ). HaveAnchors sizes found.newest) (sym room.goes.same_sizes) stands.anchored;
      holds = λ told.
          holds_still old new (floor_in found.seats) (have_floors old found stands.is_ready.is_settled (stands.holds told) stands.floored) room.goes.same_sizes (below told).held found (stands.holds told)
          (room.stays told is_so);
      floored = stands.floored;
      keep_seats = stands.keep_seats;
    }

    module _ (tells_old : IsTold old) (tells_new : IsTold new) where
      sure_by : IsSure (Failed old new) volume old.held → cells.IsSure volume old new
      sure_by (inl none) = inl none
      sure_by (inr redundant) = inr (inl redundant)

      is_copied : tells → IsCopied (Failed old new) new.tells_left volume target slot start old.held new.held
      is_copied told = record {
        copied = λ sure. room.wanted told is_so (sure_by sure);
        was_given = room.was_given told is_so;
        stays = room.held told;
        are_sectors = λ left_told s l. (tells_old.whole s l (old.held s l) (tells_old.held (room.told left_told) s l)).size;
      }

      pub room_filled : IsRoomFilled tells old new volume target slot start found ready
      room_filled = record {
        stands = stands_filled;
        is_copied = is_copied;
        others_left = λ told. adds_room;
        at_end = λ told group past at left_told.
            ready_still group past old new found ready at
            (stands_still (floor_in found.seats) old new (floors told group past at) (below told) group past found at.at_end (room.stays told is_so) (tells_new.held left_told));
      }

  -- Why it isn't.
  pub room_fault : (fault : VolumeFault) → IsFillFault old new volume target.element target.position slot fault → IsCopyFault tells old new volume target slot start found ready (failure_of_volume fault)
  room_fault (volumes.Range most) fault = absurd fault
  room_fault volumes.Degraded fault = absurd fault
  room_fault volumes.Lost fault = absurd (false≢true (sym fault.0 ∙ can.is_within))
  room_fault volumes.Unsure fault = absurd fault
  room_fault (volumes.Disk failed) fault = ⊎_elim
      (λ wrote. (subst (IsOneOf slots) (sym wrote.0) can.is_seat, inl wrote))
      (λ none. (
        cell_source_there failed (IsOneOf slots) volume (on_seats can.config can.guid found.seats volume can.is_view) target.element none.part none.is_part none.sector none.other none.none_left.is_of_first,
        inr none,
      ))
      fault.1
