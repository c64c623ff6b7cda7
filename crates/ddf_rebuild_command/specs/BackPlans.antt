-- What is planned of a position that goes back, before anything is written.
use Rattle.std.specs.Prelude.{◌≡◌, ℕ, ◌+◌, ◌≤◌, ◌<◌, ◌^◌, ◌∷◌, List, [], length, slice_get, true, false, Some, None, Result, Ok, Err}
use Rattle.ddf_primary.specs.Cells.{depth_of}
use Rattle.ddf_array.specs.Apart.{IsApart}
use Rattle.ddf_array.specs.Viewing.{view_of}
use Rattle.ddf_array.specs.Volume.{IsVolume, Volume}
use Rattle.ddf_array.specs.Within.{is_within}
use Rattle.ddf_array.specs.declared.part.Part.{Part}
use Rattle.ddf_array.specs.declared.place.Place.{Place}
use Rattle.ddf_config.specs.Configuration.{Configuration}
use Rattle.ddf_config.specs.Refusals.{first_refusal}
use Rattle.ddf_config.specs.Seats.{SeatsFit, floor_of, slot_of}
use Rattle.ddf_config.specs.declared.extent.Extent.{Extent}
use Rattle.ddf_config.specs.declared.seat.Seat.{Seat}
use Rattle.ddf_rebuild.specs.Target.{IsAside}
use Rattle.ddf_repair.specs.Choose.{chosen}
use Rattle.ddf_repair.specs.declared.first.Target.{Target}
use Rattle.ddf_steps.specs.Asked.{CanBeAsked}
use Rattle.ddf_history_steps.specs.BlockFloors.{floor_in}
use Rattle.ddf_steps.specs.Committed.{slots_of}
use Rattle.ddf_update.specs.Group.{IsOneOf}
use Rattle.ddf_request.specs.Named.{named_array}
use Rattle.ddf_request.specs.Slots.{reference_on}
use Rattle.ddf_answer.specs.declared.failure.Failure.{Failure}
use Rattle.ddf_answer.specs.declared.failure.Failure.TheVariants.{Conflict, Disk, Memory, Refused, Split}
use Rattle.ddf_recovery.specs.Ready.{ReadyValue}
use Rattle.ddf_write_commands.specs.Planned.{Entry}
use Rattle.ddf_rebuild_command.specs.GoingBack.{back_to, copyback_changes, copyback_refusals, copyback_request, room_of}
use Rattle.ddf_rebuild_command.specs.declared.going_back.GoingBack.{GoingBack}

-- A position of an array is in sync, and its disk is here.
pub record IsHere (volume : Volume) (element position : ℕ) : Type 0 where
  pub part : Part
  pub place : Place
  pub slot : ℕ
  pub is_part : slice_get volume.parts element ≡ Some part
  pub is_place : slice_get part.places position ≡ Some place
  pub is_synced : place.synced ≡ true
  pub is_there : place.slot ≡ Some slot

-- A position of the array of a configuration goes back to the disk of a slot, over these seats.
pub record IsGoingOf (config : Configuration) (seats : List Seat) (linux : List ℕ) (entry : Entry) (slot : ℕ) (plan : GoingBack) : Type 0 where
  pub is_chosen : chosen config entry.0 seats ≡ Some plan.target
  pub room : Extent
  pub is_room : room_of config seats linux entry slot (reference_on seats slot) plan.target ≡ Ok room
  pub change_is : plan.change ≡ back_to entry plan.target room
  pub can_be_asked : CanBeAsked plan.change
  pub slot_is : plan.slot ≡ slot_of seats room.reference
  pub start_is : plan.start ≡ room.start
  pub small : (floor : ℕ) → floor_of seats room.reference ≡ Some floor → floor < 2 ^ 64
  pub is_view : view_of config entry.0 seats ≡ Ok plan.view
  pub known : IsVolume plan.view
  pub is_here : IsHere plan.view plan.target.element plan.target.position

-- This is planned of the array that a word names: nothing refuses it.
pub record IsBackPlanOf (count : ℕ) (config : Configuration) (seats : List Seat) (linux word : List ℕ) (slot : ℕ) (plan : GoingBack) : Type 0 where
  pub entry : Entry
  pub is_named : named_array config.arrays word ≡ Some entry
  pub accepted : first_refusal (copyback_refusals count config seats entry slot) ≡ None
  pub goes : IsGoingOf config seats linux entry slot plan

-- what is planned of it, why nothing is, or want of memory
abbrev pub MayGoBack : (count : ℕ) → Configuration → List Seat → (linux word : List ℕ) → (slot : ℕ) → Result GoingBack Failure → Type 0
MayGoBack count config seats linux word slot (Ok plan) = IsBackPlanOf count config seats linux word slot plan
MayGoBack count config seats linux word slot (Err (Refused refusal)) = copyback_request count word slot linux config seats ≡ Err refusal
MayGoBack count config seats linux word slot (Err Memory) = Unit {0}
MayGoBack count config seats linux word slot (Err (Disk other)) = ⊥
MayGoBack count config seats linux word slot (Err (Conflict i j sequence differ)) = ⊥
MayGoBack count config seats linux word slot (Err (Split i j)) = ⊥

-- the same of an array that nothing refuses so far
abbrev pub MayGo : Configuration → List Seat → (linux : List ℕ) → Entry → (slot : ℕ) → Result GoingBack Failure → Type 0
MayGo config seats linux entry slot (Ok plan) = IsGoingOf config seats linux entry slot plan
MayGo config seats linux entry slot (Err (Refused refusal)) = copyback_changes config seats linux entry slot (chosen config entry.0 seats) ≡ Err refusal
MayGo config seats linux entry slot (Err Memory) = Unit {0}
MayGo config seats linux entry slot (Err (Disk other)) = ⊥
MayGo config seats linux entry slot (Err (Conflict i j sequence differ)) = ⊥
MayGo config seats linux entry slot (Err (Split i j)) = ⊥

-- and the room on a disk
abbrev pub MayHaveRoom : Configuration → List Seat → (linux : List ℕ) → Entry → (slot : ℕ) → Target → Result Extent Failure → Type 0
MayHaveRoom config seats linux entry slot target (Ok room) = room_of config seats linux entry slot (reference_on seats slot) target ≡ Ok room
MayHaveRoom config seats linux entry slot target (Err (Refused refusal)) = room_of config seats linux entry slot (reference_on seats slot) target ≡ Err refusal
MayHaveRoom config seats linux entry slot target (Err Memory) = Unit {0}
MayHaveRoom config seats linux entry slot target (Err (Disk other)) = ⊥
MayHaveRoom config seats linux entry slot target (Err (Conflict i j sequence differ)) = ⊥
MayHaveRoom config seats linux entry slot target (Err (Split i j)) = ⊥

-- Behind the recovery the room can be filled with what the position should hold, and one step is left.
pub record CanCopy (sizes : List ℕ) (seats : List Seat) (volume : Volume) (target : Target) (slot start : ℕ) (ready : ReadyValue) : Type 0 where
  pub config : Configuration
  pub guid : List ℕ
  pub is_view : view_of config guid seats ≡ Ok volume
  pub fit : SeatsFit sizes seats
  pub apart : IsApart volume
  pub unmarked : volume.marked ≡ false
  pub is_within : is_within volume ≡ true
  pub aside : IsAside sizes volume target.element slot start
  pub is_seat : IsOneOf (slots_of seats) slot
  pub below : (part : Part) → slice_get volume.parts target.element ≡ Some part → start + depth_of part.shape ≤ floor_in seats slot
  pub one : length ready.steps ≡ 1
