-- Arrays behind the change by which a position goes to the room that is found for it on another disk.
use Rattle.std.proofs.Common.{◌≡◌, ◌∙◌, ℕ, Bool, true, false, ◌&&◌, ◌==◌, List, Option, Some, None, is_some, refl, sym, ap, subst}
use Rattle.std.specs.Prelude.{slice_get}
use Rattle.std.specs.List.{IsDistinct, list_any}
use Rattle.std.specs.Map.{keys_of, lookup}
use Rattle.ddf_lemmas.proofs.Options.{some_from_is_some}
use Rattle.ddf_config.specs.declared.array.Array.{Array}
use Rattle.ddf_config.specs.declared.element.Position.{Position}
use Rattle.ddf_config.specs.declared.extent.Extent.{Extent}
use Rattle.ddf_config.specs.declared.seat.Seat.{Seat}
use Rattle.ddf_config.specs.Configuration.{Configuration}
use Rattle.ddf_config.specs.Extents.{array_extents, extent, extents}
use Rattle.ddf_config.specs.Members.{same_guid}
use Rattle.ddf_config.specs.Seats.{floor_of, slot_of}
use Rattle.ddf_config.specs.States.{low_state}
use Rattle.ddf_config.specs.Unusable.{passes_floor, unusable}
use Rattle.ddf_array.specs.Viewing.{is_array_within, is_seated, place_of, seat_slot}
use Rattle.ddf_plan.specs.declared.change.Change.TheVariants.{Return}
use Rattle.ddf_plan.specs.Arrays.{arrays_after, kept_and_added}
use Rattle.ddf_plan.specs.Changes.{changed_at}
use Rattle.ddf_plan.specs.Create.{lies_clear}
use Rattle.ddf_plan.specs.CreateRefusal.{names_twice, references}
use Rattle.ddf_plan.specs.Members.{members_after}
use Rattle.ddf_repair.specs.declared.first.Target.{Target}
use Rattle.ddf_repair.specs.Choose.{chosen, room_for}
use Rattle.ddf_repair.proofs.Usable.{looked_up}
use Rattle.ddf_availability.specs.GoneBack.{AreSeatsOf, IsAvailableOn, IsOnDisk}
use Rattle.ddf_availability.proofs.Chosen.{IsBackAt, IsRoomAt, is_chosen, is_room, slot_is}
use Rattle.ddf_availability.proofs.Levels.{state_kept, within_kept}
use Rattle.ddf_availability.proofs.Moves.{array_moved, made_in, moved_position, table_is}
use Rattle.ddf_availability.proofs.Tables.{on_returned}
use Rattle.ddf_availability.proofs.Twice.{once_moved}
use Rattle.ddf_availability.proofs.Usable.{still_usable}

module _ (config : Configuration) (guid : List ℕ) (seats : List Seat) (target : Target) (disk : ℕ) (room : Extent) (choice : chosen config guid seats ≡ Some target) (found : room_for config guid seats target disk ≡ Some room) where
  at : IsBackAt config guid seats target
  at = is_chosen config guid seats target choice

  to : IsRoomAt config seats at.plan disk room
  to = is_room config guid seats target disk room at found

  is_here : is_some (floor_of seats room.reference) ≡ true
  is_here = ap (λ (n : ℕ). is_some (floor_of seats n)) to.on ∙ to.is_here

  pub usable_back : IsDistinct same_guid (keys_of config.arrays) → (asked : List ℕ) (array : Array) → lookup (same_guid asked) config.arrays ≡ Some array → unusable config.members seats (extents config.arrays) asked array ≡ None
      → (next : Array) × (lookup (same_guid asked) (arrays_after config (Return guid target.element target.position room.reference room.start)) ≡ Some next)
      × (unusable (members_after config (Return guid target.element target.position room.reference room.start)) seats (extents (arrays_after config (Return guid target.element target.position room.reference room.start))) asked next ≡ None)
  usable_back apart =
      still_usable config guid target.element target.position room.reference room.start seats at.array at.plan at.held at.is_array at.is_plan at.is_held apart
      (ap (lies_clear config.members (extents config.arrays)) to.is ∙ to.clear) (ap (passes_floor seats) to.is ∙ to.below)

  pub within_back : (asked : List ℕ) (array : Array) → lookup (same_guid asked) config.arrays ≡ Some array
      → (next : Array) × (lookup (same_guid asked) (arrays_after config (Return guid target.element target.position room.reference room.start)) ≡ Some next) × (is_array_within seats next ≡ is_array_within seats array)
  within_back =
      within_kept guid target.element target.position room.reference room.start config at.array at.plan at.held at.is_array at.is_plan at.is_held at.is_synced (is_seated seats)
      (is_here ∙ sym (ap (λ (b : Bool). b && is_some (floor_of seats at.held.reference)) at.is_synced ∙ at.is_here))

  pub state_back : AreSeatsOf config seats → (asked : List ℕ) (array : Array) → lookup (same_guid asked) config.arrays ≡ Some array
      → (next : Array) × (lookup (same_guid asked) (arrays_after config (Return guid target.element target.position room.reference room.start)) ≡ Some next)
      × (low_state (members_after config (Return guid target.element target.position room.reference room.start)) next ≡ low_state config.members array)
  state_back are =
      let from = some_from_is_some (floor_of seats at.held.reference) at.is_here in
      let goal = some_from_is_some (floor_of seats room.reference) is_here in
      state_kept guid target.element target.position room.reference room.start config at.array at.plan at.held at.is_array at.is_plan at.is_held at.is_synced
      (are at.held.reference from.0 from.1) (are room.reference goal.0 goal.1)

  -- No disk of the array holds two positions of it, where none did and that one held none.
  pub apart_back : (array : Array) → lookup (same_guid guid) config.arrays ≡ Some array → names_twice (references array) ≡ false → list_any (λ (one : Extent). one.reference == disk) (array_extents array) ≡ false
      → (next : Array) × (lookup (same_guid guid) (arrays_after config (Return guid target.element target.position room.reference room.start)) ≡ Some next) × (names_twice (references next) ≡ false)
  apart_back array there once away =
      let change = Return guid target.element target.position room.reference room.start in
      let made = made_in guid target.element target.position room.reference room.start config in
      let found_there = looked_up made (same_guid guid) config.arrays array there in
      let both : Some at.array ≡ Some array = sym at.is_array ∙ there in
      let same : at.array ≡ array = cc in (
        made found_there.0 array,
        ap (lookup (same_guid guid)) (table_is guid target.element target.position room.reference room.start config) ∙ found_there.2,
        once_moved (extent at.plan.blocks at.held) (extent at.plan.blocks (moved_position room.reference room.start)) (array_extents array) (array_extents (made found_there.0 array))
            (array_moved guid target.element target.position room.reference room.start config (extents (kept_and_added config change)) found_there.0 array at.plan at.held found_there.1
            (ap (λ (one : Array). slice_get one.elements target.element) (sym same) ∙ at.is_plan) at.is_held)
            (ap (λ (n : ℕ). list_any (λ (one : Extent). one.reference == n) (array_extents array)) to.on ∙ away) once,
      )

  own : IsOnDisk config guid target.element target.position at.held.reference
  own = record { array = at.array; plan = at.plan; held = at.held; is_array = at.is_array; is_plan = at.is_plan; is_held = at.is_held; is_there = refl }

  -- It is on the slot of the disk's seat, in sync.
  available_there : (sequence : ℕ) → IsAvailableOn (changed_at config (Return guid target.element target.position room.reference room.start) sequence) seats guid target.element target.position room.reference room.start
  unfolding own at
  available_there sequence =
      let after = on_returned config guid target.element target.position at.held.reference room.reference room.start sequence own in
      let slot : seat_slot seats (extent at.plan.blocks (moved_position room.reference room.start)) ≡ Some (slot_of seats room.reference) =
      slot_is seats (extent at.plan.blocks (moved_position room.reference room.start)) (ap (passes_floor seats) to.is ∙ to.below) is_here in
      record {
        on = after.0;
        place =
            ap (λ (one : Position). place_of seats after.0.plan.blocks one) after.1
            ∙ ap (λ (blocks : ℕ). place_of seats blocks (moved_position room.reference room.start)) after.2
            ∙ ap (λ (one : Option ℕ). record { slot = one; start = room.start; synced = true; row = 0 }) slot;
      }

  pub available_back : (sequence : ℕ) → IsAvailableOn (changed_at config (Return guid target.element target.position room.reference room.start) sequence) seats guid target.element target.position disk room.start
  available_back sequence =
      subst (λ (n : ℕ). IsAvailableOn (changed_at config (Return guid target.element target.position room.reference room.start) sequence) seats guid target.element target.position n room.start) to.on (available_there sequence)
