-- The disks of a group that a call found have the floors of its history.
use Rattle.std.proofs.Common.{◌≡◌, ℕ, Bool, List, length, Option, Some, Ok}
use Rattle.std.specs.Prelude.{slice_get}
use Rattle.ddf_bay.specs.State.{BayState, size_of}
use Rattle.ddf_copy.specs.declared.newest_copy.Newest.{Newest}
use Rattle.ddf_history.specs.Groups.{groups}
use Rattle.ddf_history.specs.Issued.{Past}
use Rattle.ddf_seats.specs.declared.seated.Seated.{Seated}
use Rattle.ddf_seats.specs.Group.{GroupValue}
use Rattle.ddf_seats.specs.Seated.{seated}
use Rattle.ddf_assembly.specs.Group.{group_of}
use Rattle.ddf_assembly.specs.Slots.{newest_from}
use Rattle.ddf_history_steps.specs.Going.{IsAdmitted}
use Rattle.ddf_write_commands.proofs.BelowSteps.{IsFloored}
use Rattle.ddf_data_calls.specs.Floors.{HaveFloors}
use Rattle.ddf_data_calls.proofs.Seats.{seated_floor as floor_of_seat}

module _ (group : List ℕ) {D : Type 0} (old : BayState D) (past : Past (groups group)) (floor : ℕ → ℕ) (left : List Bool) (newest : List (Option Newest)) (named : Option (List ℕ)) (found : GroupValue)
    (long : length left ≡ length old.sizes) (read : newest ≡ newest_from old 0 left) (is_found : group_of newest named ≡ Ok found) (own : found.config.group ≡ group)
    (admitted : IsAdmitted group past old left found) (floors : HaveFloors group past old floor) where
  pub seated_floor : (place : ℕ) (disk : Seated) → slice_get (seated found) place ≡ Some disk → IsFloored (size_of old disk.seat.slot) floor disk
  seated_floor = floor_of_seat group old left newest long read past admitted.same_slots admitted.is_kept admitted.may_read admitted.member named found is_found own floor floors
