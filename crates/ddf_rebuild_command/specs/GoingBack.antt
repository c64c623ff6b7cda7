-- What `copyback` asks of a group, and what it is refused for.
use Rattle.std.specs.Prelude.{ℕ, Bool, ◌||◌, ◌==◌, List, [], ◌∷◌, ◌++◌, Option, Some, None, Result, Ok, Err}
use Rattle.std.specs.List.{list_any}
use Rattle.ddf_config.specs.declared.array.Array.{Array}
use Rattle.ddf_config.specs.declared.extent.Extent.{Extent}
use Rattle.ddf_config.specs.declared.refusal.Refusal.{Refusal}
use Rattle.ddf_config.specs.declared.refusal.Refusal.TheVariants as refusals
use Rattle.ddf_config.specs.declared.seat.Seat.{Seat}
use Rattle.ddf_config.specs.Configuration.{Configuration}
use Rattle.ddf_config.specs.Extents.{array_extents}
use Rattle.ddf_config.specs.Refusals.{first_refusal, refuse_if}
use Rattle.ddf_plan.specs.declared.change.Change.{Change}
use Rattle.ddf_plan.specs.declared.change.Change.TheVariants.{Return}
use Rattle.ddf_plan.specs.CreateRefusal.{is_spare_disk}
use Rattle.ddf_repair.specs.declared.first.Target.{Target}
use Rattle.ddf_repair.specs.Choose.{chosen, room_for}
use Rattle.ddf_request.specs.Named.{named_array}
use Rattle.ddf_request.specs.Slots.{reference_on, slot_refusals}
use Rattle.ddf_request.specs.Usable.{lies_on}
use Rattle.ddf_group_commands.specs.Change.{Request}
use Rattle.ddf_write_commands.specs.Planned.{Entry}
use Rattle.ddf_rebuild_command.specs.Asked.{bad_on, rebuild_refusals}
use Rattle.ddf_rebuild_command.specs.PassedOver.{passed_over}

-- ---- the disk that the position goes to

-- it is a spare, or holds a position of the array
abbrev pub is_taken : Configuration → Array → (reference : ℕ) → Bool
is_taken config array reference = is_spare_disk config reference || lies_on (array_extents array) reference

-- Linux reads it, and takes the array for another layout
abbrev pub is_misread_on : (linux : List ℕ) → Array → (reference : ℕ) → Bool
is_misread_on linux array reference = list_any (λ one. one == reference) (passed_over linux array)

-- In order: it is a spare, or holds a position of the array; Linux reads it, and takes the array for another layout.
abbrev pub disk_refusals : Configuration → (linux : List ℕ) → Array → (slot reference : ℕ) → List (Option Refusal)
disk_refusals config linux array slot reference =
    refuse_if (is_taken config array reference) (refusals.InUse slot) ∷ refuse_if (is_misread_on linux array reference) (refusals.Level 0x11) ∷ []

-- where it has room for the position, it lists no bad blocks
abbrev pub room_unless : List Seat → (slot reference : ℕ) → Option Extent → Result Extent Refusal
room_unless seats slot reference None = Err (refusals.NoExtent slot)
room_unless seats slot reference (Some room) = elim (bad_on reference seats) [ None ↦ Ok room | Some refusal ↦ Err refusal ]

-- the room for a position on it, or why the position can't go there
abbrev pub room_of : Configuration → List Seat → (linux : List ℕ) → Entry → (slot reference : ℕ) → Target → Result Extent Refusal
room_of config seats linux entry slot reference target =
    elim (first_refusal (disk_refusals config linux entry.1 slot reference)) [
      | None ↦ room_unless seats slot reference (room_for config entry.0 seats target reference)
      | Some refusal ↦ Err refusal
    ]

-- ---- what is asked

-- the change by which the position is at this room
abbrev pub back_to : Entry → Target → Extent → Change
back_to entry target room = Return entry.0 target.element target.position room.reference room.start

abbrev pub go_to : Entry → Target → Result Extent Refusal → Result (List Change) Refusal
go_to entry target (Ok room) = Ok (back_to entry target room ∷ [])
go_to entry target (Err refusal) = Err refusal

-- of a position that can go back; where none can, that is told
abbrev pub copyback_changes : Configuration → List Seat → (linux : List ℕ) → Entry → (slot : ℕ) → Option Target → Result (List Change) Refusal
copyback_changes config seats linux entry slot None = Err refusals.NoStandIn
copyback_changes config seats linux entry slot (Some target) = go_to entry target (room_of config seats linux entry slot (reference_on seats slot) target)

-- In order: the slot is there; its disk is a current member; what a rebuild of the array is refused for, its spare aside.
abbrev pub copyback_refusals : (count : ℕ) → Configuration → List Seat → Entry → (slot : ℕ) → List (Option Refusal)
copyback_refusals count config seats entry slot = slot_refusals count seats (slot ∷ []) ++ rebuild_refusals config seats entry

abbrev pub copyback_unless : Configuration → List Seat → (linux : List ℕ) → Entry → (slot : ℕ) → Option Refusal → Result (List Change) Refusal
copyback_unless config seats linux entry slot None = copyback_changes config seats linux entry slot (chosen config entry.0 seats)
copyback_unless config seats linux entry slot (Some refusal) = Err refusal

abbrev pub copyback_asked : (count : ℕ) → Configuration → List Seat → (linux : List ℕ) → (slot : ℕ) → Option Entry → Result (List Change) Refusal
copyback_asked count config seats linux slot None = Err refusals.NoArray
copyback_asked count config seats linux slot (Some entry) =
    copyback_unless config seats linux entry slot (first_refusal (copyback_refusals count config seats entry slot))

-- The change by which a position of the array that a word names goes back to the disk of a slot, of so many slots, or why there is none, of a group of which Linux
-- reads these members' disks.
abbrev pub copyback_request : (count : ℕ) → (word : List ℕ) → (slot : ℕ) → (linux : List ℕ) → Request
copyback_request count word slot linux config seats = copyback_asked count config seats linux slot (named_array config.arrays word)
