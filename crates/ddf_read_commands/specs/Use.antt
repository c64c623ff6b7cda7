-- The use of an array's blocks, and what it is refused for.
use Rattle.std.specs.Prelude.{◌≡◌, ℕ, ◌+◌, Bool, not, ◌&&◌, nat_lt, List, [], ◌∷◌, Option, Some, None, Result, Ok, Err}
use Rattle.ddf_config.specs.declared.array.Array.{Array}
use Rattle.ddf_config.specs.declared.refusal.Refusal.{Refusal}
use Rattle.ddf_config.specs.declared.refusal.Refusal.TheVariants.{Degraded, Held, Lost, NoArray, Range, Unsure}
use Rattle.ddf_config.specs.declared.seat.Seat.{Seat}
use Rattle.ddf_config.specs.Configuration.{Configuration}
use Rattle.ddf_config.specs.Refusals.{first_refusal, refuse_if}
use Rattle.ddf_config.specs.Shapes.{array_capacity}
use Rattle.ddf_config.specs.Within.{is_complete}
use Rattle.ddf_array.specs.Viewing.{view_of}
use Rattle.ddf_array.specs.Volume.{Volume}
use Rattle.ddf_read.specs.declared.fault.VolumeFault.{VolumeFault}
use Rattle.ddf_read.specs.declared.fault.VolumeFault.TheVariants as volumes
use Rattle.ddf_request.specs.Named.{named_array}
use Rattle.ddf_request.specs.Usable.{bad_blocks, is_held, is_held_from_writes, useless}
use Rattle.ddf_answer.specs.declared.failure.Failure.{Failure}
use Rattle.ddf_answer.specs.declared.failure.Failure.TheVariants.{Conflict, Disk, Memory, Refused, Split}
use Rattle.ddf_read_commands.specs.declared.using.Access.{Access}
use Rattle.ddf_read_commands.specs.declared.using.Access.TheVariants.{Reads, Writes}

-- blocks pass the capacity; of an array that isn't complete that can't be told
abbrev pub is_out_of_range : Array → (start count : ℕ) → Bool
is_out_of_range array start count = is_complete array && nat_lt (array_capacity array) (start + count)

-- its state or its access bits forbid it
abbrev pub is_forbidden : Access → Array → Bool
is_forbidden Reads array = is_held array
is_forbidden Writes array = is_held_from_writes array

-- In order: a level isn't served, or the numbers make no array, or its extents don't lie well; the range passes the capacity; a disk of it has bad
-- blocks; its state or its access bits forbid it; an element of it is unknown.
abbrev pub array_refusals : Access → Configuration → List Seat → (guid : List ℕ) → Array → (start count : ℕ) → List (Option Refusal)
array_refusals access config seats guid array start count =
    useless config seats guid array
    ∷ refuse_if (is_out_of_range array start count) (Range (array_capacity array))
    ∷ bad_blocks seats array
    ∷ refuse_if (is_forbidden access array) Held
    ∷ refuse_if (not (is_complete array)) Lost
    ∷ []

-- the first of all: no array has the name, or the array's blocks can't be used so
abbrev pub use_refusal : Access → Configuration → List Seat → Option (List ℕ × Array) → (start count : ℕ) → Option Refusal
use_refusal access config seats None start count = Some NoArray
use_refusal access config seats (Some entry) start count = first_refusal (array_refusals access config seats entry.0 entry.1 start count)

-- The word names an array, and nothing of its records refuses that these blocks of it are used so.
pub record IsUsable (access : Access) (config : Configuration) (seats : List Seat) (word : List ℕ) (start count : ℕ) (used : List ℕ × Volume) : Type 0 where
  pub array : Array
  pub is_named : named_array config.arrays word ≡ Some (used.0, array)
  pub is_view : view_of config used.0 seats ≡ Ok used.1
  pub accepted : first_refusal (array_refusals access config seats used.0 array start count) ≡ None

-- they may be used, why they may not, or want of memory
abbrev pub MayUse : Access → Configuration → List Seat → (word : List ℕ) → (start count : ℕ) → Result (List ℕ × Volume) Failure → Type 0
MayUse access config seats word start count (Ok used) = IsUsable access config seats word start count used
MayUse access config seats word start count (Err (Refused refusal)) = use_refusal access config seats (named_array config.arrays word) start count ≡ Some refusal
MayUse access config seats word start count (Err Memory) = Unit {0}
MayUse access config seats word start count (Err (Disk slot)) = ⊥
MayUse access config seats word start count (Err (Conflict i j sequence differ)) = ⊥
MayUse access config seats word start count (Err (Split i j)) = ⊥

-- the view of an array, why there is none, or want of memory
abbrev pub IsViewed : Result Volume Refusal → Result Volume Failure → Type 0
IsViewed meaning (Ok volume) = meaning ≡ Ok volume
IsViewed meaning (Err (Refused refusal)) = meaning ≡ Err refusal
IsViewed meaning (Err Memory) = Unit {0}
IsViewed meaning (Err (Disk slot)) = ⊥
IsViewed meaning (Err (Conflict i j sequence differ)) = ⊥
IsViewed meaning (Err (Split i j)) = ⊥

-- what blocks tell where they aren't used, as the program tells it
abbrev pub failure_of_volume : VolumeFault → Failure
failure_of_volume (volumes.Range capacity) = Refused (Range capacity)
failure_of_volume volumes.Lost = Refused Lost
failure_of_volume volumes.Unsure = Refused Unsure
failure_of_volume volumes.Degraded = Refused Degraded
failure_of_volume (volumes.Disk slot) = Disk slot
