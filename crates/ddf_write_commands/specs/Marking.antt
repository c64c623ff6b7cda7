-- The view of an array whose blocks are to be written, as it is once the array is marked.
use Rattle.std.specs.Prelude.{◌≡◌, ℕ, Bool, true, List, Option, Result, Ok, Err, unwrap_or, if◌then◌else◌}
use Rattle.std.specs.List.{list_any}
use Rattle.ddf_config.specs.declared.array.Array.{Array}
use Rattle.ddf_config.specs.declared.seat.Seat.{Seat}
use Rattle.ddf_config.specs.Configuration.{Configuration}
use Rattle.ddf_plan.specs.declared.change.Change.TheVariants.{Mark}
use Rattle.ddf_plan.specs.Changes.{changed_at}
use Rattle.ddf_plan.specs.Same.{is_step}
use Rattle.ddf_array.specs.Viewing.{is_array_redundant, view_of}
use Rattle.ddf_array.specs.Volume.{Volume}
use Rattle.ddf_answer.specs.declared.failure.Failure.{Failure}
use Rattle.ddf_answer.specs.declared.failure.Failure.TheVariants.{Conflict, Disk, Memory, Refused, Split}
use Rattle.ddf_write_commands.specs.Around.{marking}

-- that marking an array is a step: it isn't where the array has its mark
abbrev pub marks : Configuration → (List ℕ × Array) → Bool
marks config entry = list_any (is_step config) (marking entry)

-- the configuration in which it is marked, the sequence number aside
abbrev pub marked_config : Configuration → (List ℕ × Array) → Configuration
marked_config config entry = if marks config entry then changed_at config (Mark entry.0) config.sequence else config

-- The view of an array, by its GUID, as it is once it is marked, where it keeps what it holds in more than one place.
pub record IsMarkedView (config : Configuration) (seats : List Seat) (entry : List ℕ × Array) (volume : Volume) (redundant is_step : Bool) : Type 0 where
  pub is_view : view_of (marked_config config entry) entry.0 seats ≡ Ok volume
  pub is_redundant : redundant ≡ is_array_redundant entry.1
  pub steps : is_step ≡ marks config entry
  pub is_marked : redundant ≡ true → volume.marked ≡ true

-- whether to mark an array is a step, its view once it is marked, and the one that it had, where this is another; or want of memory
abbrev pub IsMarkedAs : (config : Configuration) (guid : List ℕ) (seats : List Seat) (was : Volume) → Result (Bool × Volume × Option Volume) Failure → Type 0
IsMarkedAs config guid seats was (Ok next) =
    (next.0 ≡ is_step config (Mark guid)) × (view_of (if next.0 then changed_at config (Mark guid) config.sequence else config) guid seats ≡ Ok next.1)
    × (unwrap_or next.2 next.1 ≡ was)
IsMarkedAs config guid seats was (Err Memory) = Unit {0}
IsMarkedAs config guid seats was (Err (Refused refusal)) = ⊥
IsMarkedAs config guid seats was (Err (Disk slot)) = ⊥
IsMarkedAs config guid seats was (Err (Conflict i j sequence differ)) = ⊥
IsMarkedAs config guid seats was (Err (Split i j)) = ⊥
