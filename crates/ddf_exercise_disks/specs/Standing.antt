-- The disks of an exercise at one of its steps.
use Rattle.std.specs.Prelude.{◌≡◌, ℕ, ◌<◌, ◌≤◌, Bool, false, List, slice_index_or}
use Rattle.ddf_bay.specs.Memory.{disks_of, state_of}
use Rattle.ddf_bay.specs.declared.memory.MemoryBay.{MemoryBay}
use Rattle.ddf_config.specs.declared.seat.Seat.{Seat}
use Rattle.ddf_config.specs.Configuration.{Configuration}
use Rattle.ddf_update.specs.Group.{IsOneOf}
use Rattle.ddf_steps.specs.Committed.{slots_of}
use Rattle.ddf_seats.specs.Group.{GroupValue}
use Rattle.ddf_uncut_group.specs.Plain.{HavePlain}
use Rattle.ddf_uncut_group.specs.Settled.{AreSettledAs}
use Rattle.ddf_exercise_disks.specs.Well.{IsWell, sizes_made}

-- The disks are this group, settled, with this configuration over these seats; so many sectors were asked for at most.
pub record StandsAt (name : List ℕ) (total asked : ℕ) (out : List Bool) (config : Configuration) (seats : List Seat) (bay : MemoryBay) : Type 0 where
  pub well : IsWell total out bay
  pub few : (state_of bay).asked ≤ asked
  pub group : GroupValue
  pub settled : AreSettledAs sizes_made (disks_of bay).held out group
  pub plain : HavePlain sizes_made group.newest
  pub config_is : group.config ≡ config
  pub seats_are : group.seats ≡ seats
  pub named : config.group ≡ name
  -- each seat is on a slot that is plugged in
  pub here : (slot : ℕ) → IsOneOf (slots_of seats) slot → (slot < 5) × (slice_index_or out slot false ≡ false)
