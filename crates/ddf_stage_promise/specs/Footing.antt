-- What the disks of slots have, whatever is written to their arrays and records (profile).
use Rattle.std.specs.Prelude.{ℕ, Bool, List, map, filter_map, Option, option_map}
use Rattle.ddf_config.specs.declared.array.Array.{Array}
use Rattle.ddf_config.specs.declared.seat.Seat.{Seat}
use Rattle.ddf_config.specs.Configuration.{Configuration}
use Rattle.ddf_stage.specs.declared.desk.Desk.{Desk}

-- Of each slot the floor of its disk, and the LBA of its gate where it has a desk. And whether gates count where the first configuration was found on
-- disks from elsewhere: one of the disks that show it has valid notes.
pub record Footing : Type 0 where
  pub floor : ℕ → ℕ
  pub gate : ℕ → Option ℕ
  pub counts : Bool

abbrev pub desk_at : ℕ → ℕ → Desk
desk_at slot lba = record { slot = slot; lba = lba }

-- the desk of a slot
abbrev pub desk_on : (gate : ℕ → Option ℕ) → ℕ → Option Desk
desk_on gate slot = option_map (desk_at slot) (gate slot)

-- the desks of seats, in their order
abbrev pub desks_of : (gate : ℕ → Option ℕ) → List Seat → List Desk
desks_of gate seats = filter_map (λ (seat : Seat). desk_on gate seat.slot) seats

-- the GUIDs of the arrays
abbrev pub guids_of : Configuration → List (List ℕ)
guids_of config = map (λ (entry : List ℕ × Array). entry.0) config.arrays
