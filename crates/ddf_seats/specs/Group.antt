-- A group of disks, by the newest copies of the slots of a bay.
use Rattle.std.specs.Prelude.{ℕ, Bool, is_some, List, length, filter_map, min, slice_get, Option, option_map}
use Rattle.std.specs.Option.{option_map_or, option_and_then}
use Rattle.ddf_copy.specs.declared.copy.DiskCopy.{DiskCopy}
use Rattle.ddf_copy.specs.declared.newest_copy.Newest.{Newest}
use Rattle.ddf_copy.specs.Copies.{standing_copy}
use Rattle.ddf_config.specs.declared.seat.Seat.{Seat}
use Rattle.ddf_config.specs.Configuration.{Configuration}

-- Its configuration, the seats of its current members, those of them without a seat, the slots among the seats that don't hold the
-- configuration in two level copies, and the newest copy of each slot of the bay.
pub record GroupValue : Type 0 where
  pub config : Configuration
  pub seats : List Seat
  pub absent : List ℕ
  pub lagging : List ℕ
  pub newest : List (Option Newest)

-- ---- seats

-- the least LBA of a disk's workspace and headers: extents end at or below it
abbrev pub floor_of : DiskCopy → ℕ
floor_of copy = min copy.header.geometry.workspace_lba (min copy.header.primary_lba copy.header.secondary_lba)

abbrev pub bad_count : DiskCopy → ℕ
bad_count copy = option_map_or (λ log. length log.entries) copy.bad 0

abbrev pub seat_of : (slot : ℕ) → DiskCopy → Seat
seat_of slot copy = record { reference = copy.disk_data.reference; slot = slot; floor = floor_of copy; bad = bad_count copy }

-- the copy that stands for a slot
abbrev pub copy_at : List (Option Newest) → (slot : ℕ) → Option DiskCopy
copy_at newest slot = option_and_then (λ one. option_and_then standing_copy one) (slice_get newest slot)

abbrev pub seat_at : List (Option Newest) → (slot : ℕ) → Option Seat
seat_at newest slot = option_map (seat_of slot) (copy_at newest slot)

abbrev pub seats_of : List (Option Newest) → (slots : List ℕ) → List Seat
seats_of newest slots = filter_map (seat_at newest) slots

-- ---- slots

-- a newest copy of the slot is kept
abbrev pub is_kept : List (Option Newest) → (slot : ℕ) → Bool
is_kept newest slot = is_some (copy_at newest slot)
