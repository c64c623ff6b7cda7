-- The disks of a group's seats, with the copies that stand for them.
use Rattle.std.specs.Prelude.{ℕ, List, map, filter_map, slice_get, Option, option_map, Bool, slice_set, Some}
use Rattle.std.specs.Option.{option_and_then}
use Rattle.ddf_copy.specs.declared.newest_copy.Newest.{Newest}
use Rattle.ddf_copy.specs.Copies.{standing_copy}
use Rattle.ddf_copy.specs.Shows.{last_of}
use Rattle.ddf_update.specs.declared.prepared.Mode.TheVariants.{Change}
use Rattle.ddf_config.specs.declared.seat.Seat.{Seat}
use Rattle.ddf_view.specs.View.{View, view_of}
use Rattle.ddf_seats.specs.declared.seated.Seated.{Seated}
use Rattle.ddf_seats.specs.Group.{GroupValue}
use Rattle.ddf_copy.specs.declared.which.Which.TheVariants.{Secondary}
use Rattle.ddf_update.specs.declared.prepared.Mode.TheVariants as modes
use Rattle.ddf_update.specs.Prepared.{writes_anchor}
use Rattle.ddf_copy.specs.declared.newest_copy.Newest.TheVariants.{Level}

-- A seat with the newest copy of its slot, and the one of the two copies that an update writes last. How it is written is told of a new
-- copy.
abbrev pub seated_by : Seat → Newest → Option Seated
seated_by seat newest = option_map (λ copy. record { seat = seat; copy = copy; last = last_of newest; mode = Change }) (standing_copy newest)

abbrev pub seated_at : List (Option Newest) → Seat → Option Seated
seated_at newest seat = option_and_then (λ one. option_and_then (seated_by seat) one) (slice_get newest seat.slot)

-- those of a group, in the order of its seats
unfoldable pub seated : GroupValue → List Seated
seated group = filter_map (seated_at group.newest) group.seats

abbrev pub seats_in : List Seated → List Seat
seats_in disks = map (λ disk. disk.seat) disks

abbrev pub slots_in : List Seated → List ℕ
slots_in disks = map (λ disk. disk.seat.slot) disks

-- what their copies say: in a settled group each of them leads
abbrev pub views_in : List Seated → List View
views_in disks = map (λ disk. view_of disk.copy) disks

-- a disk that was written has its copy in both places
abbrev pub levelled : Seated → Seated
levelled disk = record disk { last = Secondary; mode = modes.Change }

-- the disk showed another group
abbrev pub is_adopted : Seated → Bool
is_adopted disk = writes_anchor disk.mode

-- ---- a group that a step was written to

-- the disk has its copy in both places
abbrev pub with_level : List (Option Newest) → Seated → List (Option Newest)
with_level newest disk = slice_set newest disk.seat.slot (Some (Level disk.copy))
