-- The array that a configuration and seats give, whether it is served or not: an extent that ends past its seat's floor counts as one of a
-- member without a seat.
use Rattle.std.specs.Prelude.{◌≡◌, ℕ, ◌<◌, ◌^◌, Bool, true, false, ◌&&◌, List, Option, Some, None, is_none, slice_get}
use Rattle.ddf_config.specs.declared.member.Member.{Member}
use Rattle.ddf_config.specs.declared.array.Array.{Array}
use Rattle.ddf_config.specs.declared.element.Position.{Position}
use Rattle.ddf_config.specs.declared.seat.Seat.{Seat}
use Rattle.ddf_config.specs.ElementValue.{ElementValue}
use Rattle.ddf_config.specs.Extents.{extent}
use Rattle.ddf_config.specs.Members.{is_current}
use Rattle.ddf_config.specs.Seats.{floor_of}
use Rattle.ddf_config.specs.Shapes.{array_tiers, has_shapes}
use Rattle.ddf_config.specs.States.{is_marked}
use Rattle.ddf_config.specs.Within.{is_complete}
use Rattle.ddf_array.specs.Volume.{Volume, IsVolume}
use Rattle.ddf_array.specs.Viewing.{parts_of, seat_slot}

-- The numbers of the array make an array, and this is it over these seats.
pub record IsOver (seats : List Seat) (array : Array) (volume : Volume) : Type 0 where
  pub tiers_are : array_tiers array ≡ Some volume.tiers
  pub parts_are : volume.parts ≡ parts_of seats array.elements
  pub marked_is : volume.marked ≡ is_marked array
  pub is_volume : IsVolume volume
  pub complete : is_complete array ≡ true
  pub shapes : has_shapes array ≡ true

-- a position of which only the disk isn't there: its member is current
abbrev pub lacks_disk : List (ℕ × Member) → List Seat → ElementValue → Position → Bool
lacks_disk members seats element position = is_current members position.reference && is_none (seat_slot seats (extent element.blocks position))

abbrev pub part_lacks : List (ℕ × Member) → List Seat → ℕ → Option ElementValue → Bool
part_lacks members seats position part =
    elim part [ None ↦ false | Some element ↦ elim (slice_get element.positions position) [ None ↦ false | Some one ↦ lacks_disk members seats element one ] ]

-- the same by element and position
abbrev pub absent_in : List (ℕ × Member) → List Seat → List (Option ElementValue) → (element position : ℕ) → Bool
absent_in members seats elements element position = elim (slice_get elements element) [ None ↦ false | Some part ↦ part_lacks members seats position part ]

-- the seats that are found are those of current members, and their floors are numbers of sectors
pub record AreCurrentSeats (members : List (ℕ × Member)) (seats : List Seat) : Type 0 where
  pub current : (reference floor : ℕ) → floor_of seats reference ≡ Some floor → is_current members reference ≡ true
  pub small : (reference floor : ℕ) → floor_of seats reference ≡ Some floor → floor < 2 ^ 64
