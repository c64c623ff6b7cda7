-- Extents of an array that don't meet (profile).
use Rattle.std.specs.Prelude.{◌≡◌, ℕ, ◌+◌, ◌<◌, ◌≤◌, true, List, Some, slice_get, is_some}
use Rattle.std.specs.Prelude.{nat_eq}
use Rattle.std.specs.Map.{lookup}
use Rattle.ddf_config.specs.declared.member.Member.{Member}
use Rattle.ddf_config.specs.declared.seat.Seat.{Seat}
use Rattle.ddf_array.specs.declared.part.Part.{Part}
use Rattle.ddf_array.specs.declared.place.Place.{Place}
use Rattle.ddf_array.specs.Volume.{Volume}

-- the extents of two places share a sector of a slot
pub record Overlaps (one other : Part) (first second : Place) : Type 0 where
  pub slot : ℕ
  pub on_one : first.slot ≡ Some slot
  pub on_other : second.slot ≡ Some slot
  pub lba : ℕ
  pub from_one : first.start ≤ lba
  pub in_one : lba < first.start + one.shape.blocks
  pub from_other : second.start ≤ lba
  pub in_other : lba < second.start + other.shape.blocks

-- no two places of an array do
abbrev pub IsApart : Volume → Type 0
IsApart volume =
    (element position other_element other_position : ℕ) (one other : Part) (first second : Place)
    → slice_get volume.parts element ≡ Some one → slice_get one.places position ≡ Some first
    → slice_get volume.parts other_element ≡ Some other → slice_get other.places other_position ≡ Some second
    → Overlaps one other first second → (element ≡ other_element) × (position ≡ other_position)

-- each seat is a member's, and no slot has the seats of two members
pub record AreSeats (members : List (ℕ × Member)) (seats : List Seat) : Type 0 where
  pub of_members : (k : ℕ) (seat : Seat) → slice_get seats k ≡ Some seat → is_some (lookup (nat_eq seat.reference) members) ≡ true
  pub differ : (j k : ℕ) (one other : Seat) → slice_get seats j ≡ Some one → slice_get seats k ≡ Some other → one.slot ≡ other.slot → one.reference ≡ other.reference
