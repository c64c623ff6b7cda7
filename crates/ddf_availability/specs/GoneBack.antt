-- Which disks hold positions of arrays and stand in there, and what becomes of them.
use Rattle.std.specs.Prelude.{◌≡◌, ℕ, Bool, true, not, ◌&&◌, List, [], ◌∷◌, None, Some, slice_get, nat_eq}
use Rattle.std.specs.Map.{keys_of, lookup}
use Rattle.std.specs.List.{IsDistinct}
use Rattle.ddf_config.specs.declared.array.Array.{Array}
use Rattle.ddf_config.specs.declared.element.Position.{Position}
use Rattle.ddf_config.specs.declared.member.Member.{Member}
use Rattle.ddf_config.specs.declared.member.SpareUse.TheVariants.{Revertible}
use Rattle.ddf_config.specs.declared.seat.Seat.{Seat}
use Rattle.ddf_config.specs.Configuration.{Configuration}
use Rattle.ddf_config.specs.ElementValue.{ElementValue}
use Rattle.ddf_config.specs.Members.{is_current, same_guid}
use Rattle.ddf_config.specs.Seats.{floor_of, slot_of}
use Rattle.ddf_plan.specs.declared.change.Change.{Change}
use Rattle.ddf_plan.specs.declared.change.Change.TheVariants.{Lose, Delete, Spare, Fail, Begin, Return}
use Rattle.ddf_plan.specs.Arrays.{HasNewGuid}
use Rattle.ddf_plan.specs.Changes.{changed_at}
use Rattle.ddf_plan.specs.Delete.{use_without}
use Rattle.ddf_plan.specs.Lose.{is_among}
use Rattle.ddf_import.specs.Clash.{join_cause}
use Rattle.ddf_import.specs.Joined.{joined}
use Rattle.ddf_array.specs.Viewing.{place_of}

-- ---- positions on disks

-- A position of an array is on a disk.
pub record IsOnDisk (config : Configuration) (guid : List ℕ) (element position reference : ℕ) : Type 0 where
  pub array : Array
  pub plan : ElementValue
  pub held : Position
  pub is_array : lookup (same_guid guid) config.arrays ≡ Some array
  pub is_plan : slice_get array.elements element ≡ Some (Some plan)
  pub is_held : slice_get plan.positions position ≡ Some held
  pub is_there : held.reference ≡ reference

-- A disk stands in at an element of an array: its reference is the element's stand-in, 0 being none, and a position of the element is on it.
pub record StandsInAt (config : Configuration) (guid : List ℕ) (reference : ℕ) : Type 0 where
  pub element : ℕ
  pub position : ℕ
  pub on : IsOnDisk config guid element position reference
  pub is_stand_in : on.plan.stand_in ≡ reference
  pub is_disk : reference ≡ 0 → ⊥

-- A position of an array is available on a disk over these seats: it is in sync, from this start on, on the slot of the disk's seat, and no row of it is left to be rebuilt.
pub record IsAvailableOn (config : Configuration) (seats : List Seat) (guid : List ℕ) (element position reference start : ℕ) : Type 0 where
  pub on : IsOnDisk config guid element position reference
  pub place : place_of seats on.plan.blocks on.held ≡ record { slot = Some (slot_of seats reference); start = start; synced = true; row = 0 }

-- ---- members

-- each seat is that of a current member
abbrev pub AreSeatsOf : Configuration → List Seat → Type 0
AreSeatsOf config seats = (reference floor : ℕ) → floor_of seats reference ≡ Some floor → is_current config.members reference ≡ true

-- a member that is a revertible spare
abbrev pub as_revertible : Member → Member
as_revertible member = record member { spare = Revertible }

-- a member that is no spare for this array
abbrev pub as_spare_without : List ℕ → Member → Member
as_spare_without guid member = record member { spare = use_without guid member.spare }

-- ---- what comes in between

-- A change leaves a position of an array where it is: its rebuild doesn't begin, it doesn't go to another disk, and its array isn't deleted.
abbrev pub leaves_place : List ℕ → (element position : ℕ) → Change → Bool
leaves_place guid element position (Begin named at one disk start) = not (same_guid named guid && nat_eq at element && nat_eq one position)
leaves_place guid element position (Return named at one disk start) = not (same_guid named guid && nat_eq at element && nat_eq one position)
leaves_place guid element position (Delete gone) = not (same_guid gone guid)
leaves_place guid element position other = true

-- It leaves a disk a current member, and gives it no use as a spare.
abbrev pub leaves_disk : ℕ → Change → Bool
leaves_disk reference (Lose references) = not (is_among references reference)
leaves_disk reference (Fail failed) = not (nat_eq failed reference)
leaves_disk reference (Spare spare next) = not (nat_eq spare reference)
leaves_disk reference other = true

-- what comes to a configuration: a change, or the disks and arrays of another group, each at the sequence number that it is given
pub data Between : Type 0 where
  ByChange : Change → ℕ → Between
  ByJoin : Configuration → ℕ → Between

-- the configuration behind it
abbrev pub behind : Configuration → Between → Configuration
behind config (ByChange change sequence) = changed_at config change sequence
behind config (ByJoin joining sequence) = record (joined config joining) { sequence = sequence }

-- and behind several, one after the other
abbrev pub behind_all : Configuration → List Between → Configuration
behind_all config [] = config
behind_all config (step ∷ steps) = behind_all (behind config step) steps

-- It leaves a position where it is, and its disk a member. The GUID of an array that is created is new, and so are those of the arrays of a group that joins: the join isn't
-- refused, and no two arrays of that group have the same one.
abbrev pub LeavesPlace : List ℕ → (element position reference : ℕ) → Configuration → Between → Type 0
LeavesPlace guid element position reference config (ByChange change sequence) =
    (leaves_place guid element position change ≡ true) × (leaves_disk reference change ≡ true) × HasNewGuid config.arrays change
LeavesPlace guid element position reference config (ByJoin joining sequence) = (join_cause config joining ≡ None) × IsDistinct same_guid (keys_of joining.arrays)

-- each of several does, where it comes
abbrev pub AllLeavePlace : List ℕ → (element position reference : ℕ) → Configuration → List Between → Type 0
AllLeavePlace guid element position reference config [] = Unit {0}
AllLeavePlace guid element position reference config (step ∷ steps) =
    LeavesPlace guid element position reference config step × AllLeavePlace guid element position reference (behind config step) steps
