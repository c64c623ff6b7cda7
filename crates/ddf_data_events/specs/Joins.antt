-- What a call by which another group joins asks of a history of data.
use Rattle.std.specs.Prelude.{◌≡◌, ◌⊎◌, ℕ, Bool, true, false, List, [], Some, None, slice_index}
use Rattle.std.specs.Map.{lookup}
use Rattle.ddf_bay.specs.State.{BayState}
use Rattle.ddf_config.specs.declared.array.Array.{Array}
use Rattle.ddf_config.specs.Configuration.{Configuration}
use Rattle.ddf_config.specs.Members.{same_guid}
use Rattle.ddf_data_group.specs.Grouped.{Promises}
use Rattle.ddf_history.specs.Groups.{groups, has_current}
use Rattle.ddf_history.specs.Issued.{Past}
use Rattle.ddf_steps.specs.Committed.{slots_of}
use Rattle.ddf_seats.specs.Group.{GroupValue}
use Rattle.ddf_joining.specs.Joining.{config_joining}
use Rattle.ddf_history_steps.specs.Floors.{HasFloor}
use Rattle.ddf_history_steps.specs.Going.{IsAdmitted}
use Rattle.ddf_history_steps.specs.Kept.{is_slot}
use Rattle.ddf_data_events.specs.Moments.{KeepsAll, Moment}

-- Nothing is promised of an array that joins.
abbrev pub IsNonePromised : (joining : Configuration) → Promises → Type 0
IsNonePromised joining promises = (guid : List ℕ) (array : Array) → lookup (same_guid guid) joining.arrays ≡ Some array → promises guid ≡ None

-- The disk of each slot that joins has its floor, and of each that is known as a current member of the configuration that joins, by whatever a stop
-- may leave of the slot. None need have it on a slot that is lost.
abbrev pub HaveJoiningFloors : {D : Type 0} → (group : List ℕ) → Past (groups group) → BayState D → (floor : ℕ → ℕ) → (joining : GroupValue) → Type 0
HaveJoiningFloors group past disks floor joining =
    (slot : ℕ) → (is_slot (slots_of joining.seats) slot ≡ true) ⊎ ((past.lost slot ≡ false) × (has_current (config_joining joining) (past.disk slot) ≡ true)) → (sector : ℕ → List ℕ)
    → ((l : ℕ) → disks.may_hold slot l (sector l)) → HasFloor (slice_index disks.sizes slot) sector (floor slot)

-- A group that joins this one from a moment of its history on does so wholly, as a moment of its own history has it: that is one of the same bay,
-- with the same floors, at which all is kept; it admits what was found of the group by a look that left these slots out, and no member is absent.
pub record JoinsWholly {B : Type 0} (disks : B → BayState B) {group : List ℕ} (old : Moment group B) (former : List ℕ) (left : List Bool) (joining : GroupValue) (theirs : Moment former B) : Type 0 where
  pub same_bay : theirs.bay ≡ old.bay
  pub same_floor : theirs.floor ≡ old.floor
  pub keeps : KeepsAll disks theirs
  pub admitted : IsAdmitted former theirs.past (disks old.bay) left joining
  pub none_absent : joining.absent ≡ []
