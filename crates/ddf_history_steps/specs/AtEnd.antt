-- The end of a call's step: a settled group that disks hold, as the last change of a history.
use Rattle.std.specs.Prelude.{◌≡◌, ℕ, true, false, List, length, Some, slice_get}
use Rattle.ddf_bay.specs.State.{BayState, size_of}
use Rattle.ddf_bay.specs.Sectors.{IsLeft}
use Rattle.ddf_config.specs.Configuration.{Configuration}
use Rattle.ddf_view.specs.View.{view_of}
use Rattle.ddf_history.specs.Issued.{Past, is_away}
use Rattle.ddf_history.specs.Steps.{IsLast}
use Rattle.ddf_history.specs.Groups.{groups, disk_of, has_current}
use Rattle.ddf_seats.specs.declared.seated.Seated.{Seated}
use Rattle.ddf_recovery.specs.Committed.{HoldsGroup}
use Rattle.ddf_steps.specs.Committed.{slots_of}
use Rattle.ddf_seats.specs.Group.{GroupValue}
use Rattle.ddf_assembly.specs.Reading.{HaveAnchors}
use Rattle.ddf_seats.specs.Seated.{seated}
use Rattle.ddf_assembly.specs.Settled.{IsSettledGroup}
use Rattle.ddf_history_steps.specs.Kept.{AreAllKept, SaysOne, is_slot}

-- A disk's seat has the reference that its copy names, and the disk that it names is a current member.
pub record IsMember (config : Configuration) (disk : Seated) : Type 0 where
  pub same_reference : disk.seat.reference ≡ (view_of disk.copy).reference
  pub is_current : has_current config (disk_of (view_of disk.copy)) ≡ true

-- A group on disks, at the end of a list of changes of which the last is acknowledged: it is settled, the disks hold it, each slot of a current member
-- that isn't away is that of a seat, and whatever a stop leaves shows what it should.
pub record IsAtEnd (group : List ℕ) {D : Type 0} (past : Past (groups group)) (disks : BayState D) (found : GroupValue) : Type 0 where
  pub all_kept : AreAllKept group past disks
  pub is_last : IsLast past.changes past.changes.acked found.config
  pub is_settled : IsSettledGroup found
  pub holds : HoldsGroup disks found
  pub under : HaveAnchors disks.sizes found.newest
  pub same_slots : past.slots ≡ length disks.sizes
  pub same_group : found.config.group ≡ group
  pub are_seated : (slot : ℕ) → is_away past slot ≡ false → has_current found.config (past.disk slot) ≡ true → is_slot (slots_of found.seats) slot ≡ true
  -- each seat's disk is a current member
  pub are_members : (place : ℕ) (disk : Seated) → slice_get (seated found) place ≡ Some disk → IsMember found.config disk
  -- of each slot the two copies, where they are level, say the same
  pub says_one : (slot : ℕ) → SaysOne (size_of disks slot) (disks.held slot)
  -- the disks as they read are one of the images that a stop may leave
  pub is_left : IsLeft disks.may_hold disks.held
