-- What holds of disks whose copies a change may be tried on.
use Rattle.std.specs.Prelude.{ℕ, ◌≡◌, ◌<◌, List, [], ◌∷◌}
use Rattle.ddf_seats.specs.declared.seated.Seated.{Seated}
use Rattle.std.specs.List.{AllByRecursion}
use Rattle.ddf_copy.specs.Written.{CanBeCopy}
use Rattle.ddf_config.specs.declared.seat.Seat.{Seat}
use Rattle.ddf_config.specs.Configuration.{Configuration}
use Rattle.ddf_rewrite.specs.Before.{Before}
use Rattle.ddf_rewrite.specs.Hold.{AreHeld, IsHoldable}

-- the sectors of a disk's configuration records
abbrev pub record_length : Seated → ℕ
record_length disk = disk.copy.header.geometry.record_length

-- The copy of each disk can be written.
abbrev pub AreCopies : List Seated → Type 0
AreCopies disks = AllByRecursion (λ disk. CanBeCopy disk.copy) disks

-- A disk's copy can be written, and it is of this group.
pub record IsOfGroup (config : Configuration) (disk : Seated) : Type 0 where
  pub is_copy : CanBeCopy disk.copy
  pub same_group : disk.copy.header.guid ≡ config.group

-- The records of all disks have this length.
abbrev pub HaveLength : (sectors : ℕ) → List Seated → Type 0
HaveLength sectors disks = AllByRecursion (λ disk. record_length disk ≡ sectors) disks

-- Where the records of these disks have one length, a copy of each can hold the configuration.
abbrev pub CanBeHeldOn : Configuration → List Seated → Type 0
CanBeHeldOn config disks = AllByRecursion (λ disk. HaveLength (record_length disk) disks → IsHoldable disk.copy.header.geometry.max_members config) disks

-- Where the records of these disks have one length, what leaders record can stand in those of each.
abbrev pub CanBeLed : Before → List Seated → Type 0
CanBeLed leaders disks = AllByRecursion (λ disk. HaveLength (record_length disk) disks → AreHeld disk.copy.header.geometry leaders) disks

-- Changes of this configuration may be tried on these disks.
pub record CanBeChanged (config : Configuration) (disks : List Seated) : Type 0 where
  pub of_group : AllByRecursion (IsOfGroup config) disks
  pub can_hold : CanBeHeldOn config disks

-- the slots of seats rise
abbrev pub SlotsRise : List Seat → Type 0
SlotsRise [] = Unit {0}
SlotsRise (seat ∷ seats) = AllByRecursion (λ other. seat.slot < other.slot) seats × SlotsRise seats
