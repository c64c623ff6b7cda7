-- What is written of steps, and what they make of disks.
use Rattle.std.specs.Prelude.{◌≡◌, ◌⊎◌, ℕ, ◌<◌, List, [], ◌∷◌, length, map, slice_get, Some}
use Rattle.std.specs.List.{AllByRecursion}
use Rattle.ddf_bay.specs.State.{BayState}
use Rattle.ddf_bay.specs.Moments.{IsSettled, Keeps, StopsLeave}
use Rattle.ddf_bay.specs.Sectors.{Image, IsLeft}
use Rattle.ddf_copy.specs.declared.copy.DiskCopy.{DiskCopy}
use Rattle.ddf_copy.specs.declared.which.Which.TheVariants.{Primary}
use Rattle.ddf_copy.specs.Headers.{written_as}
use Rattle.ddf_config.specs.declared.seat.Seat.{Seat}
use Rattle.ddf_config.specs.Configuration.{Configuration}
use Rattle.ddf_update.specs.declared.prepared.Prepared.{Prepared}
use Rattle.ddf_update.specs.Changes.{IsLeftChangingAll, SlotChange}
use Rattle.ddf_seats.specs.declared.seated.Seated.{Seated}
use Rattle.ddf_seats.specs.Seated.{levelled}
use Rattle.ddf_steps.specs.Steps.{mode_of}
use Rattle.ddf_steps.specs.Ready.{ReadyStep}

-- ---- seats

abbrev pub slots_of : List Seat → List ℕ
slots_of seats = map (λ seat. seat.slot) seats

-- each seat is on a slot, of these sizes
abbrev pub HaveSlots : (sizes : List ℕ) → List Seat → Type 0
HaveSlots sizes seats = (place : ℕ) (seat : Seat) → slice_get seats place ≡ Some seat → seat.slot < length sizes

-- A stop leaves of the slots of the first seats, so many, what they hold.
abbrev pub AreSettled : {D : Type 0} → BayState D → List Seat → (count : ℕ) → Type 0
AreSettled disks seats count = (place : ℕ) (seat : Seat) → place < count → slice_get seats place ≡ Some seat → IsSettled disks.may_hold disks.held seat.slot

-- ---- the recovery

-- The bay once these slots were synced: a stop leaves of them what they hold.
abbrev pub synced : {D : Type 0} → BayState D → (slots : List ℕ) → BayState D
synced disks slots = record disks { may_hold = λ s l bytes. disks.may_hold s l bytes × ((place : ℕ) → slice_get slots place ≡ Some s → bytes ≡ disks.held s l) }

-- What a stop may leave at the end of a call that was cut short: what it might have left before, or, once these slots were synced, what
-- it might leave then, or while others of them were written.
abbrev pub LeavesSynced : {D : Type 0} (old new : BayState D) → (synced_slots slots : List ℕ) → (seat : ℕ → SlotChange) → List Prepared → Type 0
LeavesSynced old new synced_slots slots seat updates =
    Keeps old.may_hold new.may_hold
    ⊎ ((image : Image) → IsLeft new.may_hold image → IsLeft (synced old synced_slots).may_hold image ⊎ IsLeftChangingAll (synced old synced_slots) slots seat updates image)

-- Nothing was written: the disks hold what they held, and from entry to exit a stop leaves nothing else than before.
pub record IsNotWritten {D : Type 0} (old new : BayState D) : Type 0 where
  pub held : new.held ≡ old.held
  pub left : Keeps old.may_hold new.may_hold
  pub any_moment : StopsLeave old new (IsLeft old.may_hold)

-- ---- what was readied

-- A copy has the places and sections of another.
pub record HasPlacesOf (old new : DiskCopy) : Type 0 where
  pub same_primary : new.header.primary_lba ≡ old.header.primary_lba
  pub same_secondary : new.header.secondary_lba ≡ old.header.secondary_lba
  pub same_sections : new.header.geometry ≡ old.header.geometry

-- A disk of a step to this configuration is one of these disks, with a new copy of the configuration's group and sequence number, as its
-- primary place has it, where its old one is. It is written as one of the group where it showed that.
pub record IsRewritten (disks : List Seated) (config : Configuration) (disk : Seated) : Type 0 where
  pub place : ℕ
  pub before : Seated
  pub is_there : slice_get disks place ≡ Some before
  pub same_seat : disk.seat ≡ before.seat
  pub same_last : disk.last ≡ before.last
  pub as_primary : written_as disk.copy Primary ≡ disk.copy
  pub has_sequence : disk.copy.header.sequence ≡ config.sequence
  pub has_group : disk.copy.header.guid ≡ config.group
  pub has_places : HasPlacesOf before.copy disk.copy
  pub has_mode : disk.mode ≡ mode_of config before

-- each step rewrites disks of the step before it
abbrev pub AreRewriting : List Seated → List ReadyStep → Type 0
AreRewriting disks [] = Unit {0}
AreRewriting disks (one ∷ others) =
    AllByRecursion (IsRewritten disks one.step.config) one.step.disks × AreRewriting (map levelled one.step.disks) others

-- each step's sequence number is greater than that before it
abbrev pub DoRise : (sequence : ℕ) → List ReadyStep → Type 0
DoRise sequence [] = Unit {0}
DoRise sequence (one ∷ others) = (sequence < one.step.config.sequence) × DoRise one.step.config.sequence others

-- the copies of the disks have this sequence number
abbrev pub HaveSequence : (sequence : ℕ) → List Seated → Type 0
HaveSequence sequence disks = AllByRecursion (λ disk. disk.copy.header.sequence ≡ sequence) disks
