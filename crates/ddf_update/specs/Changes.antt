-- The change of several slots: they get their new copies one after another.
use Rattle.std.specs.Prelude.{◌≡◌, ◌≢◌, ◌⊎◌, ℕ, ◌<◌, List, slice_get, Some, if◌then◌else◌}
use Rattle.ddf_bay.specs.State.{BayState, size_of}
use Rattle.ddf_bay.specs.Sectors.{Image}
use Rattle.ddf_bay.specs.Moments.{IsSettled}
use Rattle.ddf_header.specs.declared.reading.Header.{Header}
use Rattle.ddf_copy.specs.declared.copy.DiskCopy.{DiskCopy}
use Rattle.ddf_copy.specs.declared.which.Which.{Which}
use Rattle.ddf_copy.specs.Headers.{anchor_header}
use Rattle.ddf_update.specs.declared.prepared.Mode.{Mode}
use Rattle.ddf_update.specs.declared.prepared.Mode.TheVariants.{Adopt, Change, Found, Move}
use Rattle.ddf_update.specs.declared.prepared.Prepared.{Prepared}
use Rattle.ddf_update.specs.Prepared.{IsPrepared, writes_anchor}
use Rattle.ddf_update.specs.Update.{AreBoth, IsAdopting, IsChanging, IsMoving, IsWritten, MayAdopt, MayChange, MayMove}

-- What a slot has, and what it gets: how it is written, its anchor, the copy that is written last, the copy that it shows, and its new
-- one.
pub record SlotChange : Type 0 where
  pub mode : Mode
  pub anchor : Header
  pub last : Which
  pub old : DiskCopy
  pub new : DiskCopy

-- the anchor that it has then
abbrev pub anchor_after : SlotChange → Header
anchor_after seat = if writes_anchor seat.mode then anchor_header seat.new else seat.anchor

-- A slot may get its new copy: one of the group that it shows, or of another one. None is founded so.
abbrev pub MayGet : {D : Type 0} → Mode → BayState D → (slot : ℕ) → SlotChange → Type 0
MayGet Change disks slot seat = MayChange disks slot seat.anchor seat.last seat.old seat.new
MayGet Found disks slot seat = ⊥
MayGet Adopt disks slot seat = IsSettled disks.may_hold disks.held slot × MayAdopt disks slot seat.anchor seat.last seat.old seat.new
MayGet Move disks slot seat = IsSettled disks.may_hold disks.held slot × MayMove disks slot seat.anchor seat.last seat.old seat.new

-- A stop leaves it with its old or its new copy.
abbrev pub IsGetting : Mode → (size : ℕ) → (before now : ℕ → List ℕ) → Prepared → SlotChange → Type 0
IsGetting Change size before now update seat = IsChanging size before now update seat.anchor seat.last seat.old seat.new
IsGetting Found size before now update seat = ⊥
IsGetting Adopt size before now update seat = IsAdopting size before now update seat.last seat.old seat.new
IsGetting Move size before now update seat = IsMoving size before now update seat.new

-- Each slot may get the new copy of the seat at its place, which its update writes.
pub record MayChangeAll {D : Type 0} (disks : BayState D) (slots : List ℕ) (seat : ℕ → SlotChange) (updates : List Prepared) : Type 0 where
  pub may_change : (place slot : ℕ) → slice_get slots place ≡ Some slot → MayGet (seat place).mode disks slot (seat place)
  pub are_prepared : (place : ℕ) (update : Prepared) → slice_get updates place ≡ Some update → IsPrepared (seat place).new (seat place).last (seat place).mode update

-- A slot of so many sectors has the new copy in both places, under its anchor, and all outside what is written is as it was.
pub record HasChanged (size : ℕ) (before now : ℕ → List ℕ) (update : Prepared) (seat : SlotChange) : Type 0 where
  pub are_both : AreBoth size now (anchor_after seat) seat.new
  pub outside : (l : ℕ) → (now l ≡ before l) ⊎ IsWritten size update l

-- A stop leaves the slots before one of them with their new copies, this one with its old or its new copy, and those behind
-- it as they were. Other slots are as they might be left.
pub record IsLeftChangingAll {D : Type 0} (start : BayState D) (slots : List ℕ) (seat : ℕ → SlotChange) (updates : List Prepared) (image : Image) : Type 0 where
  pub turn : ℕ
  pub earlier : (place slot : ℕ) (update : Prepared) → place < turn → slice_get slots place ≡ Some slot → slice_get updates place ≡ Some update
      → HasChanged (size_of start slot) (start.held slot) (image slot) update (seat place)
  pub here : (slot : ℕ) (update : Prepared) → slice_get slots turn ≡ Some slot → slice_get updates turn ≡ Some update
      → IsGetting (seat turn).mode (size_of start slot) (start.held slot) (image slot) update (seat turn)
  pub later : (place slot l : ℕ) → turn < place → slice_get slots place ≡ Some slot → image slot l ≡ start.held slot l
  pub others : (s l : ℕ) → ((place : ℕ) → slice_get slots place ≢ Some s) → start.may_hold s l (image s l)

-- The first slots, so many, have their new copies, sure. All other slots are as they were.
pub record AreChanged {D : Type 0} (old new : BayState D) (slots : List ℕ) (seat : ℕ → SlotChange) (updates : List Prepared) (count : ℕ) : Type 0 where
  pub have_changed : (place slot : ℕ) (update : Prepared) → place < count → slice_get slots place ≡ Some slot → slice_get updates place ≡ Some update
      → HasChanged (size_of old slot) (old.held slot) (new.held slot) update (seat place)
  pub are_settled : (place slot : ℕ) → place < count → slice_get slots place ≡ Some slot → IsSettled new.may_hold new.held slot
  pub others : (s l : ℕ) → ((place : ℕ) → place < count → slice_get slots place ≢ Some s) → new.held s l ≡ old.held s l
  pub others_left : (s l : ℕ) (bytes : List ℕ) → ((place : ℕ) → place < count → slice_get slots place ≢ Some s) → new.may_hold s l bytes → old.may_hold s l bytes
