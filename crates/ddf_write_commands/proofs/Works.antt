-- What a work on the blocks of an array has to promise for the command that does it between the steps of a group.
use Rattle.std.proofs.Common.{◌≡◌, ◌⊎◌, ℕ, Bool, true, List}
use Rattle.ddf_bytes.specs.Counts.{Rose}
use Rattle.ddf_bay.specs.Moments.{StopsLeave}
use Rattle.ddf_bay.specs.Sectors.{Image, IsLeft, Outcomes}
use Rattle.ddf_bay.specs.State.{BayState}
use Rattle.ddf_config.specs.declared.seat.Seat.{Seat}
use Rattle.ddf_array.specs.Volume.{Volume}
use Rattle.ddf_read.specs.Reading.{Failed}
use Rattle.ddf_cells.specs.Touching.{GoesBetween}
use Rattle.ddf_update.specs.Group.{IsOneOf}
use Rattle.ddf_steps.specs.Committed.{slots_of}
use Rattle.ddf_history_steps.specs.BlockFloors.{StaySettled, WritesBelow}
use Rattle.ddf_write_commands.specs.Doing.{Doing}

-- What is said of a work stays so where more reads failed; what a stop might leave before it is left on its way; and an image that is left on its way is one of
-- those that are left where more might be left before.
pub record IsSteady (doing : Doing) : Type 1 where
  pub more_done : (P Q : ℕ → Type 0) → ((slot : ℕ) → P slot → Q slot) → (volume : Volume) (before image : Image) → doing.HasDone P volume before image → doing.HasDone Q volume before image
  pub more_left : (P Q : ℕ → Type 0) → ((slot : ℕ) → P slot → Q slot) → (volume : Volume) (slot : ℕ) → doing.NoneLeft P volume slot → doing.NoneLeft Q volume slot
  pub left_failed : (P : ℕ → Type 0) (volume : Volume) (slot : ℕ) → doing.NoneLeft P volume slot → P slot
  pub among_first : (volume : Volume) (before : Image) (may : Outcomes) (image : Image) → IsLeft may image → doing.IsAmong volume before may image
  pub among_more : (volume : Volume) (before : Image) (may more : Outcomes) → ((s l : ℕ) (bytes : List ℕ) → may s l bytes → more s l bytes) → (image : Image)
      → doing.IsAmong volume before may image → doing.IsAmong volume before more image

-- It wrote below the floors alone, and what the disks held and what a stop left of them is of the work. Where it was done a slot of which a stop left what it
-- holds is so still.
pub record HasWorked {D : Type 0} (doing : Doing) (tells : Type 0) (floor : ℕ → ℕ) (volume : Volume) (old new : BayState D) (done : Bool) : Type 0 where
  pub below : tells → WritesBelow floor old new
  pub stays : tells → done ≡ true → StaySettled old new
  pub among : tells → StopsLeave old new (λ image. doing.IsAmong volume old.held old.may_hold image)
  pub is_left : tells → doing.IsLeft volume old.held new.held
  pub has_done : tells → done ≡ true → doing.HasDone (Failed old new) volume old.held new.held
  pub goes : GoesBetween old new

-- It stopped at the slot of a seat: a write or a sync of it failed, or no source is left there.
pub record HasStopped {D : Type 0} (doing : Doing) (seats : List Seat) (volume : Volume) (old new : BayState D) (slot : ℕ) : Type 0 where
  pub is_seat : IsOneOf (slots_of seats) slot
  pub stopped : Rose (old.failed_writes slot) (new.failed_writes slot) ⊎ doing.NoneLeft (Failed old new) volume slot
