-- What a stop leaves of the disks of a group, as histories tell of it.
use Rattle.std.specs.Prelude.{◌≡◌, ℕ, ◌==◌, ◌&&◌, nat_lt, not, Bool, true, false, List, length, slice_index_or, if◌then◌else◌, Result, Ok, Err}
use Rattle.std.specs.List.{list_any}
use Rattle.ddf_bay.specs.Sectors.{Image, IsLeft, IsWhole}
use Rattle.ddf_bay.specs.State.{BayState}
use Rattle.ddf_header.specs.declared.reading.Header.{Header}
use Rattle.ddf_config.specs.Configuration.{Configuration}
use Rattle.ddf_copy.specs.declared.copy.DiskCopy.{DiskCopy}
use Rattle.ddf_copy.specs.declared.which.Which.TheVariants.{Primary, Secondary}
use Rattle.ddf_copy.specs.Anchor.{anchor_at}
use Rattle.ddf_copy.specs.Copies.{copy_of}
use Rattle.ddf_copy.specs.Written.{is_level}
use Rattle.ddf_view.specs.View.{view_of}
use Rattle.ddf_group.specs.declared.answer.Assembly.{Assembly}
use Rattle.ddf_history.specs.Issued.{Past}
use Rattle.ddf_history.specs.Promise.{IsKept}
use Rattle.ddf_history.specs.Answer.{Answer}
use Rattle.ddf_history.specs.Answer.Answer.{Is}
use Rattle.ddf_history.specs.Groups.{groups}
use Rattle.ddf_history.specs.Scenes.{answer_of, scene_of}
use Rattle.ddf_seats.specs.Group.{GroupValue}

-- Whatever a stop leaves of these disks shows what it should.
abbrev pub AreAllKept : {D : Type 0} → (group : List ℕ) → Past (groups group) → BayState D → Type 0
AreAllKept group past disks = (image : Image) → IsLeft disks.may_hold image → IsKept past (scene_of disks.sizes image)

-- the slots that a call reads: of the first, so many, those that aren't left out
abbrev pub is_read : (left : List Bool) → ℕ → Bool
is_read left slot = nat_lt slot (length left) && not (slice_index_or left slot false)

-- a slot is one of these
abbrev pub is_slot : (slots : List ℕ) → ℕ → Bool
is_slot slots slot = list_any (λ other. other == slot) slots

-- An image with what the slots hold that are about to be written.
abbrev pub unwritten : {D : Type 0} → BayState D → (slots : List ℕ) → Image → Image
unwritten start slots image s l = if is_slot slots s then start.held s l else image s l

-- The sectors of a disk hold bytes, 512 of them each.
abbrev pub HoldsBytes : (sector : ℕ → List ℕ) → Type 0
HoldsBytes sector = (l : ℕ) → IsWhole (sector l)

-- The disks as they read are one of the images that a stop may leave, of whole sectors.
pub record ReadsTrue {D : Type 0} (disks : BayState D) : Type 0 where
  pub is_left : IsLeft disks.may_hold disks.held
  pub holds_bytes : (slot : ℕ) → HoldsBytes (disks.held slot)

-- The two copies of a disk, where they are level, say the same. They do where its sectors hold bytes.
pub record SaysOne (size : ℕ) (sector : ℕ → List ℕ) : Type 0 where
  pub one_view : (anchor : Header) (primary secondary : DiskCopy) → anchor_at size sector ≡ Ok anchor → copy_of size sector anchor Primary ≡ Ok primary
      → copy_of size sector anchor Secondary ≡ Ok secondary → is_level primary secondary ≡ true → view_of primary ≡ view_of secondary

-- what assembly answers with a group's value, as histories tell of it
abbrev pub told_answer : Result GroupValue Assembly → Answer Configuration
told_answer (Ok group) = Is group.config
told_answer (Err fault) = answer_of (Err fault)
