-- A bay that is seen turned, by what the inner one tells.
use Rattle.std.specs.Prelude.{ℕ, List, if◌then◌else◌, slice_index}
use Rattle.ddf_bay.specs.Sectors.{Image}
use Rattle.ddf_bay.specs.State.{BayState}
use Rattle.ddf_linux.specs.declared.kind.SlotKind.{SlotKind}
use Rattle.ddf_linux.specs.Kinds.{kind_at, is_unread, turn}

-- an image, with each sector turned that is one of those
abbrev pub turned_image : List SlotKind → Image → Image
turned_image kinds image s l = turn (kind_at kinds s) l (image s l)

-- what is held, what a stop may leave and what it might have left, turned
abbrev pub turned_state : {D : Type 0} → List SlotKind → BayState D → BayState D
turned_state kinds disks = record disks {
  held = turned_image kinds disks.held;
  may_hold = λ s l bytes. disks.may_hold s l (turn (kind_at kinds s) l bytes);
  left_since = λ t image. disks.left_since t (turned_image kinds image);
}

-- Faults of a slot: of one that could not be read when the bay was made its own count, of another the inner bay's.
abbrev pub own_or : List SlotKind → List ℕ → (ℕ → ℕ) → ℕ → ℕ
own_or kinds own inner s = if is_unread (kind_at kinds s) then slice_index own s else inner s
