-- The floors of disks: what lies on a disk for the blocks of arrays lies below its floor, and its records don't.
use Rattle.std.specs.Prelude.{◌≡◌, ℕ, ◌<◌, ◌≤◌, List, Some, Ok}
use Rattle.ddf_header.specs.declared.reading.Header.{Header}
use Rattle.ddf_copy.specs.declared.copy.DiskCopy.{DiskCopy}
use Rattle.ddf_copy.specs.declared.newest_copy.Newest.{Newest}
use Rattle.ddf_copy.specs.declared.which.Which.{Which}
use Rattle.ddf_copy.specs.Anchor.{anchor_at}
use Rattle.ddf_copy.specs.Copies.{newest_at, standing_copy}
use Rattle.ddf_copy.specs.Which.{place_of}
use Rattle.ddf_seats.specs.Group.{floor_of}

-- The copy that stands for a disk, by its size and the bytes of its sectors, has this floor. By the disk's anchor its copies stand there or behind it, and it
-- lies on the disk.
pub record HasFloor (size : ℕ) (sector : ℕ → List ℕ) (floor : ℕ) : Type 0 where
  pub same_floor : (newest : Newest) (copy : DiskCopy) → newest_at size sector ≡ Some newest → standing_copy newest ≡ Some copy → floor_of copy ≡ floor
  pub below : (anchor : Header) → anchor_at size sector ≡ Ok anchor → (which : Which) → floor ≤ place_of which anchor
  pub within : floor < size
