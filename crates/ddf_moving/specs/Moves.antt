-- A disk that may be moved.
use Rattle.std.specs.Prelude.{◌≡◌, ℕ, ◌+◌, ◌<◌, ◌≤◌, ◌^◌, List, Some, None, slice_get}
use Rattle.ddf_config.specs.declared.extent.Extent.{Extent}
use Rattle.ddf_header.specs.declared.reading.Header.{Header}
use Rattle.ddf_header.specs.declared.geometry.Geometry.{Geometry}
use Rattle.ddf_header.specs.Geometry.{section_of}
use Rattle.ddf_copy.specs.declared.copy.DiskCopy.{DiskCopy}
use Rattle.ddf_copy.specs.declared.which.Which.{Which}
use Rattle.ddf_copy.specs.Headers.{IsUnder}
use Rattle.ddf_copy.specs.Which.{place_of}
use Rattle.ddf_copy.specs.Written.{CanBeCopy}
use Rattle.ddf_moving.specs.Places.{copy_length}
use Rattle.ddf_moving.specs.Obstacles.{obstacle}

-- A disk of so many sectors may get the numbers of another one: its copy stands under its anchor, the other one's copy can be written and takes
-- no more sectors than so many, and nothing stands in the way.
pub record MayBeMoved (size room : ℕ) (anchor : Header) (old like : DiskCopy) (extents : List Extent) : Type 0 where
  pub is_size : size < 2 ^ 64
  pub is_under : IsUnder size anchor old
  pub is_like : CanBeCopy like
  pub has_room : copy_length like.header.geometry ≤ room
  pub is_free : obstacle old like size room extents ≡ None

-- a sector of a section behind the header at an LBA, be it one that is read or one that isn't
abbrev pub IsInSection : (lba : ℕ) → Geometry → (section l : ℕ) → Type 0
IsInSection lba geometry section l = (lba + (section_of geometry section).offset ≤ l) × (l < lba + (section_of geometry section).offset + (section_of geometry section).length)

-- A sector is none of diagnostic space or of a vendor's log, of either copy under an anchor, and none of the extents.
pub record IsUntaken (anchor : Header) (old : DiskCopy) (extents : List Extent) (l : ℕ) : Type 0 where
  pub no_other : (which : Which) (section : ℕ) → 6 ≤ section → section < 8 → IsInSection (place_of which anchor) old.header.geometry section l → ⊥
  pub no_extent : (k : ℕ) (extent : Extent) → slice_get extents k ≡ Some extent → extent.start ≤ l → l < extent.start + extent.blocks → ⊥
