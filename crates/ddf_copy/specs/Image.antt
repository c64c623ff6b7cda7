-- The bytes of a copy in its place.
use Rattle.std.specs.Prelude.{◌≡◌, ℕ, ◌*◌, List, ◌++◌, length}
use Rattle.std.specs.List.{flat_map}
use Rattle.ddf_header.specs.declared.geometry.Geometry.{Geometry}
use Rattle.ddf_copy.specs.declared.copy.DiskCopy.{DiskCopy}
use Rattle.ddf_copy.specs.declared.raw.Raw.{Raw}
use Rattle.ddf_copy.specs.declared.which.Which.{Which}
use Rattle.ddf_copy.specs.Gate.{header_bytes}
use Rattle.ddf_copy.specs.Headers.{closed_header}
use Rattle.ddf_copy.specs.Sections.{bytes_in, raw_at, raw_bytes}
use Rattle.ddf_copy.specs.Written.{sections_written}

-- the closed header, and behind it the sections that are written, in the order of the header
abbrev pub image_written : DiskCopy → Which → List ℕ
image_written copy which = header_bytes (closed_header copy which) ++ flat_map (λ section. section) (sections_written copy)

-- Each sector has 512 bytes, and those of the header and of the parts that are read are these.
pub record HoldsImage (sector : ℕ → List ℕ) (lba : ℕ) (geometry : Geometry) (image : List ℕ) : Type 0 where
  pub sectors_long : (l : ℕ) → length (sector l) ≡ 512
  pub bytes_are : sector lba ++ flat_map (λ section. section) (raw_bytes (raw_at sector lba geometry)) ≡ image

-- Each sector of the sections has 512 bytes.
pub record AreLong (raw : Raw) : Type 0 where
  pub controller_long : length raw.controller ≡ 512
  pub disks_long : length (bytes_in raw.disks) ≡ 512 * length raw.disks
  pub arrays_long : length (bytes_in raw.arrays) ≡ 512 * length raw.arrays
  pub records_long : length (bytes_in raw.records) ≡ 512 * length raw.records
  pub disk_data_long : length raw.disk_data ≡ 512
  pub bad_blocks_long : length (bytes_in raw.bad_blocks) ≡ 512 * length raw.bad_blocks
