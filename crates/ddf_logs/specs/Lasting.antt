-- Copies of a disk that carry one log.
use Rattle.std.specs.Prelude.{◌≡◌, ℕ, List, Option, Some, None, Ok}
use Rattle.ddf_header.specs.declared.reading.Header.{Header}
use Rattle.ddf_tables.specs.BadBlocks.{LogValue}
use Rattle.ddf_copy.specs.declared.copy.DiskCopy.{DiskCopy}
use Rattle.ddf_copy.specs.declared.which.Which.{Which}
use Rattle.ddf_copy.specs.Anchor.{anchor_at}
use Rattle.ddf_copy.specs.Copies.{copy_of}
use Rattle.ddf_logs.specs.Logs.{configured_size}

-- the same entries in order, and the same spare blocks
pub record IsSameLog (one other : LogValue) : Type 0 where
  pub entries : one.entries ≡ other.entries
  pub spare_count : one.spare_count ≡ other.spare_count
  pub first_spare : one.first_spare ≡ other.first_spare

abbrev pub AreSameLogs : Option LogValue → Option LogValue → Type 0
AreSameLogs (Some one) (Some other) = IsSameLog one other
AreSameLogs None None = Unit {0}
AreSameLogs one other = ⊥

-- A copy carries the log of another one, has the same sections, and lists its disk with as many sectors for arrays.
pub record CarriesLogOf (other copy : DiskCopy) : Type 0 where
  pub logs : AreSameLogs copy.bad other.bad
  pub sections : copy.header.geometry ≡ other.header.geometry
  pub sectors : configured_size copy ≡ configured_size other

-- A disk has this anchor and a whole copy under it, and each whole copy does.
pub record CarryLogOf (size : ℕ) (sector : ℕ → List ℕ) (anchor : Header) (other : DiskCopy) : Type 0 where
  pub is_anchored : anchor_at size sector ≡ Ok anchor
  pub place : Which
  pub whole : DiskCopy
  pub is_there : copy_of size sector anchor place ≡ Ok whole
  pub each : (which : Which) (copy : DiskCopy) → copy_of size sector anchor which ≡ Ok copy → CarriesLogOf other copy
