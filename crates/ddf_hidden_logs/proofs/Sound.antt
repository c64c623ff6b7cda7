-- How a copy that is read is laid out.
use Rattle.std.proofs.Common.{◌≡◌, ◌∙◌, ℕ, List, length, Ok, ap}
use Rattle.ddf_header.specs.declared.reading.Header.{Header}
use Rattle.ddf_header.specs.declared.geometry.Geometry.{Geometry}
use Rattle.ddf_header.specs.Geometry.{IsSound}
use Rattle.ddf_header.proofs.Common.{eight_read}
use Rattle.ddf_copy.specs.declared.copy.DiskCopy.{DiskCopy}
use Rattle.ddf_copy.specs.declared.which.Which.{Which}
use Rattle.ddf_copy.specs.Copies.{copy_of}
use Rattle.ddf_copy.specs.Which.{place_of}
use Rattle.ddf_copy.proofs.Gates.{found_is}
use Rattle.ddf_copy.proofs.LastCopies.{header_is}
use Rattle.ddf_logs.proofs.Laid.{header_sound}

module _ (size : ℕ) (sector : ℕ → List ℕ) (anchor : Header) (which : Which) (copy : DiskCopy) (is : copy_of size sector anchor which ≡ Ok copy) where
  pub copy_sound : IsSound copy.header.geometry
  copy_sound = header_sound size sector anchor which copy.header (header_is size sector anchor which copy is)

  pub copy_eight : length copy.header.geometry.sections ≡ 8
  copy_eight =
      ap (λ (geometry : Geometry). length geometry.sections) (found_is size sector anchor which copy.header (header_is size sector anchor which copy is)).geometry_is
      ∙ eight_read (sector (place_of which anchor))
