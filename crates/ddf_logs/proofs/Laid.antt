-- How a copy that is read is laid out.
use Rattle.std.proofs.Common.{◌≡◌, ◌∙◌, ℕ, ltb, List, length, None, Ok, ap, subst}
use Rattle.ddf_lemmas.proofs.Options.{none_from_map}
use Rattle.ddf_bytes.proofs.Nones.{none_first}
use Rattle.ddf_header.specs.declared.kind.HeaderKind.{HeaderKind}
use Rattle.ddf_header.specs.declared.reading.Header.{Header}
use Rattle.ddf_header.specs.declared.geometry.Geometry.{Geometry}
use Rattle.ddf_header.specs.declared.fault.HeaderFault.TheVariants as faults
use Rattle.ddf_header.specs.Geometry.{IsSound, geometry_at, geometry_fault}
use Rattle.ddf_header.specs.Header.{decoded, faults_of, first_fault, header_at}
use Rattle.ddf_header.proofs.Sound.{sound}
use Rattle.ddf_header.proofs.Common.{eight_read}
use Rattle.ddf_copy.specs.declared.copy.DiskCopy.{DiskCopy}
use Rattle.ddf_copy.specs.declared.which.Which.{Which}
use Rattle.ddf_copy.specs.Copies.{copy_of}
use Rattle.ddf_copy.specs.Gate.{gated, header_in, header_of}
use Rattle.ddf_copy.specs.Which.{kind_of, place_of}
use Rattle.ddf_copy.proofs.Gates.{found_is, ok_parts, placed_parts}
use Rattle.ddf_copy.proofs.LastCopies.{header_is}
use Rattle.ddf_copy.proofs.Common.{gated_read}

-- a header without a fault has a sound geometry
pub no_fault : (kind : HeaderKind) (sector : List ℕ) → first_fault kind sector ≡ None → geometry_fault (geometry_at sector) ≡ None
unfolding first_fault
no_fault kind sector h = none_from_map faults.Geometry (geometry_fault (geometry_at sector)) (none_first (faults_of kind sector) h).1.1.1.1.1.0

pub decoded_is_sound : (kind : HeaderKind) (sector : List ℕ) (header : Header) → decoded kind sector ≡ Ok header → IsSound header.geometry
decoded_is_sound kind sector header is =
    let parts = ok_parts (first_fault kind sector) (header_at kind sector) header is in
    subst (λ (found : Header). IsSound found.geometry) parts.1 (sound (geometry_at sector) (no_fault kind sector parts.0))

pub header_sound : (size : ℕ) (sector : ℕ → List ℕ) (anchor : Header) (which : Which) (header : Header) → header_of size sector anchor which ≡ Ok header → IsSound header.geometry
unfolding header_of header_in
header_sound size sector anchor which header h =
    let bytes = sector (place_of which anchor) in
    let within = placed_parts (ltb (place_of which anchor) size) (gated size anchor which bytes (decoded (kind_of which) bytes)) header h in
    decoded_is_sound (kind_of which) bytes header (gated_read size anchor which bytes (decoded (kind_of which) bytes) header within)

module _ (size : ℕ) (sector : ℕ → List ℕ) (anchor : Header) (which : Which) (copy : DiskCopy) (is : copy_of size sector anchor which ≡ Ok copy) where
  pub copy_sound : IsSound copy.header.geometry
  copy_sound = header_sound size sector anchor which copy.header (header_is size sector anchor which copy is)

  pub copy_eight : length copy.header.geometry.sections ≡ 8
  copy_eight =
      ap (λ (geometry : Geometry). length geometry.sections) (found_is size sector anchor which copy.header (header_is size sector anchor which copy is)).geometry_is
      ∙ eight_read (sector (place_of which anchor))
