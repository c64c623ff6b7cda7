-- A disk that is founded for Linux is sealed in Linux's kind below what is seen of it.
use Rattle.std.proofs.Common.{◌≡◌, ℕ, ◌-◌, ◌≤◌, List, Ok, inl, inr, refl, ap, sym, ◌∙◌, subst, arith}
use Rattle.ddf_bay.specs.Sectors.{IsWhole}
use Rattle.ddf_seal.specs.Seal.{seal_check}
use Rattle.ddf_header.specs.declared.geometry.Geometry.{Geometry}
use Rattle.ddf_header.specs.declared.kind.HeaderKind.TheVariants.{Anchor}
use Rattle.ddf_header.specs.declared.reading.Header.{Header}
use Rattle.ddf_header.specs.Header.{decoded, header_signature}
use Rattle.ddf_copy.specs.declared.copy.DiskCopy.{DiskCopy}
use Rattle.ddf_copy.specs.declared.which.Which.{Which}
use Rattle.ddf_copy.specs.declared.which.Which.TheVariants.{Primary, Secondary}
use Rattle.ddf_copy.specs.Copies.{copy_of}
use Rattle.ddf_copy.specs.Gate.{header_of}
use Rattle.ddf_copy.specs.Headers.{anchor_header, written_as}
use Rattle.ddf_copy.specs.Sections.{copy_in, raw_at}
use Rattle.ddf_copy.specs.Which.{place_of}
use Rattle.ddf_update.specs.declared.new_layout.NewLayout.{NewLayout}
use Rattle.ddf_update.specs.NewCopies.{new_geometry}
use Rattle.ddf_update.specs.NewLayouts.{least_sectors, primary_back, secondary_back}
use Rattle.ddf_update.specs.Update.{AreBoth}
use Rattle.ddf_linux.specs.declared.kind.SlotKind.TheVariants.{Turned}
use Rattle.ddf_linux.specs.Crcs.{constant_of}
use Rattle.ddf_linux.specs.Founded.{IsCopyForLinux, IsDiskForLinux, IsOnNewDisk, below}
use Rattle.ddf_linux.specs.Places.{new_places}
use Rattle.ddf_linux.proofs.NewPlaces.{IsNewHeader, anchor_turned}
use Rattle.ddf_linux.proofs.SealedBelow.{IsPassed, and_then_ok, copy_below, IsTurnedBy, copy_header_passed, copy_passed, header_passed, one_below}
use Rattle.ddf_linux.proofs.SeenAnew.{anchor_read, new_names}

module _ (layout : NewLayout) (size : ℕ) (large : least_sectors layout ≤ size) (seen : ℕ → List ℕ) (whole : (l : ℕ) → IsWhole (seen l)) (copy : DiskCopy) (on_disk : IsOnNewDisk layout size copy.header)
    (both : AreBoth size seen (anchor_header copy) copy) where
  -- a copy that is read at one of the headers
  read_below : (which : Which) (header : ℕ) → IsNewHeader layout size header → place_of which (anchor_header copy) ≡ header
      → copy_of size seen (anchor_header copy) which ≡ Ok (written_as copy which) → IsCopyForLinux (new_geometry layout size) (below (Turned (new_places layout size)) seen) header
  unfolding copy_of
  read_below which header is_header place is =
      let read = and_then_ok (header_of size seen (anchor_header copy) which) (λ (found : Header). copy_in found (raw_at seen (place_of which (anchor_header copy)) found.geometry)) (written_as copy which) is in
      let passed = copy_passed read.0 (raw_at seen (place_of which (anchor_header copy)) read.0.geometry) (written_as copy which) read.2 in
      let same : read.0.geometry ≡ new_geometry layout size = ap (λ (found : Header). found.geometry) (sym passed.same_header) ∙ on_disk.geometry_is in
      let head = copy_header_passed size seen (anchor_header copy) which read.0 read.1 in
      let found : Header = read.0 in
      let own : DiskCopy = written_as copy which in
      copy_below layout size large seen whole header is_header found own same
      (subst (λ (l : ℕ). seal_check header_signature (seen l) ≡ Ok tt) place head)
      (subst (λ (geometry : Geometry). IsPassed found (raw_at seen header geometry) own) same
      (subst (λ (l : ℕ). IsPassed found (raw_at seen l found.geometry) own) place passed))

  is_read : decoded Anchor (seen (size - 1)) ≡ Ok (anchor_header copy)
  is_read = anchor_read size (omega (arith, large)) seen (anchor_header copy) both.is_anchored

  anchor_on : IsOnNewDisk layout size (anchor_header copy)
  anchor_on = record { primary_is = on_disk.primary_is; secondary_is = on_disk.secondary_is; geometry_is = on_disk.geometry_is }

  anchor_by : IsTurnedBy layout size seen whole (size - 1) header_signature (constant_of 512)
  anchor_by = λ begins. anchor_turned layout size (seen (size - 1)) begins (new_names layout size (seen (size - 1)) (anchor_header copy) is_read anchor_on)

  pub disk_below : IsDiskForLinux layout size (below (Turned (new_places layout size)) seen)
  disk_below = record {
    anchor = one_below layout size seen whole (size - 1) header_signature (omega arith) anchor_by (header_passed Anchor (seen (size - 1)) (anchor_header copy) is_read);
    primary = read_below Primary (size - primary_back layout) (inl refl) on_disk.primary_is both.primary_is;
    secondary = read_below Secondary (size - secondary_back layout) (inr refl) on_disk.secondary_is both.secondary_is;
  }
