-- The first fault of a sector, and that there is none.
use Rattle.std.proofs.Common.{◌≡◌, ℕ, true, false, List, Some, None, Ok, Err, eqb, refl}
use Rattle.std.specs.Int.{w64}
use Rattle.std.proofs.lemmas.Bool.{eq-eqb}
use Rattle.std.specs.Prelude.{slice_index}
use Rattle.ddf_bytes.specs.Bytes.{bytes_at, number_at}
use Rattle.ddf_seal.specs.Seal.{seal_check}
use Rattle.ddf_seal.specs.declared.sealing.SealFault.{SealFault}
use Rattle.ddf_header.specs.declared.kind.HeaderKind.{HeaderKind}
use Rattle.ddf_header.specs.declared.kind.Revision.{Revision}
use Rattle.ddf_header.specs.declared.fault.HeaderFault.TheVariants as faults
use Rattle.ddf_header.specs.declared.layout.TheConstants.{REVISION_AT, OPEN_FLAG_AT, PRIMARY_LBA_AT, SECONDARY_LBA_AT, KIND_AT}
use Rattle.ddf_header.specs.Layout.{kind_code, revision_of}
use Rattle.ddf_header.specs.Geometry.{geometry_at, geometry_fault}
use Rattle.ddf_header.specs.Header.{header_signature, is_open_flag, are_header_places, first_fault}

-- the conditions on a sector, one more at a time
pub record SealStands (sector : List ℕ) : Type 0 where
  pub seal_stands : seal_check header_signature sector ≡ Ok tt

pub record RevisionStands (sector : List ℕ) (revision : Revision) : Type 0 where
  pub before : SealStands sector
  pub revision_stands : revision_of (bytes_at sector REVISION_AT 8) ≡ Some revision

pub record FlagStands (kind : HeaderKind) (sector : List ℕ) (revision : Revision) : Type 0 where
  pub before : RevisionStands sector revision
  pub flag_stands : is_open_flag kind (slice_index sector OPEN_FLAG_AT) ≡ true

pub record PlacesStand (kind : HeaderKind) (sector : List ℕ) (revision : Revision) : Type 0 where
  pub before : FlagStands kind sector revision
  pub places_stand : are_header_places (number_at w64 sector PRIMARY_LBA_AT) (number_at w64 sector SECONDARY_LBA_AT) ≡ true

pub record KindStands (kind : HeaderKind) (sector : List ℕ) (revision : Revision) : Type 0 where
  pub before : PlacesStand kind sector revision
  pub kind_stands : slice_index sector KIND_AT ≡ kind_code kind

pub flag_stands_from : (kind : HeaderKind) (sector : List ℕ) (revision : Revision) → seal_check header_signature sector ≡ Ok tt → revision_of (bytes_at sector REVISION_AT 8) ≡ Some revision
    → is_open_flag kind (slice_index sector OPEN_FLAG_AT) ≡ true → FlagStands kind sector revision
flag_stands_from kind sector revision seal text flag = record { before = record { before = record { seal_stands = seal }; revision_stands = text }; flag_stands = flag }

pub seal_fault : (kind : HeaderKind) (sector : List ℕ) (fault : SealFault) → seal_check header_signature sector ≡ Err fault → first_fault kind sector ≡ Some (faults.Seal fault)
unfolding first_fault
seal_fault kind sector fault e = rw e refl

pub revision_fault : (kind : HeaderKind) (sector : List ℕ) → SealStands sector → revision_of (bytes_at sector REVISION_AT 8) ≡ None → first_fault kind sector ≡ Some faults.Revision
unfolding first_fault
revision_fault kind sector h e = rw (h.seal_stands, e) refl

pub flag_fault : (kind : HeaderKind) (sector : List ℕ) (revision : Revision) → RevisionStands sector revision → is_open_flag kind (slice_index sector OPEN_FLAG_AT) ≡ false → first_fault kind sector ≡ Some (faults.OpenFlag (slice_index sector OPEN_FLAG_AT))
unfolding first_fault
flag_fault kind sector revision h e = rw (h.before.seal_stands, h.revision_stands, e) refl

pub place_fault : (kind : HeaderKind) (sector : List ℕ) (revision : Revision) → FlagStands kind sector revision → are_header_places (number_at w64 sector PRIMARY_LBA_AT) (number_at w64 sector SECONDARY_LBA_AT) ≡ false → first_fault kind sector ≡ Some faults.Place
unfolding first_fault
place_fault kind sector revision h e = rw (h.before.before.seal_stands, h.before.revision_stands, h.flag_stands, e) refl

pub kind_fault : (kind : HeaderKind) (sector : List ℕ) (revision : Revision) → PlacesStand kind sector revision → eqb (slice_index sector KIND_AT) (kind_code kind) ≡ false → first_fault kind sector ≡ Some (faults.Kind (slice_index sector KIND_AT))
unfolding first_fault
kind_fault kind sector revision h e = rw (h.before.before.before.seal_stands, h.before.before.revision_stands, h.before.flag_stands, h.places_stand, e) refl

pub geometry_found : (kind : HeaderKind) (sector : List ℕ) (revision : Revision) (offset : ℕ) → KindStands kind sector revision → geometry_fault (geometry_at sector) ≡ Some offset → first_fault kind sector ≡ Some (faults.Geometry offset)
unfolding first_fault
geometry_found kind sector revision offset h e =
    let same : eqb (slice_index sector KIND_AT) (kind_code kind) ≡ true = eq-eqb (slice_index sector KIND_AT) (kind_code kind) h.kind_stands in
    rw (h.before.before.before.before.seal_stands, h.before.before.before.revision_stands, h.before.before.flag_stands, h.before.places_stand, same, e) refl

pub no_fault : (kind : HeaderKind) (sector : List ℕ) (revision : Revision) → KindStands kind sector revision → geometry_fault (geometry_at sector) ≡ None → first_fault kind sector ≡ None
unfolding first_fault
no_fault kind sector revision h e =
    let same : eqb (slice_index sector KIND_AT) (kind_code kind) ≡ true = eq-eqb (slice_index sector KIND_AT) (kind_code kind) h.kind_stands in
    rw (h.before.before.before.before.seal_stands, h.before.before.before.revision_stands, h.before.before.flag_stands, h.before.places_stand, same, e) refl
